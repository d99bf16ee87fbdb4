use Rattle.std.proofs.Common.{◌∙◌, ap}
use Rattle.value_sets.specs.Words.{values_of}
use Rattle.value_sets.proofs.Sets.{no_values}
use Rattle.value_sets.proofs.value_set.ValueSet.new.Goals as goal

pub returns : goal.returns
returns c = ap values_of c.new.ensures.items ∙ no_values
