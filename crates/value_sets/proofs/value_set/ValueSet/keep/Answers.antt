use Rattle.std.proofs.Common.{◌∙◌, ap}
use Rattle.value_sets.specs.Words.{values_of}
use Rattle.value_sets.proofs.Sets.{kept_is}
use Rattle.value_sets.proofs.value_set.ValueSet.keep.Goals as goal

pub returns : goal.returns
returns c = kept_is c.self.inside.words.items c.keep.new.words.items c.as_slice.result.now c.args.self.now c.args.others.now c.self.view_is (ap values_of c.as_slice.ensures.value ∙ c.others.view_is) c.keep.ensures.kept
