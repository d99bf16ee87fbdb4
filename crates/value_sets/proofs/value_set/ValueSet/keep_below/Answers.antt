use Rattle.std.specs.Prelude.{nat_lt}
use Rattle.value_sets.proofs.Sets.{filtered_is}
use Rattle.value_sets.proofs.value_set.ValueSet.keep_below.Goals as goal

pub returns : goal.returns
returns c = filtered_is c.self.inside.words.items c.cut.new.words.items c.args.self.now (λ v. nat_lt v c.args.limit) c.self.view_is c.cut.ensures.kept
