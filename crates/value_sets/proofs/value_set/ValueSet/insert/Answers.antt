use Rattle.std.proofs.lemmas.Result.{on_ok_weaker}
use Rattle.value_sets.proofs.Sets.{inserted_is}
use Rattle.value_sets.proofs.value_set.ValueSet.insert.Goals as goal

pub returns : goal.returns
returns c = on_ok_weaker c.join.result (inserted_is c.self.inside.words.items c.join.new.words.items c.args.self.now c.args.value c.self.view_is) c.join.ensures.joined
