use Rattle.std.proofs.lemmas.Result.{on_ok_weaker}
use Rattle.value_sets.proofs.Sets.{live_inserted}
use Rattle.value_sets.proofs.value_set.ValueSet.insert_live.Goals as goal

pub returns : goal.returns
returns c = on_ok_weaker c.join_below.result (live_inserted c.self.inside.words.items c.join_below.new.words.items c.args.self.now c.row.result.now c.args.live.now c.args.node c.args.values c.self.view_is c.row.ensures) c.join_below.ensures.joined
