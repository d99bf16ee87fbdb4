use Rattle.std.proofs.Common.{arith}
use Rattle.std.specs.Prelude.{Some}
use Rattle.trace_pool.specs.Plays.{over, over_fact}
use Rattle.trace_pool.proofs.Ends.{completes}
use Rattle.trace_pool.proofs.pool.Seat.complete.Goals as goal

pub load-requires : goal.load-requires
load-requires g c =
    let wide = c.args.pool.now.sized in
    (c.requires.sits.same_table, omega arith, completes (over g.W.Work.parents) (over_fact g.W.Work.is_hint) (over_fact g.W.Work.is_final) _ _ c.args.self.now.seat.me (Some c.args.pool.now.table.shared.key))
