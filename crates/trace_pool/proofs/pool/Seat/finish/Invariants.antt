use Rattle.trace_pool.specs.Plays.{over, over_fact}
use Rattle.trace_pool.specs.Sits.{Amid}
use Rattle.std.specs.Prelude.{Some}
use Rattle.trace_pool.proofs.pool.Seat.finish.Given as goal

abbrev pub invariant-loop-child : goal.invariant-loop-child
invariant-loop-child g l = Amid (over g.W.Work.parents) (over_fact g.W.Work.is_hint) l.pool.table.shared.table_id l.self.seat.table_id (Some l.pool.table.shared.key) l.fn.self.seat.me.0 l.trace l.self.stage l.self.seat.me l.child-iterator.rest.items
