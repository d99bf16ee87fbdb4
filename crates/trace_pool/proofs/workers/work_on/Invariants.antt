use Rattle.std.proofs.Common.{◌≡◌}
use Rattle.pool_core.specs.declared.model.Stage.TheVariants as stage
use Rattle.trace_pool.specs.Sits.{SitsOn}
use Rattle.trace_pool.proofs.workers.work_on.Given as goal

abbrev pub invariant-loop : goal.invariant-loop
invariant-loop g l = record {
  sits : SitsOn g.W.Work.parents l.pool.table.shared.table_id l.seat.seat.table_id l.pool.table.shared.key l.seat.stage l.seat.seat.me;
  idle : l.seat.stage ≡ stage.Idle;
  draws : l.seat.seat.me.0.worker.draws ≡ l.counter;
  same_share : l.seat.seat.me.0.worker.share ≡ l.initial.seat.seat.me.0.worker.share;
}
