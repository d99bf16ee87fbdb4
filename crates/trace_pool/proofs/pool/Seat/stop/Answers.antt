use Rattle.std.proofs.Common.{arith, subst}
use Rattle.trace_pool.specs.Plays.{over, over_fact}
use Rattle.trace_pool.specs.Sits.{IsStopping}
use Rattle.trace_pool.proofs.Stops.{stops}
use Rattle.pool_core.specs.declared.model.Stage.{Stage}
use Rattle.trace_pool.proofs.pool.Seat.stop.Goals as goal

pub store-requires : goal.store-requires
store-requires g c =
    let wide = c.args.pool.now.sized in
    let seat = c.empty_slot.new.self in
    let e = c.empty_slot.ensures in (
      e.sits.same_table,
      omega arith,
      stops (over g.W.Work.parents) (over_fact g.W.Work.is_hint) (over_fact g.W.Work.is_final) _ _ seat.seat.me _ e.sits.same_work (subst (λ (st : Stage). IsStopping st seat.seat.me.1) seat.same e.ready),
    )
