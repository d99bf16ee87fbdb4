use Rattle.std.proofs.Common.{refl}
use Rattle.pool_run.proofs.Calls.{may_stop}
use Rattle.pool_run.proofs.tests.calls.stopped_seats_give_up.Goals as goal

pub stop-requires-clause-may : goal.stop-requires-clause-may
stop-requires-clause-may g c κs =
    let a = c.in-Task-eq0-None in may_stop c.look-2.new.self.stage a.trace (a.ensures.task a.trace a.hint refl).0
