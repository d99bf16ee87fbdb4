use Rattle.std.proofs.Common.{◌≡◌, ◌≤◌, ℕ, List}
use Rattle.outside.specs.Sink.{TookAll}
use Rattle.eval_store.specs.Did.{Sensible}
use Rattle.eval_tasks.specs.Framed.{prefixed}
use Rattle.ob_eval.specs.Steps.{left}
use Rattle.ob_eval.proofs.machine.Machine.run.Given as goal

abbrev pub invariant-turns : goal.invariant-turns
invariant-turns g l = record {
  taken : (t : List ℕ) × TookAll (g.O.Sink.account l.fn.out) (g.O.Sink.account l.out) t × (left l.laid l.fn.self ≡ prefixed t (left l.laid l.self));
  sense : Sensible (left l.laid l.self);
  faults : (g.O.Sink.account l.fn.out).faults ≤ (g.O.Sink.account l.out).faults;
}

abbrev pub decreases-turns : goal.decreases-turns
decreases-turns g l = l.self.world.turns
