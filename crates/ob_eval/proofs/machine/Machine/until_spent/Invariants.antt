use Rattle.std.proofs.Common.{◌≡◌}
use Rattle.eval_tasks.specs.Weights.{weights}
use Rattle.ob_eval.specs.Steps.{left}
use Rattle.ob_eval.proofs.machine.Machine.until_spent.Given as goal

abbrev pub invariant-steps : goal.invariant-steps
invariant-steps l = (left l.laid l.fn.self ≡ left l.laid l.self) × (l.self.world.turns ≡ l.fn.self.world.turns)

abbrev pub decreases-steps : goal.decreases-steps
decreases-steps l = weights l.self.tasks
