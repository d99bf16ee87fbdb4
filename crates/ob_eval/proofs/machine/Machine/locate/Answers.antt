use Rattle.eval_tasks.specs.Weights.{of_designator}
use Rattle.ob_eval.proofs.Falling.{falls_given, designator_weighs}
use Rattle.ob_eval.proofs.machine.Machine.locate.Goals as goal

pub returns-in_ok-hand-in-Ok-Some-clause-falls : goal.returns-in_ok-hand-in-Ok-Some-clause-falls
returns-in_ok-hand-in-Ok-Some-clause-falls c = falls_given c.args.self.now c.hand.new.self _ (of_designator c.args.d.now) c.in_ok-hand-in-Ok-Some.ensures.ok (designator_weighs c.args.d.now)
