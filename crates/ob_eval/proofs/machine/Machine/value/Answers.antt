use Rattle.ob_eval.proofs.Falling.{falls_given, expr_weighs}
use Rattle.eval_tasks.specs.Weights.{of_expr}
use Rattle.ob_eval.proofs.machine.Machine.value.Goals as goal

pub returns-in_ok-give-in-Ok-Some-clause-falls : goal.returns-in_ok-give-in-Ok-Some-clause-falls
returns-in_ok-give-in-Ok-Some-clause-falls c = falls_given c.args.self.now c.give.new.self _ (of_expr c.args.e.now) c.in_ok-give-in-Ok-Some.ensures.ok (expr_weighs c.args.e.now)
