use Rattle.check_types.proofs.steps.Answering.{goes_on, stop, exit, as_judged}
use Rattle.ob_judge.specs.Judged.{Keeps}
use Rattle.check_operands.proofs.calls.Binding.{kept_on}
use Rattle.check_selectors.proofs.begun.narrowed_operand.Goals as goal

pub returns : goal.returns
returns c = as_judged (kept_on _) (goes_on _ (λ a. Keeps a) c.in_ok-x.ensures (λ a h. c.operand.ensures a h))
