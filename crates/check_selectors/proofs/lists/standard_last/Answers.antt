use Rattle.check_types.proofs.steps.Answering.{goes_on, stop, exit, as_judged}
use Rattle.check_selectors.proofs.lists.standard_last.Goals as goal

pub returns-in_err-x : goal.returns-in_err-x
returns-in_err-x c = λ xs h. exit _ c.from_residual.ensures.1 (stop _ _ (c.in_err-x.ensures xs h))

pub returns : goal.returns
returns c = λ xs h. goes_on _ _ (c.in_ok-x.ensures xs h) (λ a k. record { by = k })
