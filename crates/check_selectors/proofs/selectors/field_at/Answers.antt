use Rattle.check_types.proofs.steps.Answering.{goes_on, stop, exit, as_judged}
use Rattle.check_selectors.proofs.selectors.field_at.Goals as goal

pub returns-in_err-part : goal.returns-in_err-part
returns-in_err-part c = λ a h. exit _ c.from_residual-in_err-part.ensures.1 (goes_on _ _ (c.in_ok-x.ensures a h) (λ x k. stop _ _ (c.in_err-part.ensures x k)))

pub returns : goal.returns
returns c = λ a h. goes_on _ _ (c.in_ok-x.ensures a h) (λ x k. goes_on _ _ (c.in_ok-part.ensures x k) (λ y e. record { by = e }))
