use Rattle.ob_judge.specs.Judged.{Keeps}
use Rattle.ob_judge.specs.Names.{Whole}
use Rattle.check_types.proofs.steps.Answering.{goes_on}
use Rattle.check_selectors.proofs.selectors.member_at.Goals as goal

pub returns : goal.returns
returns c = goes_on _ (λ o. Keeps (Whole o)) c.in_ok-named.ensures (λ o h. record { by = h })
