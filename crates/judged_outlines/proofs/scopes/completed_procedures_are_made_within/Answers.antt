use Rattle.judged_modules.proofs.Keeping.{given}
use Rattle.judged_outlines.proofs.Tidies.{within_completes}
use Rattle.judged_outlines.proofs.scopes.completed_procedures_are_made_within.Goals as goal

pub returns : goal.returns
returns c = λ p f q h s t u is within. given (tt, u) (within_completes p s f q h t within) is
