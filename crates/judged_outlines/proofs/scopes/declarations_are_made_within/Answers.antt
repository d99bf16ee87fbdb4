use Rattle.judged_modules.proofs.Keeping.{given}
use Rattle.judged_outlines.proofs.Tidies.{within_decls}
use Rattle.judged_outlines.proofs.scopes.declarations_are_made_within.Goals as goal

pub returns : goal.returns
returns c = λ p d s t u is within. given (tt, u) (within_decls p s d t within) is
