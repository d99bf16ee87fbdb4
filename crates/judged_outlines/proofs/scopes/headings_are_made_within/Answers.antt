use Rattle.judged_modules.proofs.Keeping.{given}
use Rattle.judged_outlines.proofs.Tidies.{within_heading}
use Rattle.judged_outlines.proofs.scopes.headings_are_made_within.Goals as goal

pub returns : goal.returns
returns c = λ p f name x is_local s t u h is within. given (h, u) (within_heading p s f name x is_local t within) is
