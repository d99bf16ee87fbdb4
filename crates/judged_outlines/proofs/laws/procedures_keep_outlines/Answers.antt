use Rattle.judged_outlines.proofs.Outlined.{procedure_outlined}
use Rattle.judged_outlines.proofs.laws.procedures_keep_outlines.Goals as goal

pub returns : goal.returns
returns c = λ k p q h s j is upright later begins. procedure_outlined k p s upright later begins q h j is
