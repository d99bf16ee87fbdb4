use Rattle.judged_outlines.proofs.Outlined.{answer_outlined}
use Rattle.judged_outlines.proofs.laws.answers_keep_outlines.Goals as goal

pub returns : goal.returns
returns c = λ k p result end_word r s a is upright later begins. answer_outlined k p s upright later begins result end_word r a is
