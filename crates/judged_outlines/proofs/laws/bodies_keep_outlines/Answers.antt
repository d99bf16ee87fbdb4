use Rattle.judged_outlines.proofs.Outlined.{body_outlined}
use Rattle.judged_outlines.proofs.laws.bodies_keep_outlines.Goals as goal

pub returns : goal.returns
returns c = λ k p b s xs is upright later begins. body_outlined k p s upright later begins b xs is
