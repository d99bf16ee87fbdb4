use Rattle.later_bodies.proofs.Frames.{const_beside}
use Rattle.later_bodies.proofs.others.constants_are_judged_beside_others.Goals as goal

pub returns : goal.returns
returns c = λ p d s t ys is. const_beside p s ys d t is
