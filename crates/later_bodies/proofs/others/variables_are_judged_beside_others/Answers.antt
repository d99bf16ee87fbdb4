use Rattle.later_bodies.proofs.Frames.{var_beside}
use Rattle.later_bodies.proofs.others.variables_are_judged_beside_others.Goals as goal

pub returns : goal.returns
returns c = λ p d s t ys is. var_beside p s ys d t is
