use Rattle.later_bodies.proofs.Frames.{stand_beside}
use Rattle.later_bodies.proofs.others.names_stand_beside_others.Goals as goal

pub returns : goal.returns
returns c = λ p names s t ys is. stand_beside p s ys names t is
