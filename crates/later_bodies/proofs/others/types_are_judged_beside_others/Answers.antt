use Rattle.later_bodies.proofs.Frames.{types_beside}
use Rattle.later_bodies.proofs.others.types_are_judged_beside_others.Goals as goal

pub returns : goal.returns
returns c = λ p ds s t ys is. types_beside p s ys ds t is
