use Rattle.later_bodies.proofs.Walked.{all_filled}
use Rattle.later_bodies.proofs.walk.bodies_are_filled_in.Goals as goal

pub returns : goal.returns
returns c = λ p ds first s ws xs so_far came. all_filled p ds first s ws xs so_far came
