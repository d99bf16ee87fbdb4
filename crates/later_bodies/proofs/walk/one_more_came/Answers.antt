use Rattle.later_bodies.proofs.Walked.{came_next}
use Rattle.later_bodies.proofs.walk.one_more_came.Goals as goal

pub returns : goal.returns
returns c = λ p ws xs w x came last. came_next p ws xs w x came last
