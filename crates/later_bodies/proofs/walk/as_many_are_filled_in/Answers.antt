use Rattle.later_bodies.proofs.Walked.{filled_length}
use Rattle.later_bodies.proofs.walk.as_many_are_filled_in.Goals as goal

pub returns : goal.returns
returns c = λ ps xs. filled_length ps xs
