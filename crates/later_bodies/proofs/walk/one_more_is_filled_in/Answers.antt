use Rattle.later_bodies.proofs.Walked.{filled_last}
use Rattle.later_bodies.proofs.walk.one_more_is_filled_in.Goals as goal

pub returns : goal.returns
returns c = λ ps xs x. filled_last ps xs x
