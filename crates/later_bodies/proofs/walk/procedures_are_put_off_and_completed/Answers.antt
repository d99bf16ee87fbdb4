use Rattle.later_bodies.proofs.Waits.{put_off_is}
use Rattle.later_bodies.proofs.walk.procedures_are_put_off_and_completed.Goals as goal

pub returns : goal.returns
returns c = λ p q s. put_off_is p q s
