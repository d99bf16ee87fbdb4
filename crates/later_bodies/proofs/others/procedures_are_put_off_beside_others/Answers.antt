use Rattle.later_bodies.proofs.PutOff.{put_off_beside}
use Rattle.later_bodies.proofs.others.procedures_are_put_off_beside_others.Goals as goal

pub returns : goal.returns
returns c = λ p q s w ys many is. put_off_beside p q s ys many w is
