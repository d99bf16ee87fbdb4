use Rattle.later_bodies.proofs.Frames.{procedures_beside}
use Rattle.later_bodies.proofs.others.all_procedures_are_judged_beside_others.Goals as goal

pub returns : goal.returns
returns c = λ p x s t ys many is. procedures_beside p s ys many x t is
