use Rattle.later_bodies.proofs.Frames.{procedure_beside}
use Rattle.later_bodies.proofs.others.procedures_are_judged_beside_others.Goals as goal

pub returns : goal.returns
returns c = λ p q s t ys many is. procedure_beside p s ys many q t is
