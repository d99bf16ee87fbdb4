use Rattle.judged_well.proofs.Whole.{statements_fine}
use Rattle.judged_well.proofs.laws.bodies_are_fine.Goals as goal

pub returns : goal.returns
returns c = λ p ok inside fine at s read w right x xs is body same. statements_fine p ok inside at fine s read w right x xs is body same
