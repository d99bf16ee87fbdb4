use Rattle.judged_tree.proofs.OneShape.{one-shape}
use Rattle.judged_tree.proofs.laws.each_has_one_shape.Goals as goal

pub returns : goal.returns
returns c = λ t front each. one-shape t each front
