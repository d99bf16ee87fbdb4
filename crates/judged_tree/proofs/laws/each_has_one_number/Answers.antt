use Rattle.judged_tree.proofs.OneShape.{one-number}
use Rattle.judged_tree.proofs.laws.each_has_one_number.Goals as goal

pub returns : goal.returns
returns c = λ t front each. one-number t each front
