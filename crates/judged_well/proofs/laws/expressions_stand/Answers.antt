use Rattle.judged_well.proofs.Tree.{t_expression}
use Rattle.judged_well.proofs.laws.expressions_stand.Goals as goal

pub returns : goal.returns
returns c = λ e order p read w right x. t_expression e order p read w right x
