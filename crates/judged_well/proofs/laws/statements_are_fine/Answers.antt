use Rattle.judged_well.proofs.Statements.{t_statements}
use Rattle.judged_well.proofs.laws.statements_are_fine.Goals as goal

pub returns : goal.returns
returns c = λ e order p read w right x. t_statements e order p read w right x
