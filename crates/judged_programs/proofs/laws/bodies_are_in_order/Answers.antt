use Rattle.judged_programs.proofs.WellFormedPrograms.{ordered}
use Rattle.judged_programs.proofs.laws.bodies_are_in_order.Goals as goal

pub returns : goal.returns
returns c = λ ms p of. ordered ms p of
