use Rattle.judged_programs.proofs.WellFormedPrograms.{fine_variables}
use Rattle.judged_programs.proofs.laws.variables_are_fine.Goals as goal

pub returns : goal.returns
returns c = λ ms p of legal results. fine_variables ms p of legal results
