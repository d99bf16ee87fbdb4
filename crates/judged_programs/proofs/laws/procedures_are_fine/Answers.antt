use Rattle.judged_programs.proofs.WellFormedPrograms.{fine_procedures}
use Rattle.judged_programs.proofs.laws.procedures_are_fine.Goals as goal

pub returns : goal.returns
returns c = λ ms p read of legal results. fine_procedures ms p of legal read results
