use Rattle.judged_programs.proofs.WellFormedPrograms.{fine_table}
use Rattle.judged_programs.proofs.laws.types_are_fine.Goals as goal

pub returns : goal.returns
returns c = λ ms p of legal. fine_table ms p of legal
