use Rattle.judged_programs.proofs.WellFormedPrograms.{legal_table}
use Rattle.judged_programs.proofs.laws.types_are_legal.Goals as goal

pub returns : goal.returns
returns c = λ ms p of legal. legal_table ms p of legal
