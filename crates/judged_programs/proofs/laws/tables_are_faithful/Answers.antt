use Rattle.judged_programs.proofs.WellFormedPrograms.{faithful_table}
use Rattle.judged_programs.proofs.laws.tables_are_faithful.Goals as goal

pub returns : goal.returns
returns c = λ ms p of legal. faithful_table ms p of legal
