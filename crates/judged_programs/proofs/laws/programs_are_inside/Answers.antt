use Rattle.judged_programs.proofs.WellFormedPrograms.{inside_table}
use Rattle.judged_programs.proofs.laws.programs_are_inside.Goals as goal

pub returns : goal.returns
returns c = λ ms p of legal results. inside_table ms p of legal results
