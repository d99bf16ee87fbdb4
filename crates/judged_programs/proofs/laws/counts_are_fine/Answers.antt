use Rattle.judged_programs.proofs.WellFormedPrograms.{fine_counts}
use Rattle.judged_programs.proofs.laws.counts_are_fine.Goals as goal

pub returns : goal.returns
returns c = λ ms p of legal. fine_counts ms p of legal
