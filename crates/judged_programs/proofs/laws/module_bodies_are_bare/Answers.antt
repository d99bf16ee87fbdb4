use Rattle.judged_programs.proofs.WellFormedPrograms.{fine_modules}
use Rattle.judged_programs.proofs.laws.module_bodies_are_bare.Goals as goal

pub returns : goal.returns
returns c = λ ms p of legal. fine_modules ms p of legal
