use Rattle.judged_programs.proofs.WellFormedPrograms.{program_well_formed}
use Rattle.judged_programs.proofs.laws.legal_programs_are_well_formed.Goals as goal

pub returns : goal.returns
returns c = λ ms p read of legal results. program_well_formed ms p of legal read results
