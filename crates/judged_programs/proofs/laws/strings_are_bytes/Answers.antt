use Rattle.judged_programs.proofs.WellFormedPrograms.{byte_strings}
use Rattle.judged_programs.proofs.laws.strings_are_bytes.Goals as goal

pub returns : goal.returns
returns c = λ ms p read of legal results. byte_strings ms p of legal read results
