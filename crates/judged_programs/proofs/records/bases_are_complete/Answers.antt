use Rattle.judged_modules.proofs.Keeping.{given}
use Rattle.judged_programs.proofs.TypesTidy.{base_is}
use Rattle.judged_programs.proofs.records.bases_are_complete.Goals as goal

pub returns : goal.returns
returns c = λ from p b s l is tidy. given l (base_is from p b s tidy) is
