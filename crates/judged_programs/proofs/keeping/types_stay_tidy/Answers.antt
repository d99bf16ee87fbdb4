use Rattle.judged_modules.proofs.Keeping.{given}
use Rattle.judged_programs.proofs.TypesTidy.{s_type}
use Rattle.judged_programs.proofs.keeping.types_stay_tidy.Goals as goal

pub returns : goal.returns
returns c = λ from p x s t a is tidy. (given (a, t) (s_type from p {Before = Unit {0}} x s) is).tidy tt tidy
