use Rattle.judged_modules.proofs.Keeping.{given}
use Rattle.judged_programs.proofs.DeclarationsTidy.{s_var}
use Rattle.judged_programs.proofs.keeping.variables_stay_tidy.Goals as goal

pub returns : goal.returns
returns c = λ from p d s t is tidy. ((given (tt, t) (s_var from p {Before = Unit {0}} d s) is).tidy tt tidy).0
