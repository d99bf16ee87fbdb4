use Rattle.judged_modules.proofs.Keeping.{given}
use Rattle.judged_programs.proofs.DeclarationsTidy.{s_types}
use Rattle.judged_programs.proofs.keeping.type_parts_stay_tidy.Goals as goal

pub returns : goal.returns
returns c = λ from p ds s t is tidy. ((given (tt, t) (s_types from p {Before = Unit {0}} ds s) is).tidy tt tidy).0
