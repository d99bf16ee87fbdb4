use Rattle.judged_modules.proofs.Keeping.{given}
use Rattle.judged_programs.proofs.ProceduresTidy.{s_decls}
use Rattle.judged_programs.proofs.keeping.declarations_stay_tidy.Goals as goal

pub returns : goal.returns
returns c = λ from p d s t is tidy. ((given (tt, t) (s_decls from p d s) is).tidy tt tidy).0
