use Rattle.judged_modules.proofs.Keeping.{given}
use Rattle.judged_programs.proofs.ModulesTidy.{module_tidy}
use Rattle.judged_programs.proofs.keeping.modules_stay_tidy.Goals as goal

pub returns : goal.returns
returns c = λ p m k d is tidy. given d (module_tidy p m k tidy) is
