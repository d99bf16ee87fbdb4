use Rattle.judged_programs.proofs.ModulesTidy.{none_tidy}
use Rattle.judged_programs.proofs.keeping.no_modules_are_tidy.Goals as goal

pub returns : goal.returns
returns c = none_tidy
