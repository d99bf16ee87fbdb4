use Rattle.judged_programs.proofs.ModulesTidy.{first_tidy}
use Rattle.judged_programs.proofs.keeping.first_scopes_are_tidy.Goals as goal

pub returns : goal.returns
returns c = λ k tidy. first_tidy k tidy
