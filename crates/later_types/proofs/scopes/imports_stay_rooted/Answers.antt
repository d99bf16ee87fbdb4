use Rattle.later_types.proofs.Modules.{import_rooted}
use Rattle.later_types.proofs.scopes.imports_stay_rooted.Goals as goal

pub returns : goal.returns
returns c = λ p x s t is rooted. import_rooted p x s t is rooted
