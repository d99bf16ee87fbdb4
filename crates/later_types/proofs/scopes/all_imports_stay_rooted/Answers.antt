use Rattle.later_types.proofs.Modules.{imports_rooted}
use Rattle.later_types.proofs.scopes.all_imports_stay_rooted.Goals as goal

pub returns : goal.returns
returns c = λ p xs s t is rooted. imports_rooted p xs s t is rooted
