use Rattle.later_types.proofs.Rooteds.{var_rooted}
use Rattle.later_types.proofs.scopes.variables_stay_rooted.Goals as goal

pub returns : goal.returns
returns c = λ p d s t is rooted. var_rooted p d s t is rooted
