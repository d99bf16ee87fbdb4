use Rattle.later_types.proofs.Modules.{module_rooted}
use Rattle.later_types.proofs.scopes.modules_stay_rooted.Goals as goal

pub returns : goal.returns
returns c = λ p m k d is upright rooted. module_rooted p m k d is upright rooted
