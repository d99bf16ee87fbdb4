use Rattle.later_types.proofs.Rooteds.{vars_rooted}
use Rattle.later_types.proofs.scopes.all_variables_stay_rooted.Goals as goal

pub returns : goal.returns
returns c = λ p ds s t is rooted. vars_rooted p ds s t is rooted
