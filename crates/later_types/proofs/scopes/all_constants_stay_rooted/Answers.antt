use Rattle.later_types.proofs.Rooteds.{consts_rooted}
use Rattle.later_types.proofs.scopes.all_constants_stay_rooted.Goals as goal

pub returns : goal.returns
returns c = λ k p ds s t is upright rooted. consts_rooted p k ds s t is upright rooted
