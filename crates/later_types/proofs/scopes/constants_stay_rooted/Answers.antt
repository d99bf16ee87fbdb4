use Rattle.later_types.proofs.Rooteds.{const_rooted}
use Rattle.later_types.proofs.scopes.constants_stay_rooted.Goals as goal

pub returns : goal.returns
returns c = λ k p d s t is upright rooted. const_rooted p k d s t is upright rooted
