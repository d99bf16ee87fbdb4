use Rattle.later_types.proofs.Rooteds.{procedures_rooted}
use Rattle.later_types.proofs.scopes.all_procedures_stay_rooted.Goals as goal

pub returns : goal.returns
returns c = λ k p x s t is upright rooted. procedures_rooted p k x s t is upright rooted
