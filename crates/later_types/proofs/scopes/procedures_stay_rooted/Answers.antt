use Rattle.later_types.proofs.Rooteds.{procedure_rooted}
use Rattle.later_types.proofs.scopes.procedures_stay_rooted.Goals as goal

pub returns : goal.returns
returns c = λ k p q s t is upright rooted. procedure_rooted p k q s t is upright rooted
