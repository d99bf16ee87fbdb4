use Rattle.later_types.proofs.Rooteds.{stand_rooted}
use Rattle.later_types.proofs.scopes.standing_names_stay_rooted.Goals as goal

pub returns : goal.returns
returns c = λ p xs s t is rooted. stand_rooted p xs s t is rooted
