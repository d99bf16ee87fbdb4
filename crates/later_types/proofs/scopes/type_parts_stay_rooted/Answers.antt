use Rattle.later_types.proofs.Rooteds.{types_rooted}
use Rattle.later_types.proofs.scopes.type_parts_stay_rooted.Goals as goal

pub returns : goal.returns
returns c = λ p ds s t is rooted. types_rooted p ds s t is rooted
