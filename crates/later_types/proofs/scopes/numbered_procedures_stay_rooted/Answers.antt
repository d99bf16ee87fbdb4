use Rattle.later_types.proofs.Rooteds.{numbered_rooted}
use Rattle.later_types.proofs.scopes.numbered_procedures_stay_rooted.Goals as goal

pub returns : goal.returns
returns c = λ s t f is rooted. numbered_rooted s t f is rooted
