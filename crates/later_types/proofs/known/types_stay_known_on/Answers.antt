use Rattle.later_types.proofs.Stays.{known_on}
use Rattle.later_types.proofs.known.types_stay_known_on.Goals as goal

pub returns : goal.returns
returns c = λ a b d first second. known_on a b d first second
