use Rattle.later_types.proofs.Stays.{known_same}
use Rattle.later_types.proofs.known.same_types_stay_known.Goals as goal

pub returns : goal.returns
returns c = λ a b records bases. known_same a b records bases
