use Rattle.later_types.proofs.Rooteds.{completes_rooted}
use Rattle.later_types.proofs.scopes.completed_procedures_stay_rooted.Goals as goal

pub returns : goal.returns
returns c = λ p f q h s t is rooted. completes_rooted p f q h s t is rooted
