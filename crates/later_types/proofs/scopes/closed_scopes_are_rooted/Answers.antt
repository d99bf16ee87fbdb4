use Rattle.later_types.proofs.Rooteds.{left_rooted}
use Rattle.later_types.proofs.scopes.closed_scopes_are_rooted.Goals as goal

pub returns : goal.returns
returns c = λ s t stays outer inner. left_rooted s t stays.records_more outer inner
