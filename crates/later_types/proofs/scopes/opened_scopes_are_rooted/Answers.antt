use Rattle.later_types.proofs.Rooteds.{entered_rooted}
use Rattle.later_types.proofs.scopes.opened_scopes_are_rooted.Goals as goal

pub returns : goal.returns
returns c = λ s f rooted. entered_rooted s f rooted
