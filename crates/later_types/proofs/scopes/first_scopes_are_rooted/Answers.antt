use Rattle.later_types.proofs.Modules.{first_rooted}
use Rattle.later_types.proofs.scopes.first_scopes_are_rooted.Goals as goal

pub returns : goal.returns
returns c = λ k rooted. first_rooted k rooted
