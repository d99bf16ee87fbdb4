use Rattle.later_types.proofs.Modules.{none_rooted}
use Rattle.later_types.proofs.scopes.no_modules_are_rooted.Goals as goal

pub returns : goal.returns
returns c = none_rooted
