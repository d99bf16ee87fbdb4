use Rattle.judged_outlines.proofs.Modules.{first_upright}
use Rattle.judged_outlines.proofs.scopes.first_scopes_are_upright.Goals as goal

pub returns : goal.returns
returns c = first_upright
