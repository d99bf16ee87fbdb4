use Rattle.judged_outlines.proofs.Uprights.{left_upright}
use Rattle.judged_outlines.proofs.scopes.closed_scopes_are_upright.Goals as goal

pub returns : goal.returns
returns c = left_upright
