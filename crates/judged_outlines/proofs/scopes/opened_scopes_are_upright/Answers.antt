use Rattle.judged_outlines.proofs.Uprights.{entered_upright}
use Rattle.judged_outlines.proofs.scopes.opened_scopes_are_upright.Goals as goal

pub returns : goal.returns
returns c = entered_upright
