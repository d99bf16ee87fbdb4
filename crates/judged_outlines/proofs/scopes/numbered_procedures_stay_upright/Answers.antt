use Rattle.judged_outlines.proofs.Uprights.{numbered_upright}
use Rattle.judged_outlines.proofs.scopes.numbered_procedures_stay_upright.Goals as goal

pub returns : goal.returns
returns c = numbered_upright
