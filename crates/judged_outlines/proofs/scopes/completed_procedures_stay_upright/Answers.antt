use Rattle.judged_outlines.proofs.Uprights.{completes_upright}
use Rattle.judged_outlines.proofs.scopes.completed_procedures_stay_upright.Goals as goal

pub returns : goal.returns
returns c = completes_upright
