use Rattle.judged_outlines.proofs.Uprights.{procedures_upright}
use Rattle.judged_outlines.proofs.scopes.all_procedures_stay_upright.Goals as goal

pub returns : goal.returns
returns c = procedures_upright
