use Rattle.judged_outlines.proofs.Uprights.{vars_upright}
use Rattle.judged_outlines.proofs.scopes.all_variables_stay_upright.Goals as goal

pub returns : goal.returns
returns c = vars_upright
