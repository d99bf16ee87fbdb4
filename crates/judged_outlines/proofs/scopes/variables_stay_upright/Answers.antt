use Rattle.judged_outlines.proofs.Uprights.{var_upright}
use Rattle.judged_outlines.proofs.scopes.variables_stay_upright.Goals as goal

pub returns : goal.returns
returns c = var_upright
