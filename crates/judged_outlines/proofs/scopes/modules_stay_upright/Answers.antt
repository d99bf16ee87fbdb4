use Rattle.judged_outlines.proofs.Uprights.{module_upright}
use Rattle.judged_outlines.proofs.scopes.modules_stay_upright.Goals as goal

pub returns : goal.returns
returns c = module_upright
