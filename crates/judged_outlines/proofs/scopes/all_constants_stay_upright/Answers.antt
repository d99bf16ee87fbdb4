use Rattle.judged_outlines.proofs.Uprights.{consts_upright}
use Rattle.judged_outlines.proofs.scopes.all_constants_stay_upright.Goals as goal

pub returns : goal.returns
returns c = consts_upright
