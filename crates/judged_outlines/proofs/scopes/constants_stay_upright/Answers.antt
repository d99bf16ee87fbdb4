use Rattle.judged_outlines.proofs.Uprights.{const_upright}
use Rattle.judged_outlines.proofs.scopes.constants_stay_upright.Goals as goal

pub returns : goal.returns
returns c = const_upright
