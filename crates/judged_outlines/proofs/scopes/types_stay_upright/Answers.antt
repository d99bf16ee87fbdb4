use Rattle.judged_outlines.proofs.Uprights.{type_upright}
use Rattle.judged_outlines.proofs.scopes.types_stay_upright.Goals as goal

pub returns : goal.returns
returns c = type_upright
