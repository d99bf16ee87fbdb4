use Rattle.judged_outlines.proofs.Uprights.{types_upright}
use Rattle.judged_outlines.proofs.scopes.type_parts_stay_upright.Goals as goal

pub returns : goal.returns
returns c = types_upright
