use Rattle.judged_outlines.proofs.Uprights.{stand_upright}
use Rattle.judged_outlines.proofs.scopes.standing_names_stay_upright.Goals as goal

pub returns : goal.returns
returns c = stand_upright
