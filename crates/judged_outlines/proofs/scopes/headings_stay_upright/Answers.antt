use Rattle.judged_outlines.proofs.Uprights.{heading_upright}
use Rattle.judged_outlines.proofs.scopes.headings_stay_upright.Goals as goal

pub returns : goal.returns
returns c = heading_upright
