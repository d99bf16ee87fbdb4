use Rattle.judged_outlines.proofs.Uprights.{procedure_upright}
use Rattle.judged_outlines.proofs.scopes.procedures_stay_upright.Goals as goal

pub returns : goal.returns
returns c = procedure_upright
