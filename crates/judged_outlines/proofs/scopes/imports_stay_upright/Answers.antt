use Rattle.judged_outlines.proofs.Uprights.{import_upright}
use Rattle.judged_outlines.proofs.scopes.imports_stay_upright.Goals as goal

pub returns : goal.returns
returns c = import_upright
