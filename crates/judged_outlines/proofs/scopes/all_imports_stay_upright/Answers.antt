use Rattle.judged_outlines.proofs.Uprights.{imports_upright}
use Rattle.judged_outlines.proofs.scopes.all_imports_stay_upright.Goals as goal

pub returns : goal.returns
returns c = imports_upright
