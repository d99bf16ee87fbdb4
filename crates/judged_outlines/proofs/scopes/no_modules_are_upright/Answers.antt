use Rattle.judged_outlines.proofs.Modules.{none_upright}
use Rattle.judged_outlines.proofs.scopes.no_modules_are_upright.Goals as goal

pub returns : goal.returns
returns c = none_upright
