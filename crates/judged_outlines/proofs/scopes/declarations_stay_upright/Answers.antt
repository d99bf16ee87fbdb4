use Rattle.judged_outlines.proofs.Uprights.{decls_upright}
use Rattle.judged_outlines.proofs.scopes.declarations_stay_upright.Goals as goal

pub returns : goal.returns
returns c = decls_upright
