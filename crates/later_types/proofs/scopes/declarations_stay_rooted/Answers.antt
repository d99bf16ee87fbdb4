use Rattle.later_types.proofs.Rooteds.{decls_rooted}
use Rattle.later_types.proofs.scopes.declarations_stay_rooted.Goals as goal

pub returns : goal.returns
returns c = λ k p d s t is upright rooted. decls_rooted p k d s t is upright rooted
