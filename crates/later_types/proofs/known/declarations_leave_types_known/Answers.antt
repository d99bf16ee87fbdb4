use Rattle.later_types.proofs.Stays.{decls_known}
use Rattle.later_types.proofs.known.declarations_leave_types_known.Goals as goal

pub returns : goal.returns
returns c = λ p d s t is. decls_known p d s t is
