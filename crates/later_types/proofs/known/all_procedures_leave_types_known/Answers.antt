use Rattle.later_types.proofs.Stays.{procedures_known}
use Rattle.later_types.proofs.known.all_procedures_leave_types_known.Goals as goal

pub returns : goal.returns
returns c = λ p x s t is. procedures_known p x s t is
