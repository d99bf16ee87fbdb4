use Rattle.later_types.proofs.Stays.{procedure_known}
use Rattle.later_types.proofs.known.procedures_leave_types_known.Goals as goal

pub returns : goal.returns
returns c = λ p q s t is. procedure_known p q s t is
