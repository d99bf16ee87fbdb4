use Rattle.later_types.proofs.Stays.{heading_known}
use Rattle.later_types.proofs.known.headings_leave_types_known.Goals as goal

pub returns : goal.returns
returns c = λ p f name x is_local s t h is. heading_known p f name x is_local s t h is
