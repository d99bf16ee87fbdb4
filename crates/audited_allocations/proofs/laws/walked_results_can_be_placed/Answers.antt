use Rattle.audited_allocations.proofs.Passing.{own_sound}
use Rattle.audited_allocations.proofs.laws.walked_results_can_be_placed.Goals as goal

pub returns : goal.returns
returns c = own_sound
