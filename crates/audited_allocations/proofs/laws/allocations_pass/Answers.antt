use Rattle.audited_allocations.proofs.Passing.{cuts_pass}
use Rattle.audited_allocations.proofs.laws.allocations_pass.Goals as goal

pub returns : goal.returns
returns c = cuts_pass
