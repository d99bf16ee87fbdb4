use Rattle.lowered_valid.proofs.Procedures.{begins, enters_there, targets_there}
use Rattle.lowered_valid.proofs.laws.targets_are_there.Goals as goal

pub returns-clause-ends : goal.returns-clause-ends
returns-clause-ends c = targets_there

pub returns-clause-first : goal.returns-clause-first
returns-clause-first c = begins

pub returns-clause-loops : goal.returns-clause-loops
returns-clause-loops c = enters_there
