use Rattle.lowered_valid.proofs.Procedures.{values_placed}
use Rattle.lowered_valid.proofs.laws.values_are_placed.Goals as goal

pub returns : goal.returns
returns c = values_placed
