use Rattle.lowered_valid.proofs.Procedures.{values_below}
use Rattle.lowered_valid.proofs.laws.values_are_below.Goals as goal

pub returns : goal.returns
returns c = values_below
