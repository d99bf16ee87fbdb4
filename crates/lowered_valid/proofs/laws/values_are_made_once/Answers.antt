use Rattle.lowered_valid.proofs.Procedures.{in_order}
use Rattle.lowered_valid.proofs.laws.values_are_made_once.Goals as goal

pub returns : goal.returns
returns c = in_order
