use Rattle.lowered_valid.proofs.Procedures.{conditions_fit}
use Rattle.lowered_valid.proofs.laws.conditions_are_known.Goals as goal

pub returns : goal.returns
returns c = conditions_fit
