use Rattle.lowered_valid.proofs.Valid.{operations_fit_all}
use Rattle.lowered_valid.proofs.laws.operations_fit.Goals as goal

pub returns : goal.returns
returns c = operations_fit_all
