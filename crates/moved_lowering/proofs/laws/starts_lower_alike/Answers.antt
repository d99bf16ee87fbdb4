use Rattle.moved_lowering.proofs.Starts.{start_lowers_alike}
use Rattle.moved_lowering.proofs.laws.starts_lower_alike.Goals as goal

pub returns : goal.returns
returns c = start_lowers_alike
