use Rattle.linear_scan.proofs.Traces.{ends_fit}
use Rattle.linear_scan.proofs.laws.ends_are_fit.Goals as goal

pub returns : goal.returns
returns c = ends_fit
