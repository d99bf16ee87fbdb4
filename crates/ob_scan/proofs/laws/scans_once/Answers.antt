use Rattle.std.proofs.Common.{refl}
use Rattle.ob_scan.proofs.Once.{one_scan}
use Rattle.ob_scan.proofs.laws.scans_once.Goals as goal

pub returns : goal.returns
returns c = λ i w a b e f x y. one_scan x y refl refl
