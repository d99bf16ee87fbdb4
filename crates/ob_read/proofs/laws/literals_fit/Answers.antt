use Rattle.std.proofs.Common.{[], refl}
use Rattle.ob_scan.proofs.Order.{spells}
use Rattle.ob_read.proofs.Literals.{all_fit}
use Rattle.ob_read.proofs.laws.literals_fit.Goals as goal

pub returns : goal.returns
returns c = λ w symbols e s. all_fit (spells s [] refl)
