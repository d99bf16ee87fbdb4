use Rattle.std.proofs.Common.{[], refl}
use Rattle.ob_scan.proofs.Order.{spells}
use Rattle.ob_scan.proofs.laws.symbols_spell_their_kinds.Goals as goal

pub returns : goal.returns
returns c = λ w a e s. spells s [] refl
