use Rattle.std.proofs.Common.{◌≡◌, List, ℕ, ◌-◌, ◌++◌, drop}
use Rattle.ob_types.specs.Operators.{text_of}
use Rattle.eval_store.specs.Areas.{address_of}
use Rattle.eval_store.specs.Characters.{Holds}
use Rattle.eval_store.proofs.Letters.{Written}
use Rattle.eval_store.proofs.world.World.print_text.Given as goal

abbrev pub invariant-characters : goal.invariant-characters
invariant-characters l = (l.self.turns ≡ l.fn.self.turns) × ((xs : List ℕ) → Holds l.length (address_of l.a) l.fn.self xs → Written xs l.i l.fn.self l.self)

abbrev pub decreases-characters : goal.decreases-characters
decreases-characters l = 18446744073709551615 - l.i
