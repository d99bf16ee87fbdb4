use Rattle.std.proofs.Common.{List, ℕ, ◌-◌}
use Rattle.eval_store.specs.Areas.{address_of}
use Rattle.eval_store.specs.Characters.{Holds}
use Rattle.eval_store.proofs.Letters.{Agree}
use Rattle.eval_store.proofs.world.World.parted.Given as goal

abbrev pub invariant-characters : goal.invariant-characters
invariant-characters l = (xs ys : List ℕ) → Holds l.n (address_of l.a) l.self xs → Holds l.m (address_of l.b) l.self ys → Agree xs ys l.common

abbrev pub decreases-characters : goal.decreases-characters
decreases-characters l = 18446744073709551615 - l.common
