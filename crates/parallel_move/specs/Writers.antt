-- Which move goes to a place, by three maps.
use Rattle.std.specs.Prelude.{ℕ, cond, Option, Some}
use Rattle.std.specs.Ordering.{nat_cmp}
use Rattle.std.specs.BTreeMap.{get}
use Rattle.lir_core.specs.declared.places.Place.{Place}
use Rattle.lir_core.specs.declared.places.Place.TheVariants.{Reg, Home, Out}
use Rattle.lir_core.specs.Spots.{same, spot}
use Rattle.parallel_move.specs.declared.writers.Writers.{Writers}

abbrev pub writer_of : Writers → Place → Option ℕ
writer_of w (Reg r) = get nat_cmp w.regs r
writer_of w (Home v) = get nat_cmp w.homes v
writer_of w (Out s) = get nat_cmp w.outs s

abbrev pub with_writer : Place → ℕ → (Place → Option ℕ) → Place → Option ℕ
with_writer to i writer p = cond (same (spot to) (spot p)) (Some i) (writer p)
