use Rattle.std.proofs.Common.{◌≡◌, ◌<◌, ◌++◌, drop, length}
use Rattle.lir_core.specs.Spots.{IsRising}
use Rattle.boundary_resolve.specs.Moves.{FewRegs}
use Rattle.boundary_resolve.specs.Found.{moving_homes}
use Rattle.boundary_resolve.proofs.near.push_homes.Given as goal

abbrev pub invariant-loop-value : goal.invariant-loop-value
invariant-loop-value l = record {
  finder : l.finder ≡ l.from.homed;
  pushed : FewRegs l.from → (0 < length l.homed → IsRising l.from.homed)
      → l.moves.items ++ moving_homes l.from l.params l.args (drop l.value-index l.homed) ≡ l.initial.moves.items ++ moving_homes l.from l.params l.args l.homed;
}
