use Rattle.std.proofs.Common.{◌≡◌, ◌<◌, ◌*◌, ◌%◌, ◌^◌, length}
use Rattle.ob_types.specs.Layout.{cells}
use Rattle.ssa_tables.proofs.Levels.{levels}
use Rattle.ssa_tables.proofs.sizes.cells_of.Given as goal

abbrev pub invariant-loop-length : goal.invariant-loop-length
invariant-loop-length l = (l.at < length l.types.kinds) × ((l.count * cells l.types l.at) % 2 ^ 64 ≡ cells l.types l.k % 2 ^ 64)

abbrev pub decreases-loop-length : goal.decreases-loop-length
decreases-loop-length l = levels l.types l.at
