use Rattle.std.proofs.Common.{◌≡◌, ◌<◌, ◌*◌, ◌%◌, ◌^◌, length}
use Rattle.ob_types.specs.Layout.{cells}
use Rattle.ob_types.proofs.table.Types.cells.Given as goal

abbrev pub invariant-loop-length : goal.invariant-loop-length
invariant-loop-length l = (l.at < length l.self.kinds) × ((l.count * cells l.self l.at) % 2 ^ 64 ≡ cells l.self l.t % 2 ^ 64)

abbrev pub decreases-loop-length : goal.decreases-loop-length
decreases-loop-length l = l.at
