use Rattle.std.proofs.Common.{◌≡◌, ◌<◌, ◌*◌, ◌%◌, ◌^◌, length}
use Rattle.ob_types.specs.Trees.{bytes}
use Rattle.ob_types.proofs.table.Types.bytes.Given as goal

abbrev pub invariant-loop-length : goal.invariant-loop-length
invariant-loop-length l = (l.at < length l.self.kinds) × ((l.count * bytes l.self l.at) % 2 ^ 64 ≡ bytes l.self l.t % 2 ^ 64)

abbrev pub decreases-loop-length : goal.decreases-loop-length
decreases-loop-length l = l.at
