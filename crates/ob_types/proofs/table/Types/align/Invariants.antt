use Rattle.std.proofs.Common.{◌≡◌, ◌<◌, length, true}
use Rattle.ob_types.specs.Trees.{data_tree, wide}
use Rattle.ob_types.proofs.table.Types.align.Given as goal

abbrev pub invariant-loop-element : goal.invariant-loop-element
invariant-loop-element l = (l.at < length l.self.kinds) × (wide true (data_tree l.self l.at) ≡ wide true (data_tree l.self l.t))

abbrev pub decreases-loop-element : goal.decreases-loop-element
decreases-loop-element l = l.at
