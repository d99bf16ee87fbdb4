use Rattle.std.proofs.Common.{◌≡◌, suc, map, take}
use Rattle.pool_core.specs.Tree.{roots}
use Rattle.pool_core.proofs.cells.root_cells.Given as goal

abbrev pub invariant-loop-trace : goal.invariant-loop-trace
invariant-loop-trace l = l.cells.items ≡ map suc (roots (take l.trace l.parents))
