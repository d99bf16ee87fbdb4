use Rattle.std.proofs.Common.{arith, length, ap}
use Rattle.pool_core.proofs.Opens.{raised}
use Rattle.pool_core.proofs.Trees.{spread_le}
use Rattle.pool_core.specs.Tree.{roots}
use Rattle.pool_core.proofs.cells.first_cells.Goals as goal

pub overflow_cast-shown : goal.overflow_cast-shown
overflow_cast-shown c = let P = c.args.parents.now in omega (arith, c.in_ok-cells.cells.ok, ap length c.in_ok-cells.ensures, raised (roots P), spread_le P 0, c.requires)

pub padded-requires : goal.padded-requires
padded-requires c = let P = c.args.parents.now in omega (arith, c.in_ok-cells.cells.ok, ap length c.in_ok-cells.ensures, raised (roots P), spread_le P 0)
