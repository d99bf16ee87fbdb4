use Rattle.std.proofs.Common.{◌≡◌, length}
use Rattle.ssa_tables.specs.Sizes.{AreFirstCells}
use Rattle.ssa_tables.proofs.sizes.type_cells.Given as goal

abbrev pub invariant-loop-k : goal.invariant-loop-k
invariant-loop-k l = (length l.list ≡ l.k) × AreFirstCells l.types l.list
