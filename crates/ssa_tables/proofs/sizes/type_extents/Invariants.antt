use Rattle.std.proofs.Common.{◌≡◌, length}
use Rattle.ssa_tables.specs.Sizes.{AreFirstExtents}
use Rattle.ssa_tables.proofs.sizes.type_extents.Given as goal

abbrev pub invariant-loop-k : goal.invariant-loop-k
invariant-loop-k l = (length l.list ≡ l.k) × AreFirstExtents l.types l.list
