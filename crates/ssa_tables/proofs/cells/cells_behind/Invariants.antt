use Rattle.std.proofs.Common.{◌≡◌, drop}
use Rattle.ssa_tables.specs.Places.{finish, type_cells_by}
use Rattle.ssa_tables.proofs.cells.cells_behind.Given as goal

abbrev pub invariant-loop-k : goal.invariant-loop-k
invariant-loop-k l = finish (type_cells_by l.counts) l.at (drop l.k-index l.types) ≡ finish (type_cells_by l.counts) l.first l.types
