use Rattle.std.proofs.Common.{◌≡◌, drop}
use Rattle.ssa_tables.specs.Places.{module_finish, type_cells_by}
use Rattle.ssa_tables.proofs.cells.module_cells.Given as goal

abbrev pub invariant-loop-m : goal.invariant-loop-m
invariant-loop-m l = module_finish (type_cells_by l.counts) l.at (drop l.m-index l.modules) ≡ module_finish (type_cells_by l.counts) 1 l.modules
