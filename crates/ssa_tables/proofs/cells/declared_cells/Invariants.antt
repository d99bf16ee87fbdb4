use Rattle.std.proofs.Common.{◌≡◌, drop}
use Rattle.ssa_tables.specs.declared.locals.Variable.{Variable}
use Rattle.ssa_tables.specs.Places.{finish, type_cells_by}
use Rattle.ssa_tables.proofs.cells.declared_cells.Given as goal

abbrev pub invariant-loop-v : goal.invariant-loop-v
invariant-loop-v l = finish (λ (v : Variable). type_cells_by l.counts v.type_number) l.at (drop l.v-index l.list) ≡ finish (λ (v : Variable). type_cells_by l.counts v.type_number) 0 l.list
