use Rattle.std.proofs.Common.{List, ℕ, ◌++◌, take}
use Rattle.ob_types.specs.Table.{Table}
use Rattle.ob_types.specs.Layout.{cells}
use Rattle.eval_layouts.specs.Tables.{TableOf, RowTo}
use Rattle.eval_layouts.proofs.row.Row.add_all.Given as goal

abbrev pub invariant-loop-kind : goal.invariant-loop-kind
invariant-loop-kind l = (t : Table) (first : ℕ) (types : List ℕ) → TableOf (cells t) l.sizes → RowTo t first types l.initial.self.places l.initial.self.end → RowTo t first (types ++ take l.kind-index l.kinds) l.self.places l.self.end
