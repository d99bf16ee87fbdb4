use Rattle.std.proofs.Common.{◌≡◌, take}
use Rattle.ob_types.specs.Table.{Table}
use Rattle.ob_types.specs.Layout.{cells, cells_of_all}
use Rattle.eval_layouts.specs.Tables.{TableOf}
use Rattle.eval_layouts.proofs.rows.added_cells.Given as goal

abbrev pub invariant-loop-kind : goal.invariant-loop-kind
invariant-loop-kind l = (t : Table) → TableOf (cells t) l.sizes → l.count ≡ cells_of_all t (take l.kind-index l.kinds)
