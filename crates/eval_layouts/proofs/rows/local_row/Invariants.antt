use Rattle.std.proofs.Common.{take}
use Rattle.ob_types.specs.Table.{Table}
use Rattle.ob_types.specs.Layout.{cells}
use Rattle.eval_layouts.specs.Tables.{TableOf, RowTo, values_among}
use Rattle.eval_layouts.proofs.rows.local_row.Given as goal

abbrev pub invariant-loop-formal : goal.invariant-loop-formal
invariant-loop-formal l = (t : Table) → TableOf (cells t) l.sizes → RowTo t 0 (values_among (take l.formal-index l.formal-items)) l.row.places l.row.end
