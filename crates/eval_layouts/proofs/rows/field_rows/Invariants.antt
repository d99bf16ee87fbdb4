use Rattle.std.proofs.Common.{◌≡◌, length}
use Rattle.ob_types.specs.Layout.{field_place}
use Rattle.eval_layouts.specs.Tables.{RowsOf}
use Rattle.eval_layouts.proofs.rows.field_rows.Given as goal

abbrev pub invariant-loop-declared : goal.invariant-loop-declared
invariant-loop-declared l = (length l.rows.items ≡ l.declared-index) × RowsOf (field_place l.types) l.rows.items
