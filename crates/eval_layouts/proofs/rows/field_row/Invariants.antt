use Rattle.std.proofs.Common.{take}
use Rattle.ob_types.specs.Layout.{types_of}
use Rattle.eval_layouts.specs.Tables.{RowTo}
use Rattle.eval_layouts.proofs.rows.field_row.Given as goal

abbrev pub invariant-loop-field : goal.invariant-loop-field
invariant-loop-field l = RowTo l.types l.first (types_of (take l.field-index l.field-items)) l.row.places l.row.end
