use Rattle.std.proofs.Common.{◌≡◌, length, take}
use Rattle.ob_types.specs.Layout.{cells_of_all}
use Rattle.ob_types.specs.Meaning.{globals_of}
use Rattle.eval_layouts.specs.Tables.{RowsOf}
use Rattle.eval_layouts.proofs.rows.global_rows.Given as goal

abbrev pub invariant-loop-module : goal.invariant-loop-module
invariant-loop-module l = (length l.rows.items ≡ l.module-index) × RowsOf (λ m v. cells_of_all l.program.types (take v (globals_of l.program m))) l.rows.items
