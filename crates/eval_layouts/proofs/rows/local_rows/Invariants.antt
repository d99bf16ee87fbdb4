use Rattle.std.proofs.Common.{◌≡◌, length, take}
use Rattle.ob_types.specs.Layout.{cells_of_all}
use Rattle.ob_types.specs.Meaning.{locals_of, procedure_of}
use Rattle.eval_layouts.specs.Tables.{RowsOf}
use Rattle.eval_layouts.proofs.rows.local_rows.Given as goal

abbrev pub invariant-loop-procedure : goal.invariant-loop-procedure
invariant-loop-procedure l = (length l.rows.items ≡ l.procedure-index) × RowsOf (λ g v. cells_of_all l.program.types (take v (locals_of (procedure_of l.program g)))) l.rows.items
