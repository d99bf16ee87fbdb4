use Rattle.std.proofs.Common.{◌≡◌, length}
use Rattle.ob_types.specs.Layout.{cells_of_all}
use Rattle.ob_types.specs.Meaning.{procedure_of}
use Rattle.eval_layouts.specs.Tables.{TableOf}
use Rattle.eval_layouts.proofs.rows.own_cells.Given as goal

abbrev pub invariant-loop-procedure : goal.invariant-loop-procedure
invariant-loop-procedure l = (length l.list.items ≡ l.procedure-index) × TableOf (λ g. cells_of_all l.program.types (procedure_of l.program g).locals) l.list.items
