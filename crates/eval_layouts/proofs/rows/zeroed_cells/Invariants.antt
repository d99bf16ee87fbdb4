use Rattle.std.proofs.Common.{◌≡◌, length}
use Rattle.ob_types.specs.Meaning.{procedure_of, zeroed}
use Rattle.eval_layouts.specs.Tables.{TableOf}
use Rattle.eval_layouts.proofs.rows.zeroed_cells.Given as goal

abbrev pub invariant-loop-procedure : goal.invariant-loop-procedure
invariant-loop-procedure l = (length l.list.items ≡ l.procedure-index) × TableOf (λ g. zeroed l.program (procedure_of l.program g)) l.list.items
