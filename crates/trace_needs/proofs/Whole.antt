-- The rows of a trace tell what a search finds.
use Rattle.std.proofs.Common.{◌≡◌, ℕ, List, None, sym, ap, ap₂, ◌∙◌, subst, arith}
use Rattle.lir_core.specs.declared.flow.Flow.{Flow}
use Rattle.trace_needs.specs.declared.table.Table.{Table}
use Rattle.trace_needs.specs.Needs.{Position, positions_of, next_need, last_mention}
use Rattle.trace_needs.specs.Asked.{first_from, last_below, IsRising}
use Rattle.trace_needs.specs.Tables.{needed, mentioned, no_notes, passed_all, row_in}
use Rattle.trace_needs.proofs.Joining.{repeated, noted_row}
use Rattle.trace_needs.proofs.Search.{next_told, last_told, from_repeated, rises}

-- how a table begins
pub begun : (part : Position → List ℕ) (f : Flow) (rows : List (List ℕ)) (ns ms : List ℕ) (t start : Table) → t ≡ passed_all part (positions_of f rows ms) start → ms ≡ ns → start ≡ no_notes → t ≡ passed_all part (positions_of f rows ns) no_notes
begun part f rows ns ms t start e n s = e ∙ ap₂ (λ ns s. passed_all part (positions_of f rows ns) s) n s

module _ (f : Flow) (rows : List (List ℕ)) (ns : List ℕ) (t : Table) where
  rows_are : (part : Position → List ℕ) → t ≡ passed_all part (positions_of f rows ns) no_notes → (v : ℕ) → row_in t.notes v ≡ repeated part v 0 (positions_of f rows ns)
  rows_are part is v = ap (λ (s : Table). row_in s.notes v) is ∙ noted_row part v (positions_of f rows ns) no_notes

  pub rows_rise : (part : Position → List ℕ) → t ≡ passed_all part (positions_of f rows ns) no_notes → (v : ℕ) → IsRising (row_in t.notes v)
  rows_rise part is v = subst IsRising (sym (rows_are part is v)) (rises 0 _ (from_repeated part v 0 (positions_of f rows ns)))

  pub next_right : t ≡ passed_all needed (positions_of f rows ns) no_notes → (v at : ℕ) → first_from at (row_in t.notes v) ≡ next_need (positions_of f rows ns) v at
  next_right is v at = ap (first_from at) (rows_are needed is v) ∙ next_told v (positions_of f rows ns) at 0 at (omega arith)

  pub last_right : t ≡ passed_all mentioned (positions_of f rows ns) no_notes → (v before : ℕ) → last_below before None (row_in t.notes v) ≡ last_mention (positions_of f rows ns) v before
  last_right is v before = ap (last_below before None) (rows_are mentioned is v) ∙ last_told v (positions_of f rows ns) before 0 before None (omega arith)
