-- What the loops of the search keep.
use Rattle.std.proofs.Common.{ℕ, ◌<◌, List}
use Rattle.lir_core.specs.declared.flow.Flow.{Flow}
use Rattle.global_live.specs.Search.{Marks, IsKnown, IsRight, Grows}

-- while nodes are pending, the rows are right but for these
abbrev pub Exploring : Flow → List ℕ → ℕ → Marks → Marks → Type 0
Exploring f makers v old new = IsKnown f makers → v < f.values → IsRight f v old.rows old.pending → IsRight f v new.rows new.pending × Grows old.rows new.rows
