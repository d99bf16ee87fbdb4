-- The search from a value's reads against the edges.
use Rattle.std.specs.Prelude.{◌≡◌, ℕ, suc, ◌<◌, ◌/◌, ◌==◌, Bool, true, false, not, ◌&&◌, nat_lt, cond, List, [], ◌∷◌, ◌++◌, length, slice_index, slice_set, map}
use Rattle.block_runs.specs.Blocks.{Operation, CodeBlock, block_at}
use Rattle.block_runs.specs.Live.{has, block_makes, Live}
use Rattle.block_runs.specs.Valid.{uses_of, block_reads}
use Rattle.lir_core.specs.declared.flow.Lir.{Lir}
use Rattle.lir_core.specs.declared.flow.Flow.{Flow}
use Rattle.lir_core.specs.Flows.{node_at, operation_of, code_nodes, leads}
use Rattle.lir_core.specs.Rows.{has_bit}
use Rattle.global_live.specs.Rows.{row_at, is_new, with_bit}
use Rattle.global_live.specs.declared.search.Search.{Search}

---- The nodes that make values

abbrev pub operations_of : List Lir → List Operation
operations_of xs = map operation_of xs

-- these values are made in node n
abbrev pub made_in : ℕ → List ℕ → List ℕ → List ℕ
made_in n [] makers = makers
made_in n (v ∷ vs) makers = made_in n vs (slice_set makers v n)

-- for each value the node that makes it, where the first of the blocks is number n
abbrev pub makers_from : ℕ → List CodeBlock → List ℕ → List ℕ
makers_from n [] makers = makers
makers_from n (bl ∷ bls) makers = makers_from (suc n) bls (made_in n (block_makes bl) makers)

---- Steps

-- the rows so far, and the nodes before which is still to be looked
pub record Marks : Type 0 where
  pub rows : List (List ℕ)
  pub pending : List ℕ

abbrev pub marks_of : Search → Marks
marks_of s = record { rows = s.rows; pending = s.pending.items }

-- a value joins a node's row: the node doesn't make it, and it isn't there yet
abbrev pub joins : List ℕ → ℕ → ℕ → List (List ℕ) → Bool
joins makers v n rows = nat_lt v (length makers) && (not (slice_index makers v == n) && is_new rows n v)

abbrev pub marked : List ℕ → ℕ → ℕ → Marks → Marks
marked makers v n s = record {
  rows = cond (joins makers v n s.rows) (with_bit s.rows n v) s.rows;
  pending = cond (joins makers v n s.rows) (s.pending ++ n ∷ []) s.pending;
}

abbrev pub all_marked : List ℕ → ℕ → List ℕ → Marks → Marks
all_marked makers v [] s = s
all_marked makers v (n ∷ ns) s = all_marked makers v ns (marked makers v n s)

---- What the search keeps

abbrev pub makes : Flow → ℕ → ℕ → Bool
makes f n v = has (block_makes (block_at (code_nodes f.nodes) n)) v

abbrev pub reads_in : Flow → ℕ → ℕ → Bool
reads_in f n v = has (block_reads (block_at (code_nodes f.nodes) n)) v

abbrev pub preds_at : Flow → ℕ → List ℕ
preds_at f n = (node_at f.nodes n).preds

-- what a valid flow and its table of makers come to
pub record IsKnown (f : Flow) (makers : List ℕ) : Type 0 where
  pub values : length makers ≡ f.values
  pub maker : (n v : ℕ) → n < length f.nodes → v < f.values → (slice_index makers v == n) ≡ makes f n v
  pub below : (n v : ℕ) → reads_in f n v ≡ true → v < f.values
  pub preds : (n m : ℕ) → m < length f.nodes → has (preds_at f m) n ≡ leads (code_nodes f.nodes) m n

-- each node has a row, in which each value has a bit
pub record HasRows (f : Flow) (rows : List (List ℕ)) : Type 0 where
  pub nodes : length rows ≡ length f.nodes
  pub values : (n v : ℕ) → n < length rows → v < f.values → v / 64 < length (row_at rows n)

-- rows that are right so far: what they have is live, and is had before each edge too, unless it is made there or the edge's target is open for it; open nodes have the value
pub record IsRight (f : Flow) (v : ℕ) (rows : List (List ℕ)) (open_nodes : List ℕ) : Type 0 where
  pub shape : HasRows f rows
  pub sound : (n w : ℕ) → has_bit rows n w ≡ true → Live (code_nodes f.nodes) w n
  pub had : (m : ℕ) → has open_nodes m ≡ true → has_bit rows m v ≡ true
  pub closed : (m n w : ℕ) → has_bit rows m w ≡ true → leads (code_nodes f.nodes) m n ≡ true → makes f n w ≡ false → has open_nodes m && (w == v) ≡ false → has_bit rows n w ≡ true

pub record IsFull (f : Flow) (s : Marks) : Type 0 where
  pub none_open : s.pending ≡ []
  pub right : (v : ℕ) → IsRight f v s.rows []

-- what was in the rows is in the new ones
abbrev pub Grows : List (List ℕ) → List (List ℕ) → Type 0
Grows old new = (n v : ℕ) → has_bit old n v ≡ true → has_bit new n v ≡ true

-- the values that node n reads and doesn't make are in its row
abbrev pub HasReads : Flow → ℕ → List ℕ → List (List ℕ) → Type 0
HasReads f n vs rows = (v : ℕ) → has vs v ≡ true → makes f n v ≡ false → has_bit rows n v ≡ true

-- a search from these reads of a node
pub record Reached (f : Flow) (n : ℕ) (vs : List ℕ) (old new : Marks) : Type 0 where
  pub full : IsFull f new
  pub grows : Grows old.rows new.rows
  pub reads : HasReads f n vs new.rows

abbrev pub Reaches : Flow → List ℕ → ℕ → List ℕ → Marks → Marks → Type 0
Reaches f makers n vs old new = IsKnown f makers → n < length f.nodes → ((v : ℕ) → has vs v ≡ true → reads_in f n v ≡ true) → IsFull f old → Reached f n vs old new

-- the reads of the first n nodes are followed
pub record IsFilled (f : Flow) (n : ℕ) (s : Marks) : Type 0 where
  pub full : IsFull f s
  pub reads : (m v : ℕ) → m < n → reads_in f m v ≡ true → makes f m v ≡ false → has_bit s.rows m v ≡ true

abbrev pub Fills : Flow → List ℕ → ℕ → Marks → Marks → Type 0
Fills f makers n old new = IsKnown f makers → IsFull f old → IsFilled f n new

-- from the pending nodes on
abbrev pub Explores : Flow → List ℕ → ℕ → Marks → Marks → Type 0
Explores f makers v old new = IsKnown f makers → v < f.values → IsRight f v old.rows old.pending → (IsFull f new) × Grows old.rows new.rows

---- What parts of the search promise

abbrev pub operation_reads : List Lir → List ℕ
operation_reads xs = uses_of (operations_of xs)

abbrev pub Follows : Flow → List ℕ → ℕ → List ℕ → Search → Search → Type 0
Follows f makers n vs old new = Reaches f makers n vs (marks_of old) (marks_of new)
