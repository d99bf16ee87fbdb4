-- The trace above a trace, whose result is its hint.
use Rattle.std.specs.Prelude.{◌≡◌, ℕ, suc, ◌<◌, nat_lt, min, cond, Bool, true, false, List, [], ◌∷◌, length, slice_get, slice_set, slice_index_or, Option, Some, None}
use Rattle.std.specs.List.{list_any}
use Rattle.block_runs.specs.Blocks.{CodeBlock}
use Rattle.lir_core.specs.declared.flow.Node.{Node}
use Rattle.lir_core.specs.declared.flow.Trace.{Trace}
use Rattle.lir_core.specs.declared.flow.Flow.{Flow}
use Rattle.lir_core.specs.Flows.{code_nodes, leads}

abbrev pub no_trace : Trace
no_trace = record { nodes = [] }

abbrev pub trace_at : List Trace → ℕ → Trace
trace_at traces t = slice_index_or traces t no_trace

-- some of these nodes leads to the first of those
abbrev pub enters : List CodeBlock → List ℕ → List ℕ → Bool
enters bls from [] = false
enters bls from (head ∷ rest) = list_any (leads bls head) from

-- an edge leads from trace s into the head of trace t
abbrev pub is_above : List CodeBlock → List Trace → ℕ → ℕ → Bool
is_above bls traces s t = enters bls (trace_at traces s).nodes (trace_at traces t).nodes

-- the lowest-numbered trace below t that has an edge into its head
abbrev pub IsParent : List CodeBlock → List Trace → ℕ → Option ℕ → Type 0
IsParent bls traces t None = (s : ℕ) → s < t → is_above bls traces s t ≡ false
IsParent bls traces t (Some p) = (p < t) × (is_above bls traces p t ≡ true) × ((s : ℕ) → s < p → is_above bls traces s t ≡ false)

-- a parent, or none, for each trace
pub record AreParents (f : Flow) (traces : List Trace) (parents : List (Option ℕ)) : Type 0 where
  pub each : length parents ≡ length traces
  pub parent : (t : ℕ) → t < length traces → IsParent (code_nodes f.nodes) traces t (slice_index_or parents t None)

-- each parent's number is below its trace's
abbrev pub AreBelow : List (Option ℕ) → Type 0
AreBelow parents = (t p : ℕ) → slice_index_or parents t None ≡ Some p → p < t

---- The table by which parents are found

-- trace t has these nodes
abbrev pub held : ℕ → List ℕ → List ℕ → List ℕ
held t [] holders = holders
held t (n ∷ ns) holders = held t ns (slice_set holders n t)

-- for each node the first of these traces that has it, where the first of them is number t
abbrev pub holders_from : ℕ → List Trace → List ℕ → List ℕ
holders_from t [] holders = holders
holders_from t (trace ∷ traces) holders = held t trace.nodes (holders_from (suc t) traces holders)

abbrev pub lower : List ℕ → ℕ → ℕ → ℕ
lower holders n low = min low (slice_index_or holders n low)

-- the lowest number of a trace that has one of these nodes, if it is below the limit
abbrev pub lowest_of : List ℕ → List ℕ → ℕ → ℕ
lowest_of holders [] low = low
lowest_of holders (n ∷ ns) low = lowest_of holders ns (lower holders n low)

abbrev pub if_below : ℕ → ℕ → Option ℕ
if_below number low = cond (nat_lt low number) (Some low) None

abbrev pub parent_at : Option Node → List ℕ → ℕ → Option ℕ
parent_at None holders number = None
parent_at (Some node) holders number = if_below number (lowest_of holders node.preds number)

abbrev pub parent_by : List Node → List ℕ → List ℕ → ℕ → Option ℕ
parent_by nodes holders [] number = None
parent_by nodes holders (head ∷ rest) number = parent_at (slice_get nodes head) holders number
