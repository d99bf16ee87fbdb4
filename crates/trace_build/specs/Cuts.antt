-- Traces as a partition of a flow's nodes into paths.
use Rattle.std.specs.Prelude.{◌≡◌, ℕ, ◌<◌, ◌≤◌, Bool, false, cond, List, [], ◌∷◌, ◌++◌, length, map}
use Rattle.block_runs.specs.Valid.{times}
use Rattle.lir_core.specs.declared.flow.Node.{Node}
use Rattle.lir_core.specs.declared.flow.Trace.{Trace}
use Rattle.lir_core.specs.declared.flow.Flow.{Flow}
use Rattle.lir_core.specs.Flows.{code_nodes, IsTrace}
use Rattle.trace_build.specs.declared.builder.Builder.{Builder}
use Rattle.trace_build.specs.Ranks.{rank_at}
use Rattle.trace_build.specs.declared.ranks.Rank.{Rank}
use Rattle.trace_build.specs.Traces.{is_in, without, without_all, size, trace_from, traces_from, traces_of}

abbrev pub lists_of : List Trace → List (List ℕ)
lists_of ts = map (λ t. t.nodes) ts

-- the nodes of all traces, one trace behind the other
abbrev pub all_nodes : List (List ℕ) → List ℕ
all_nodes [] = []
all_nodes (t ∷ ts) = t ++ all_nodes ts

abbrev pub AllTraces : Flow → List (List ℕ) → Type 0
AllTraces f [] = Unit {0}
AllTraces f (t ∷ ts) = IsTrace (code_nodes f.nodes) t × AllTraces f ts

-- each node is in exactly one trace, once
abbrev pub IsPartition : Flow → List (List ℕ) → Type 0
IsPartition f ts = (n : ℕ) → n < length f.nodes → times (all_nodes ts) n ≡ 1

-- how far the cutting has come: at most k traces are still made, and the nodes of the first i ranks are assigned
pub record IsCut (builder : Builder) (nodes : List Node) (ranks : List Rank) (i k : ℕ) (free : List Bool) (traces : List (List ℕ)) : Type 0 where
  pub each : length free ≡ length nodes
  pub made : traces ++ traces_from builder nodes k free ≡ traces_of builder nodes
  pub enough : size free ≤ k
  pub past : (j : ℕ) → j < i → is_in free (rank_at ranks j).node ≡ false

-- behind a look at a node: a trace more and its nodes assigned, if the node was unassigned
abbrev pub begun : Builder → List Node → ℕ → List Bool → List (List ℕ) → List (List ℕ)
begun builder nodes seed free ts = cond (is_in free seed) (ts ++ trace_from builder nodes (without free seed) seed ∷ []) ts

abbrev pub left_free : Builder → List Node → ℕ → List Bool → List Bool
left_free builder nodes seed free = cond (is_in free seed) (without_all free (trace_from builder nodes (without free seed) seed)) free
