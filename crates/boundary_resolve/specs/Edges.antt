-- What the moves of edges keep.
use Rattle.std.specs.Prelude.{◌≡◌, ℕ, ◌<◌, ◌≤◌, cond, true, List, length}
use Rattle.block_runs.specs.declared.end.End.{End}
use Rattle.block_runs.specs.declared.end.End.TheVariants.{Jump, Branch, Nonzero, Return, Trap}
use Rattle.lir_core.specs.declared.flow.Flow.{Flow}
use Rattle.lir_core.specs.declared.flow.Trace.{Trace}
use Rattle.lir_core.specs.declared.places.TraceOut.{TraceOut}
use Rattle.lir_core.specs.Flows.{code_nodes, leads, IsValidFlow, node_at}
use Rattle.lir_core.specs.Spots.{TakesOver, argument_of}
use Rattle.lir_core.specs.Sound.{IsSound}
use Rattle.trace_build.specs.Parents.{trace_at}
use Rattle.trace_build.specs.Cuts.{lists_of, IsPartition}
use Rattle.parallel_move.specs.declared.step.Step.{Step}
use Rattle.parallel_move.specs.Steps.{steps_source}
use Rattle.boundary_resolve.specs.Moves.{entry_places, entry_argument}
use Rattle.boundary_resolve.specs.Placing.{out_at, start_at, end_at, is_test, jump_steps, test_steps, entry_steps}

-- a valid flow, cut into traces that have each node once, with a sound result for each trace, over k registers
pub record AreSound (k : ℕ) (f : Flow) (traces : List Trace) (outs : List TraceOut) : Type 0 where
  pub valid : IsValidFlow f
  pub few : (4 ≤ k) × (k ≤ 16)
  pub partition : IsPartition f (lists_of traces)
  pub each : length outs ≡ length traces
  pub sound : (t : ℕ) → t < length traces → IsSound k f (trace_at traces t) (out_at outs t)

-- what a value behind an edge was before it, by how the edge's node ends
abbrev pub argument_by : End → List ℕ → ℕ → ℕ
argument_by (Jump to args) params = argument_of params args
argument_by (Branch k a b one other) params = λ v. v
argument_by (Nonzero a one other) params = λ v. v
argument_by (Return a) params = λ v. v
argument_by (Trap kind) params = λ v. v

abbrev pub edge_argument : Flow → ℕ → ℕ → ℕ → ℕ
edge_argument f from to = argument_by (node_at f.nodes from).end (node_at f.nodes to).params

-- the steps of an edge from node to node: they stand at the head of its target or before the end of the node that it leaves
abbrev pub edge_steps : Flow → List Trace → List TraceOut → ℕ → ℕ → List Step
edge_steps f traces outs from to = cond (is_test (node_at f.nodes from).end) (test_steps f traces outs to) (jump_steps f traces outs from)

-- over each edge, and from the entry, places that hold before it hold behind it
pub record EdgesHold (f : Flow) (traces : List Trace) (outs : List TraceOut) : Type 0 where
  pub entry : TakesOver (entry_places (length (node_at f.nodes 0).params)) (start_at traces outs 0) (entry_argument (node_at f.nodes 0).params) (steps_source (entry_steps f traces outs))
  pub edge : (from to : ℕ) → from < length f.nodes → leads (code_nodes f.nodes) to from ≡ true
      → TakesOver (end_at traces outs from) (start_at traces outs to) (edge_argument f from to) (steps_source (edge_steps f traces outs from to))
