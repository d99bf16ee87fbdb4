-- Flows in traces, with results for the traces and the steps of edges, as results for flows.
use Rattle.std.specs.Prelude.{◌≡◌, ℕ, ◌<◌, ◌≤◌, ◌^◌, List, ◌∷◌, map, drop, length, false}
use Rattle.run_laws.specs.Layers.{places_from}
use Rattle.block_runs.specs.Blocks.{Operation, block_at}
use Rattle.lir_core.specs.declared.flow.Flow.{Flow}
use Rattle.lir_core.specs.declared.flow.Trace.{Trace}
use Rattle.lir_core.specs.declared.places.Move.{Move}
use Rattle.lir_core.specs.declared.places.TraceOut.{TraceOut}
use Rattle.lir_core.specs.Flows.{code_nodes}
use Rattle.lir_core.specs.Spots.{spot, saved}
use Rattle.trace_build.specs.Cuts.{lists_of, all_nodes, AllTraces}
use Rattle.parallel_move.specs.declared.step.Step.{Step}
use Rattle.parallel_move.specs.declared.step.Step.TheVariants as step
use Rattle.parallel_move.specs.Order.{order_of}
use Rattle.boundary_resolve.specs.Placing.{start_at, end_at, lines_at, registers_at, entry_steps, test_steps, jump_steps}
use Rattle.boundary_resolve.specs.Edges.{AreSound}
use Rattle.placed_code.specs.Placed.{Copy}
use Rattle.placed_code.specs.Words.{frame_of}
use Rattle.placed_code.specs.Claims.{IsNumber}
use Rattle.placed_code.specs.Results.{Part, Allocated, placed}

-- a step as a copy
abbrev pub copy_of : Step → Copy
copy_of (step.Copy to from) = record { to = spot to; from = spot from }
copy_of (step.Save from) = record { to = saved; from = spot from }
copy_of (step.Restore to) = record { to = spot to; from = saved }

abbrev pub copies_of : List Step → List Copy
copies_of steps = map copy_of steps

-- simultaneous moves, in order
abbrev pub steps_of : List Move → List Copy
steps_of ms = copies_of (order_of ms)

-- a flow, its traces, and a result for each
pub record Cut : Type 0 where
  pub flow : Flow
  pub traces : List Trace
  pub outs : List TraceOut

abbrev pub part_at : Cut → ℕ → Part
part_at c n = record {
  start = start_at c.traces c.outs n;
  end = end_at c.traces c.outs n;
  lines = lines_at c.traces c.outs n;
  named = registers_at c.traces c.outs n;
  into = copies_of (test_steps c.flow c.traces c.outs n);
  leaving = copies_of (jump_steps c.flow c.traces c.outs n);
}

-- the nodes stand by traces, and in each by its path
abbrev pub allocated : Cut → Allocated
allocated c = record {
  flow = c.flow;
  first = copies_of (entry_steps c.flow c.traces c.outs);
  parts = map (part_at c) (places_from 0 (length c.flow.nodes));
  order = all_nodes (lists_of c.traces);
}

abbrev pub all_allocated : List Cut → List Allocated
all_allocated cs = map allocated cs

-- sound results over k registers for paths that have each node once; numbers that can be made; a module's body takes no
-- arguments; and a frame of at most so many bytes
pub record IsReady (k frame : ℕ) (c : Cut) : Type 0 where
  pub sound : AreSound k c.flow c.traces c.outs
  pub paths : AllTraces c.flow (lists_of c.traces)
  pub numbers : (b i : ℕ) (op : Operation) (rest : List Operation) → drop i (block_at (code_nodes c.flow.nodes) b).ops ≡ op ∷ rest → IsNumber op.code
  pub local_data : (c.flow.local_cells < 2 ^ 64) × (c.flow.local_bytes < 2 ^ 24)
  pub body : c.flow.counted ≡ false → c.flow.args ≡ 0
  pub fits : frame_of (placed steps_of (allocated c)) ≤ frame

abbrev pub AreReady : ℕ → ℕ → List Cut → Type 0
AreReady k frame cs = (q : ℕ) (c : Cut) (rest : List Cut) → drop q cs ≡ c ∷ rest → IsReady k frame c
