-- The results of a flow's traces, each with the hint of its parent's.
use Rattle.std.specs.Prelude.{ℕ, zero, suc, ◌+◌, List, [], ◌∷◌, ◌++◌, filter, Option, Some, None, slice_index_or}
use Rattle.std.specs.Option.{option_map}
use Rattle.run_laws.specs.Layers.{places_from}
use Rattle.block_runs.specs.Blocks.{CodeBlock}
use Rattle.block_runs.specs.Live.{has}
use Rattle.lir_core.specs.declared.flow.Flow.{Flow}
use Rattle.lir_core.specs.declared.flow.Trace.{Trace}
use Rattle.lir_core.specs.declared.places.TraceOut.{TraceOut}
use Rattle.lir_core.specs.Flows.{code_nodes, preds_of, IsValidFlow}
use Rattle.global_live.specs.Reading.{HasLive}
use Rattle.trace_build.specs.Cuts.{lists_of, AllTraces, IsPartition}
use Rattle.trace_build.specs.Parents.{trace_at, is_above}
use Rattle.trace_needs.specs.Needs.{first_of}
use Rattle.linear_scan.specs.Linear.{Case, Hint, linear}
use Rattle.linear_scan.specs.Inputs.{hint_at}
use Rattle.simple_policies.specs.plain.Plain.{plain_of, index_of}
use Rattle.simple_policies.specs.trivial.Trivial.{trivial}
use Rattle.bottom_up.specs.Bottom.{bottom_up}
use Rattle.alloc_choice.specs.declared.choice.Policy.{Policy}
use Rattle.alloc_choice.specs.declared.choice.Used.{Used}
use Rattle.alloc_choice.specs.declared.choice.Used.TheVariants.{Plain as ByPlain, Trivial as ByTrivial, Linear as ByLinear, BottomUp as ByBottomUp}
use Rattle.alloc_choice.specs.Choice.{used}

-- a trace's result, of its number, nodes and hint; plain and bottom-up take none
abbrev pub result_by : Used → Case → ℕ → List ℕ → Option Hint → TraceOut
result_by ByPlain x number ns hint = plain_of x.regs x.flow x.rows number ns
result_by ByTrivial x number ns hint = trivial x number ns hint
result_by ByLinear x number ns hint = linear x number ns hint
result_by ByBottomUp x number ns hint = bottom_up x number ns

---- Hints

-- the parent of trace t: the lowest-numbered trace below it from which an edge leads into its head, if there is one
abbrev pub parent_of : List CodeBlock → List Trace → ℕ → Option ℕ
parent_of bls traces t = first_of (filter (λ s. is_above bls traces s t) (places_from 0 t))

-- the lowest-numbered of some nodes from which an edge leads to a head
abbrev pub entering : List CodeBlock → List ℕ → ℕ → Option ℕ
entering bls nodes head = first_of (filter (has nodes) (preds_of bls head))

-- the hint that a parent's result gives to a head: the end places of that node
abbrev pub hint_from : List CodeBlock → Trace → TraceOut → ℕ → Option Hint
hint_from bls parent out head = option_map (λ n. hint_at parent out (index_of parent.nodes n)) (entering bls parent.nodes head)

abbrev pub no_out : TraceOut
no_out = record { trace = 0; starts = []; ends = []; lines = []; regs = [] }

abbrev pub out_at : List TraceOut → ℕ → TraceOut
out_at outs t = slice_index_or outs t no_out

-- the hint that earlier results give to a trace of that head, by its parent
abbrev pub hint_for : List CodeBlock → List Trace → List TraceOut → Option ℕ → Option ℕ → Option Hint
hint_for bls traces outs None parent = None
hint_for bls traces outs (Some head) None = None
hint_for bls traces outs (Some head) (Some p) = hint_from bls (trace_at traces p) (out_at outs p) head

---- Results

-- the result of a flow's trace t behind those of the traces before it, where the flow's first trace is of a number
abbrev pub result_at : Policy → Case → ℕ → List Trace → List TraceOut → ℕ → TraceOut
result_at p x first traces outs t =
    result_by (used p x.flow.nodes (trace_at traces t).nodes) x (first + t) (trace_at traces t).nodes
    (hint_for (code_nodes x.flow.nodes) traces outs (first_of (trace_at traces t).nodes) (parent_of (code_nodes x.flow.nodes) traces t))

-- the results of a flow's first n traces
abbrev pub results_to : Policy → Case → ℕ → List Trace → ℕ → List TraceOut
results_to p x first traces zero = []
results_to p x first traces (suc t) = results_to p x first traces t ++ result_at p x first traces (results_to p x first traces t) t ∷ []

abbrev pub case_with : Flow → List (List ℕ) → ℕ → Case
case_with f rows k = record { flow = f; rows = rows; regs = k }

-- a valid flow, what is live in it, and its traces
pub record IsCase (x : Case) (traces : List Trace) : Type 0 where
  pub valid : IsValidFlow x.flow
  pub live : HasLive x.flow x.rows
  pub paths : AllTraces x.flow (lists_of traces)
  pub partition : IsPartition x.flow (lists_of traces)
