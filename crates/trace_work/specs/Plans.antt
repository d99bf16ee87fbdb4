-- Flows in traces, and the final results of these.
use Rattle.std.specs.Prelude.{◌≡◌, ℕ, ◌<◌, Bool, true, false, cond, List, length, replicate, Option, None}
use Rattle.lir_core.specs.declared.places.TraceOut.{TraceOut}
use Rattle.lir_core.specs.Flows.{code_nodes, IsValidFlow}
use Rattle.lir_core.specs.Sound.{EndsRise}
use Rattle.walked_results.specs.Walked.{IsWalked}
use Rattle.global_live.specs.Reading.{HasLive}
use Rattle.trace_build.specs.declared.builder.Builder.{Builder}
use Rattle.trace_build.specs.Traces.{traces_of}
use Rattle.trace_build.specs.Cuts.{lists_of, AllTraces, IsPartition}
use Rattle.trace_build.specs.Parents.{trace_at, AreBelow, AreParents}
use Rattle.trace_needs.specs.Needs.{first_of}
use Rattle.linear_scan.specs.Linear.{Case, Hint}
use Rattle.linear_scan.specs.Inputs.{IsInput}
use Rattle.alloc_choice.specs.declared.choice.Choice.{Choice}
use Rattle.alloc_choice.specs.declared.choice.Used.{Used}
use Rattle.alloc_choice.specs.declared.choice.Used.TheVariants.{Plain as ByPlain, Trivial as ByTrivial, Linear as ByLinear, BottomUp as ByBottomUp}
use Rattle.alloc_choice.specs.Choice.{used}
use Rattle.alloc_choice.specs.Results.{case_with, hint_for, out_at, parent_of, result_at, results_to}
use Rattle.trace_work.specs.declared.planning.TracePlan.{TracePlan}
use Rattle.trace_work.specs.Places.{hint_by, if_row, placed_all}

-- a valid flow, what is live in it, its traces by a builder, the trace above each, and where its nodes stand in these
pub record IsPlan (builder : Builder) (p : TracePlan) : Type 0 where
  pub valid : IsValidFlow p.flow.now
  pub live : HasLive p.flow.now p.live
  pub cut : lists_of p.traces ≡ traces_of builder p.flow.now.nodes
  pub paths : AllTraces p.flow.now (lists_of p.traces)
  pub partition : IsPartition p.flow.now (lists_of p.traces)
  pub parents : AreParents p.flow.now p.traces p.parents
  pub places : p.places ≡ placed_all p.traces (replicate (length p.flow.now.nodes) 0)

-- each trace has an entry for the trace above it, which is of a lower number
abbrev pub IsOrdered : TracePlan → Type 0
IsOrdered p = (length p.parents ≡ length p.traces) × AreBelow p.parents

abbrev pub case_of : Choice → TracePlan → Case
case_of choice p = case_with p.flow.now p.live choice.regs

abbrev pub nodes_of : TracePlan → ℕ → List ℕ
nodes_of p t = (trace_at p.traces t).nodes

-- the results of a plan's first n traces
abbrev pub finals_to : Choice → TracePlan → ℕ → List TraceOut
finals_to choice p n = results_to choice.policy (case_of choice p) p.number p.traces n

-- the final result of a plan's trace
abbrev pub final_of : Choice → TracePlan → ℕ → TraceOut
final_of choice p t = result_at choice.policy (case_of choice p) p.number p.traces (finals_to choice p t) t

-- the hint of a plan's trace, where there is one
abbrev pub hint_to : Choice → TracePlan → ℕ → Option Hint
hint_to choice p t = hint_for (code_nodes p.flow.now.nodes) p.traces (finals_to choice p t) (first_of (nodes_of p t)) (parent_of (code_nodes p.flow.now.nodes) p.traces t)

---- Hints that are taken

-- by what a plan's trace is given places
abbrev pub used_of : Choice → TracePlan → ℕ → Used
used_of choice p t = used choice.policy p.flow.now.nodes (nodes_of p t)

-- plain and bottom-up take no hint
abbrev pub takes_hint : Used → Bool
takes_hint ByPlain = false
takes_hint ByTrivial = true
takes_hint ByLinear = true
takes_hint ByBottomUp = false

-- a hint, where one is taken
abbrev pub if_taken : Used → Option Hint → Option Hint
if_taken by hint = cond (takes_hint by) hint None

-- the hint that the table of places gives to a plan's trace, of the result of a trace above it
abbrev pub placed_hint : TracePlan → TraceOut → (above t : ℕ) → Option Hint
placed_hint p out above t = hint_by p.flow.now.nodes p.places (trace_at p.traces above) out (first_of (nodes_of p t))

-- of as many registers as are chosen, where one is taken
abbrev pub table_hint : Choice → TracePlan → TraceOut → (above t : ℕ) → Option Hint
table_hint choice p out above t = if_taken (used_of choice p t) (if_row choice.regs (placed_hint p out above t))

---- What is final, and what a hint

-- the final result, which the walk by names accepts, and whose ends can be hints
pub record IsFinal (choice : Choice) (p : TracePlan) (t : ℕ) (out : TraceOut) : Type 0 where
  pub is : out ≡ final_of choice p t
  pub walked : IsWalked choice.regs p.flow.now (trace_at p.traces t) out
  pub rises : EndsRise out

-- the hint where the trace's policy takes one and else none, with which the trace can be given places
pub record IsHint (choice : Choice) (p : TracePlan) (t : ℕ) (hint : Option Hint) : Type 0 where
  pub is : hint ≡ if_taken (used_of choice p t) (hint_to choice p t)
  pub fits : IsInput (case_of choice p) (nodes_of p t) hint

-- the final results of a plan's first n traces, in their order
pub record AreFinalsTo (choice : Choice) (p : TracePlan) (n : ℕ) (outs : List TraceOut) : Type 0 where
  pub count : length outs ≡ n
  pub each : (t : ℕ) → t < n → IsFinal choice p t (out_at outs t)

-- of all its traces
abbrev pub AreFinals : Choice → TracePlan → List TraceOut → Type 0
AreFinals choice p outs = AreFinalsTo choice p (length p.traces) outs
