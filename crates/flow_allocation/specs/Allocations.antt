-- Flows in traces with final results.
use Rattle.std.specs.Prelude.{◌≡◌, ℕ, ◌+◌, ◌<◌, List, [], ◌∷◌, map, length, Vec}
use Rattle.std.specs.Global.{Global}
use Rattle.lir_core.specs.declared.flow.Flow.{Flow}
use Rattle.lir_core.specs.declared.places.TraceOut.{TraceOut}
use Rattle.global_live.specs.Reading.{HasLive}
use Rattle.trace_build.specs.Traces.{traces_of}
use Rattle.trace_build.specs.Cuts.{lists_of, AllTraces}
use Rattle.trace_build.specs.Parents.{trace_at}
use Rattle.boundary_resolve.specs.declared.code_line.CodeLine.{CodeLine}
use Rattle.boundary_resolve.specs.Placing.{placed_of, out_at}
use Rattle.boundary_resolve.specs.Edges.{AreSound}
use Rattle.linked_flows.specs.Allocations.{Cut}
use Rattle.walked_results.specs.Walked.{IsWalked}
use Rattle.alloc_choice.specs.declared.choice.Choice.{Choice}
use Rattle.alloc_choice.specs.Results.{case_with, results_to}

abbrev pub items_of : {A : Type 0} → Vec (Vec A Global) Global → List (List A)
items_of rows = map (λ v. v.items) rows.items

-- a flow in the traces of the builder, the first of this number, with the final results by the policy: the walk by names accepts each, and so
-- they are sound
pub record IsAllocation (choice : Choice) (first : ℕ) (c : Cut) : Type 0 where
  pub rows : List (List ℕ)
  pub live : HasLive c.flow rows
  pub traces : lists_of c.traces ≡ traces_of choice.builder c.flow.nodes
  pub results : c.outs ≡ results_to choice.policy (case_with c.flow rows choice.regs) first c.traces (length c.traces)
  pub sound : AreSound choice.regs c.flow c.traces c.outs
  pub walked : (t : ℕ) → t < length c.traces → IsWalked choice.regs c.flow (trace_at c.traces t) (out_at c.outs t)
  pub paths : AllTraces c.flow (lists_of c.traces)

abbrev pub trace_count : List Cut → ℕ
trace_count [] = 0
trace_count (c ∷ cs) = length c.traces + trace_count cs

-- each begins with the number behind the traces before it
abbrev pub AllAllocations : Choice → (first : ℕ) → List Cut → Type 0
AllAllocations choice first [] = Unit {0}
AllAllocations choice first (c ∷ cs) = IsAllocation choice first c × AllAllocations choice (first + length c.traces) cs

-- the lines and results of flows are those of such cuts, behind so many traces, which have so many traces themselves
pub record AreAllocated (choice : Choice) (before : ℕ) (flows : List Flow) (parts : List (List CodeLine)) (outs : List (List TraceOut)) (traces : ℕ) : Type 0 where
  pub cuts : List Cut
  pub flows_are : flows ≡ map (λ c. c.flow) cuts
  pub parts_are : parts ≡ map (λ c. placed_of c.flow c.traces c.outs) cuts
  pub outs_are : outs ≡ map (λ c. c.outs) cuts
  pub each : AllAllocations choice before cuts
  pub count : traces ≡ trace_count cuts
