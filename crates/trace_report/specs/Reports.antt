-- The lines of all traces of flows.
use Rattle.std.specs.Prelude.{◌≡◌, ℕ, suc, List, [], ◌∷◌, ◌++◌, Option, None, slice_index_or}
use Rattle.lir_core.specs.declared.flow.Node.{Node}
use Rattle.lir_core.specs.declared.flow.Flow.{Flow}
use Rattle.lir_core.specs.declared.flow.Trace.{Trace}
use Rattle.trace_build.specs.Cuts.{lists_of}
use Rattle.trace_build.specs.Traces.{traces_of}
use Rattle.trace_build.specs.Parents.{AreParents}
use Rattle.alloc_choice.specs.declared.choice.Choice.{Choice}
use Rattle.alloc_choice.specs.declared.choice.Policy.{Policy}
use Rattle.alloc_choice.specs.Choice.{used}
use Rattle.trace_report.specs.declared.lines.Told.{Told}
use Rattle.trace_report.specs.Lines.{line_of}

abbrev pub told_of : Policy → List Node → (procedure number : ℕ) → Option ℕ → Trace → Told
told_of policy nodes procedure number parent trace = record { procedure = procedure; number = number; parent = parent; used = used policy nodes trace.nodes }

-- the lines of a flow's traces, the first of which has this number
abbrev pub lines_from : Policy → List Node → (procedure number : ℕ) → List (Option ℕ) → List Trace → List ℕ
lines_from policy nodes procedure number parents [] = []
lines_from policy nodes procedure number parents (trace ∷ traces) =
    line_of nodes trace (told_of policy nodes procedure number (slice_index_or parents number None) trace)
    ++ lines_from policy nodes procedure (suc number) parents traces

-- these bytes tell the traces of this flow: those of the builder, each with the trace above it
pub record IsFlowReport (choice : Choice) (procedure : ℕ) (flow : Flow) (bytes : List ℕ) : Type 0 where
  pub traces : List Trace
  pub cut : lists_of traces ≡ traces_of choice.builder flow.nodes
  pub parents : List (Option ℕ)
  pub above : AreParents flow traces parents
  pub lines : bytes ≡ lines_from choice.policy flow.nodes procedure 0 parents traces

-- the traces of a flow, and then those of further flows
pub record IsJoined (first next : List ℕ → Type 0) (bytes : List ℕ) : Type 0 where
  pub front : List ℕ
  pub rest : List ℕ
  pub joined : bytes ≡ front ++ rest
  pub front_is : first front
  pub rest_is : next rest

-- the traces of flows, the first of which is the procedure of this number
abbrev pub IsReport : Choice → (procedure : ℕ) → List Flow → List ℕ → Type 0
IsReport choice procedure [] bytes = bytes ≡ []
IsReport choice procedure (f ∷ fs) bytes = IsJoined (IsFlowReport choice procedure f) (IsReport choice (suc procedure) fs) bytes
