-- What the tasks of flows give.
use Rattle.std.specs.Prelude.{◌≡◌, ◌<◌, List, [], ◌∷◌, length, Bool, true, false, ◌&&◌, nat_lt}
use Rattle.lir_core.specs.declared.flow.Flow.{Flow}
use Rattle.lir_core.specs.Flows.{IsValidFlow}
use Rattle.trace_build.specs.Traces.{traces_in}
use Rattle.alloc_choice.specs.declared.choice.Choice.{Choice}
use Rattle.back_end.specs.Made.{IsMade}
use Rattle.back_end.specs.declared.outcome.Outcome.{Outcome}
use Rattle.back_end.specs.declared.outcome.Outcome.TheVariants.{Made, Traces, Large}

-- a large one is handed back
abbrev pub IsOutcome : Choice → Flow → Outcome → Type 0
IsOutcome choice flow (Made made) = IsMade choice flow made
IsOutcome choice flow Traces = 262144 < traces_in choice.builder (flow ∷ [])
IsOutcome choice flow (Large same) = (same ≡ flow) × IsValidFlow flow

-- workers are to share the traces of a flow
abbrev pub is_large : Choice → Flow → Bool
is_large choice flow = nat_lt 1 choice.jobs && nat_lt 1024 (length flow.nodes)

-- a flow is handed back
abbrev pub is_handed_back : Outcome → Bool
is_handed_back (Large flow) = true
is_handed_back (Made made) = false
is_handed_back Traces = false

-- one for each flow, in order
abbrev pub AreOutcomes : Choice → List Flow → List Outcome → Type 0
AreOutcomes choice [] [] = Unit {0}
AreOutcomes choice (f ∷ fs) (o ∷ os) = IsOutcome choice f o × AreOutcomes choice fs os
AreOutcomes choice _ _ = ⊥
