-- What is planned of a program.
use Rattle.std.proofs.Common.{◌≡◌, ℕ, zero, suc, ◌<◌, ◌≤◌, List, [], ◌∷◌, map, true, Some, None, refl, sym, ap, subst, arith}
use Rattle.std.specs.Prelude.{All}
use Rattle.ob_types.specs.declared.program.Program.{Program}
use Rattle.ssa_core.specs.declared.procedure.Proc.{Proc}
use Rattle.ssa_lowered.specs.Limits.{limit_of}
use Rattle.ssa_tables.specs.Faults.{Tells as TellsLowered}
use Rattle.ssa_tables.specs.declared.fault.LowerFault.{LowerFault}
use Rattle.ssa_tables.specs.declared.fault.LowerFault.TheVariants as low
use Rattle.lir_core.specs.declared.flow.Flow.{Flow}
use Rattle.a64_select.specs.Selected.{selected}
use Rattle.a64_select.proofs.FlowValid.{selected_valid}
use Rattle.trace_build.specs.declared.builder.Builder.{Builder}
use Rattle.trace_build.specs.Traces.{traces_in}
use Rattle.image_words.specs.alloc_choice.declared.choice.Choice.{Choice}
use Rattle.image_words.specs.back_end.Images.{IsReady, HasFewValues}
use Rattle.image_words.specs.back_end.Numbers.{node_numbers}
use Rattle.image_words.specs.compiled_runs.Compiled.{flows_of}
use Rattle.placed_image.specs.Placing.{IsPlaceable}
use Rattle.image_words.specs.program_image.Faults.{TellsOfTraces, of_lowering}
use Rattle.image_words.specs.program_image.Limits.{IsPassedBeforeCode, InLowering, ByTraces}
use Rattle.image_words.specs.program_image.declared.fault.ProgramFault.{ProgramFault}
use Rattle.image_words.specs.program_image.declared.fault.ProgramFault.TheVariants as whole
use Rattle.planned_image.specs.Plans.{TellsOfLowering, TellsOfPlan}

one_placeable : (p : Proc) → IsReady p → HasFewValues p → node_numbers (selected p).nodes ≡ true → IsPlaceable (selected p)
one_placeable p ready few numbers = record { valid = selected_valid p ready.valid; numbers = numbers; values = few; local_data = ready.local_data; body = ready.body }

-- the flows of procedures that are ready can be placed
pub all_placeable : (ps : List Proc) → All IsReady ps → All HasFewValues ps → All (λ (f : Flow). node_numbers f.nodes ≡ true) (map selected ps) → All IsPlaceable (map selected ps)
all_placeable [] ready few numbers k f l = absurd (omega (arith, l))
all_placeable (p ∷ ps) ready few numbers zero f l = one_placeable p (ready 0 p (omega arith)) (few 0 p (omega arith)) (numbers 0 f (omega arith))
all_placeable (p ∷ ps) ready few numbers (suc k) f l =
    all_placeable ps (λ i x m. ready (suc i) x (omega (arith, m))) (λ i x m. few (suc i) x (omega (arith, m))) (λ i x m. numbers (suc i) x (omega (arith, m))) k f (omega (arith, l))

---- Faults

pub lowering_told : (p : Program) (fault : LowerFault) → TellsLowered fault (limit_of p) → TellsOfLowering p (of_lowering fault)
lowering_told p (low.Limit n i) h = h
lowering_told p low.Memory h = tt

pub plan_told : (builder : Builder) (p : Program) (fault : ProgramFault) → TellsOfLowering p fault → TellsOfPlan builder p fault
plan_told builder p (whole.Limit n i) h choice same = InLowering (record { number = n; index = i }) h
plan_told builder p whole.Memory h choice same = tt

pub traces_told : (builder : Builder) (p : Program) → limit_of p ≡ None → 262144 < traces_in builder (flows_of p) → TellsOfPlan builder p (whole.Limit 57 0)
traces_told builder p none over choice same = ByTraces none (subst (λ b. 262144 < traces_in b (flows_of p)) (sym same) over)
