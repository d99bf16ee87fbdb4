-- A choice's results for a program, linked.
use Rattle.std.proofs.Common.{◌≡◌, ℕ, zero, suc, ◌+◌, ◌<◌, ◌≤◌, ◌^◌, List, [], ◌∷◌, map, length, drop, get_or, refl, sym, ap, ◌∙◌, subst, arith, true, None}
use Rattle.std.specs.Prelude.{All}
use Rattle.std.specs.List.{AllByRecursion}
use Rattle.std.proofs.lemmas.List.{length-map}
use Rattle.std.proofs.lemmas.List.Elements.{recursion_from_All}
use Rattle.a64_memory.specs.Memory.{AreBytes}
use Rattle.image_form.specs.declared.image.Image.{Image}
use Rattle.image_form.specs.Form.{IsInForm}
use Rattle.ob_types.specs.WellFormed.{well_formed}
use Rattle.ob_types.specs.declared.program.Program.{Program}
use Rattle.ssa_lowered.specs.Lowered.{lowered}
use Rattle.lir_core.specs.declared.flow.Flow.{Flow}
use Rattle.lir_core.specs.declared.places.TraceOut.{TraceOut}
use Rattle.boundary_resolve.specs.declared.code_line.CodeLine.{CodeLine}
use Rattle.placed_code.specs.declared.data.ImageData.{ImageData}
use Rattle.linked_flows.specs.Allocations.{Cut}
use Rattle.planned_image.specs.words.link_plan.Linked.{linked, Runs, AreCuts, AllAllocated, AreSmall, IsUnnamedAndFar, frame_of_cuts}
use Rattle.a64_select.specs.Selected.{selected}
use Rattle.plain_form.specs.results.Bounds.{IsNotable}
use Rattle.planned_image.specs.audited_allocations.Joined.{joined}
use Rattle.planned_image.proofs.audited_allocations.Passing.{cuts_notable}
use Rattle.planned_image.specs.words.alloc_choice.declared.choice.Choice.{Choice}
use Rattle.planned_image.specs.words.flow_allocation.Allocations.{AllAllocations, AreAllocated, trace_count}
use Rattle.planned_image.specs.words.back_end.Images.{AreCutsOf}
use Rattle.planned_image.specs.words.compiled_runs.Compiled.{flows_of, data_of}
use Rattle.planned_image.specs.placed_image.Placing.{IsPlaceable}
use Rattle.planned_image.proofs.placed_image.Results.{CanBeLinked, sound_linked, linked_at, named_or_none}
use Rattle.planned_image.specs.words.program_image.Images.{IsProgramImage, DoesAsMeant}
use Rattle.planned_image.specs.words.program_image.Limits.{most_traces}
use Rattle.planned_image.proofs.words.program_image.Fitting.{all_named}
use Rattle.planned_image.proofs.words.program_image.Running.{linked_does_as_meant}
use Rattle.planned_image.specs.declared.planning.ProgramFlows.{ProgramFlows}
use Rattle.planned_image.specs.Plans.{AreProgramFlows}

all_linked : (choice : Choice) (first : ℕ) (cuts : List Cut) → AllByRecursion IsPlaceable (map (λ c. c.flow) cuts) → AllAllocations choice first cuts → AllByRecursion (CanBeLinked choice.regs) cuts
all_linked choice first [] can h = tt
all_linked choice first (c ∷ cuts) can h = (sound_linked choice.regs c can.0 h.0.sound h.0.paths, all_linked choice (first + length c.traces) cuts can.1 h.1)

module _ (choice : Choice) (few : choice.regs ≤ 16) (p : Program) (made : ProgramFlows) (is : AreProgramFlows p made) (parts : List (List CodeLine)) (outs : List (List TraceOut)) (traces : ℕ) (h : AreAllocated choice 0 made.flows.items parts outs traces) where
  linked_each : AllByRecursion (CanBeLinked choice.regs) h.cuts
  linked_each = all_linked choice 0 h.cuts (recursion_from_All IsPlaceable (map (λ c. c.flow) h.cuts) (subst (All IsPlaceable) h.flows_are is.placeable)) h.each

  pub are_cuts : AreCuts choice.regs made.flows.items parts outs h.cuts
  are_cuts = record { flows_are = h.flows_are; parts_are = h.parts_are; outs_are = h.outs_are; few = few; each = λ q c rest e. (linked_at choice.regs h.cuts linked_each q c rest e).allocated }

  pub are_small : AreSmall h.cuts
  are_small q c rest e = (linked_at choice.regs h.cuts linked_each q c rest e).fits

  pub are_of_program : AreCutsOf choice (lowered p) h.cuts
  are_of_program = record { flows = sym h.flows_are ∙ is.flows; each = h.each }

  few_each : (cuts : List Cut) → AllByRecursion IsPlaceable (map (λ (c : Cut). c.flow) cuts) → AllByRecursion (λ (c : Cut). c.flow.values < 2 ^ 32) cuts
  few_each [] can = tt
  few_each (c ∷ cuts) can = let values = can.0.values in (omega (arith, values), few_each cuts can.1)

  -- notes can be written of the results
  pub notable : All IsNotable (joined outs)
  notable =
      subst (λ os. All IsNotable (joined os)) (sym h.outs_are)
      (cuts_notable choice 0 h.cuts h.each (few_each h.cuts (recursion_from_All IsPlaceable (map (λ (c : Cut). c.flow) h.cuts) (subst (All IsPlaceable) h.flows_are is.placeable))))

  -- each flow's name is there
  pub each_named : length made.extra.names ≡ length made.flows.items
  each_named = all_named p (lowered p) made.extra refl is.extra ∙ sym (length-map (lowered p) selected) ∙ sym (ap length is.flows)

  pub never_far : IsUnnamedAndFar made.extra (frame_of_cuts h.cuts) → ⊥
  never_far far = named_or_none made.flows.items h.cuts made.extra (sym h.flows_are) each_named far

  pub few_traces : traces ≤ 262144 → trace_count h.cuts ≤ 262144
  few_traces short = let n = h.count in omega (arith, n, short)

  pub image_is : traces ≤ 262144 → (image : Image) → image ≡ linked h.cuts made.extra → IsProgramImage choice p h.cuts image
  image_is short image e = let n = h.count in record { are = are_of_program; few = omega (arith, n, short); is = e ∙ ap (linked h.cuts) is.extra }

  pub image_means : well_formed p ≡ true → (image : Image) → image ≡ linked h.cuts made.extra
      → ((input : List ℕ) → AreBytes made.extra.constants → ((i : ℕ) → get_or input i 0 < 2 ^ 64) → Runs image h.cuts made.extra input) → IsInForm image → DoesAsMeant p h.cuts image
  image_means fine image e runs form =
      linked_does_as_meant p h.cuts image (sym h.flows_are ∙ is.flows) (e ∙ ap (linked h.cuts) is.extra)
      (subst (λ (x : ImageData). (input : List ℕ) → AreBytes x.constants → ((i : ℕ) → get_or input i 0 < 2 ^ 64) → Runs image h.cuts x input) is.extra runs)
      fine is.within is.short form
