-- Images of plans do what the programs mean.
use Rattle.std.proofs.Common.{◌≡◌, ℕ, ◌<◌, ◌≤◌, ◌^◌, Bool, List, map, length, true, Vec, sym, ap, subst, ◌∙◌, refl}
use Rattle.std.specs.Prelude.{All}
use Rattle.std.specs.Global.{Global}
use Rattle.std.proofs.lemmas.List.{length-map}
use Rattle.image_form.specs.declared.image.Image.{Image}
use Rattle.image_form.specs.Form.{IsInForm}
use Rattle.ob_types.specs.WellFormed.{well_formed}
use Rattle.ob_types.specs.declared.program.Program.{Program}
use Rattle.ssa_lowered.specs.Lowered.{lowered}
use Rattle.lir_core.specs.declared.flow.Flow.{Flow}
use Rattle.lir_core.specs.declared.flow.Trace.{Trace}
use Rattle.lir_core.specs.declared.places.TraceOut.{TraceOut}
use Rattle.lir_core.specs.Flows.{IsValidFlow}
use Rattle.a64_select.specs.Selected.{selected}
use Rattle.trace_build.specs.declared.builder.Builder.{Builder}
use Rattle.placed_code.specs.declared.data.ImageData.{ImageData}
use Rattle.linked_flows.specs.Allocations.{Cut}
use Rattle.image_words.specs.link_plan.Linked.{linked, DataFits}
use Rattle.alloc_audit.specs.declared.verdict.Verdict.{Verdict}
use Rattle.alloc_audit.specs.declared.verdict.Verdict.TheVariants.{Sound}
use Rattle.alloc_audit.specs.Results.{AreWalked}
use Rattle.image_words.specs.back_end.Images.{code_length}
use Rattle.image_words.specs.compiled_runs.Compiled.{flows_of, data_of}
use Rattle.placed_image.specs.Cutting.{AreCutBy}
use Rattle.placed_image.specs.Shares.{cuts_of}
use Rattle.placed_image.specs.Placing.{IsPlaceable, CanBePlaced, IsPlacedImage}
use Rattle.placed_image.specs.declared.fault.PlacingFault.{PlacingFault}
use Rattle.placed_image.specs.declared.fault.PlacingFault.TheVariants as placing
use Rattle.placed_image.proofs.Results.{flows_are}
use Rattle.image_words.specs.program_image.Images.{DoesAsMeant}
use Rattle.image_words.proofs.program_image.Fitting.{data_fits_as, all_named}
use Rattle.image_words.proofs.program_image.Running.{linked_does_as_meant}
use Rattle.planned_image.specs.Plans.{IsProgramPlan}
use Rattle.planned_image.specs.Audits.{IsImageOfResults, RefusesBy, TellsOfAudit, verdict_on}
use Rattle.planned_image.specs.Faults.{of_placing}
use Rattle.planned_image.specs.declared.fault.AuditFault.{AuditFault}
use Rattle.planned_image.specs.declared.fault.AuditFault.TheVariants.{Unsound, Code, Memory}
use Rattle.planned_image.specs.declared.planning.ProgramPlan.{ProgramPlan}

pub valid_flows : (fs : List Flow) → All IsPlaceable fs → All IsValidFlow fs
valid_flows fs can k f l = (can k f l).valid

module _ (builder : Builder) (p : Program) (plan : ProgramPlan) (is : IsProgramPlan builder p plan) where
  pub extra_fits : DataFits plan.extra
  extra_fits = data_fits_as p is.within plan.extra is.extra

  pub each_named : length plan.extra.names ≡ length plan.flows.items
  each_named = all_named p (lowered p) plan.extra refl is.extra ∙ sym (length-map (lowered p) selected) ∙ sym (ap (λ (fs : List Flow). length fs) is.flows)

  module _ (fine : well_formed p ≡ true) (k : ℕ) (outs : List TraceOut) (walked : AreWalked k 0 plan.flows.items (map (λ v. v.items) plan.cuts.items) outs) where
    pub can_be_placed : 4 ≤ k → k ≤ 16 → CanBePlaced plan.flows.items (map (λ v. v.items) plan.cuts.items) outs
    can_be_placed enough few = record { builder = builder; regs = k; enough = enough; few = few; flows_are = is.placeable; cut = is.cut; walked = walked }

    -- the image in the words of the program
    pub image_of_results : (image : Image) → IsPlacedImage (cuts_of plan.flows.items (map (λ v. v.items) plan.cuts.items) outs) plan.extra image → IsInForm image → IsImageOfResults builder k p outs image
    image_of_results image placed form =
        let lists = map (λ v. v.items) plan.cuts.items in
        let there : IsPlacedImage (cuts_of (flows_of p) lists outs) (data_of p) image = subst (λ fs. IsPlacedImage (cuts_of fs lists outs) (data_of p) image) is.flows (subst (λ x. IsPlacedImage (cuts_of plan.flows.items lists outs) x image) is.extra placed) in
        let cut : AreCutBy builder (flows_of p) lists = subst (λ fs. AreCutBy builder fs lists) is.flows is.cut in
        record {
          cuts = lists;
          cut = cut;
          walked = subst (λ fs. AreWalked k 0 fs lists outs) is.flows walked;
          is = there.is;
          means = linked_does_as_meant p (cuts_of (flows_of p) lists outs) image (flows_are builder (flows_of p) lists outs cut) there.is there.runs fine is.within is.short form;
        }

---- Slices of a plan

module _ (fs gs : List Flow) (vs ws : List (Vec Trace Global)) (flows : gs ≡ fs) (cuts : ws ≡ vs) where
  pub moved : (P : List Flow → List (Vec Trace Global) → Type 0) → P fs vs → P gs ws
  moved P h = subst (λ xs. P xs ws) (sym flows) (subst (P fs) (sym cuts) h)

  pub moved_back : (P : List Flow → List (Vec Trace Global) → Type 0) → P gs ws → P fs vs
  moved_back P h = subst (λ xs. P xs vs) flows (subst (P gs) cuts h)

---- Faults

pub refused_told : (k : ℕ) (plan : ProgramPlan) (lives : List (ℕ → ℕ → Bool)) (outs : List TraceOut) (v : Verdict) (fault : AuditFault) → v ≡ verdict_on k plan lives outs → RefusesBy v fault → TellsOfAudit k plan lives outs fault
refused_told k plan lives outs v (Unsound trace node line) same h = sym same ∙ h
refused_told k plan lives outs v Code same h = absurd h
refused_told k plan lives outs v Memory same h = tt

pub placing_told : (k : ℕ) (plan : ProgramPlan) (lives : List (ℕ → ℕ → Bool)) (outs : List TraceOut) (fault : PlacingFault) → verdict_on k plan lives outs ≡ Sound
    → (fault ≡ placing.Code → 2 ^ 18 < code_length (cuts_of plan.flows.items (map (λ v. v.items) plan.cuts.items) outs)) → TellsOfAudit k plan lives outs (of_placing fault)
placing_told k plan lives outs placing.Code sound long = (sound, long refl)
placing_told k plan lives outs placing.Memory sound long = tt
