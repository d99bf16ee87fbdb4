-- The results of the objects of all modules, on a plan of the texts.
use Rattle.std.proofs.Common.{◌≡◌, ℕ, ◌≤◌, Bool, List, map, length, true, refl, sym, ap, ap₂, subst, ◌∙◌, arith}
use Rattle.std.proofs.lemmas.List.{length-map}
use Rattle.image_form.specs.declared.image.Image.{Image}
use Rattle.ob_types.specs.WellFormed.{well_formed}
use Rattle.ob_types.specs.declared.program.Program.{Program}
use Rattle.ssa_core.specs.declared.procedure.Proc.{Proc}
use Rattle.ssa_lowered.specs.Lowered.{lowered}
use Rattle.lir_core.specs.declared.flow.Trace.{Trace}
use Rattle.lir_core.specs.declared.places.TraceOut.{TraceOut}
use Rattle.placed_code.specs.Layout.{all_words}
use Rattle.placed_code.specs.Results.{all_placed}
use Rattle.linked_flows.specs.Allocations.{Cut, steps_of, all_allocated}
use Rattle.module_object.specs.words.alloc_choice.declared.choice.Choice.{Choice}
use Rattle.alloc_audit.specs.declared.verdict.Verdict.TheVariants.{Sound}
use Rattle.alloc_audit.specs.Results.{AreLive}
use Rattle.module_object.specs.audited_allocations.Joined.{joined}
use Rattle.module_object.specs.words.back_end.Images.{AreCutsOf, code_length}
use Rattle.module_object.specs.placed_image.Cutting.{AreCutBy}
use Rattle.module_object.specs.placed_image.Shares.{cuts_of}
use Rattle.module_object.specs.words.program_image.Images.{IsProgramImage}
use Rattle.module_object.specs.words.program_image.declared.imaging.Compiled.{Compiled}
use Rattle.module_object.specs.words.source_program.Texts.{IsProgramOfTexts}
use Rattle.module_object.specs.words.source_image.Images.{IsImageOfTexts}
use Rattle.module_object.specs.planned_image.Plans.{IsPlanOfTexts}
use Rattle.module_object.specs.planned_image.Audits.{IsImageOfResults, verdict_on}
use Rattle.module_object.specs.planned_image.declared.planning.ProgramPlan.{ProgramPlan}
use Rattle.module_object.proofs.planned_image.Own.{own_pass, own_image, cut_same, cuts_back}
use Rattle.one_lowering.specs.Forms.{HaveOneLowering}
use Rattle.object_laws.proofs.Alike.{results}

-- a choice's own results, on plans of the texts and in their images
module _ (one_lowering : (texts : List (List ℕ)) (p q : Program) → IsProgramOfTexts texts p → IsProgramOfTexts texts q → well_formed p ≡ true → well_formed q ≡ true → HaveOneLowering p q)
    (one_image : (a b : Choice) (p q : Program) (cuts others : List Cut) (image another : Image) → a.policy ≡ b.policy → a.builder ≡ b.builder → a.regs ≡ b.regs → HaveOneLowering p q
    → IsProgramImage a p cuts image → IsProgramImage b q others another → (cuts ≡ others) × (image ≡ another))
    (choice : Choice) (texts : List (List ℕ)) (made : Compiled) (x : IsImageOfTexts choice texts made) where
  abbrev own : List TraceOut
  own = joined (results x.cuts)

  -- of another program that the texts are
  are_of : (q : Program) → IsProgramOfTexts texts q → well_formed q ≡ true → AreCutsOf choice (lowered q) x.cuts
  are_of q of_texts well =
      let one = one_lowering texts x.program q x.of_texts of_texts x.well_formed well in
      subst (λ (ps : List Proc). AreCutsOf choice ps x.cuts) one.procedures x.is.are

  pub they_pass : (plan : ProgramPlan) → IsPlanOfTexts choice.builder texts plan → (lives : List (ℕ → ℕ → Bool)) → AreLive plan.flows.items lives → verdict_on choice.regs plan lives own ≡ Sound
  they_pass plan y lives live = own_pass choice y.program x.cuts (are_of y.program y.of_texts y.well_formed) plan lives y.is live

  pub their_image : (q : Program) → IsProgramOfTexts texts q → well_formed q ≡ true → (image : Image) → IsImageOfResults choice.builder choice.regs q own image → image ≡ made.image
  their_image q of_texts well image linked =
      let one = one_lowering texts q x.program of_texts x.of_texts well x.well_formed in
      let there = own_image choice q x.cuts (are_of q of_texts well) x.is.few image linked in
      (one_image choice choice q x.program x.cuts x.cuts image made.image refl refl refl one there x.is).1

  pub their_code : (plan : ProgramPlan) → IsPlanOfTexts choice.builder texts plan → code_length (cuts_of plan.flows.items (map (λ v. v.items) plan.cuts.items) own) ≤ 262144
  their_code plan y =
      let lists : List (List Trace) = map (λ v. v.items) plan.cuts.items in
      let are = are_of y.program y.of_texts y.well_formed in
      let same_flows : plan.flows.items ≡ map (λ c. c.flow) x.cuts = y.is.flows ∙ sym are.flows in
      let cut = cut_same choice 0 x.cuts lists are.each (subst (λ fs. AreCutBy choice.builder fs lists) same_flows y.is.cut) in
      let back : cuts_of plan.flows.items lists own ≡ x.cuts = ap₂ (λ fs ts. cuts_of fs ts own) same_flows cut ∙ cuts_back choice 0 x.cuts are.each in
      let long : length made.image.code ≡ code_length x.cuts = ap (λ (i : Image). length i.code) x.is.is ∙ length-map (all_words (all_placed steps_of (all_allocated x.cuts))) _ in
      let few = x.form.code in
      let same = ap code_length back in
      omega (arith, long, few, same)
