-- What is linked of the objects of texts that have an image.
use Rattle.std.proofs.Common.{◌≡◌, ◌<◌, ◌≤◌, ℕ, zero, Bool, List, ◌∷◌, map, length, true, Option, Some, None, refl, sym, ap, subst, ◌∙◌, arith}
use Rattle.std.specs.Prelude.{slice_get}
use Rattle.outside.specs.Files.{Held}
use Rattle.image_form.specs.declared.image.Image.{Image}
use Rattle.ob_types.specs.WellFormed.{well_formed}
use Rattle.ob_types.specs.declared.program.Program.{Program}
use Rattle.trace_build.specs.Traces.{traces_in}
use Rattle.object_commands.specs.words.alloc_choice.declared.choice.Choice.{Choice}
use Rattle.alloc_audit.specs.declared.verdict.Verdict.TheVariants as finding
use Rattle.alloc_audit.specs.Results.{AreLive}
use Rattle.alloc_audit.proofs.Living.{lives_are_said}
use Rattle.object_commands.specs.words.back_end.Images.{code_length}
use Rattle.object_commands.specs.words.compiled_runs.Compiled.{flows_of}
use Rattle.object_commands.specs.placed_image.Shares.{cuts_of}
use Rattle.object_commands.specs.words.program_image.Faults.{TellsOfTraces}
use Rattle.object_commands.specs.words.program_image.Limits.{most_traces}
use Rattle.object_commands.proofs.words.program_image.Telling.{few_traces}
use Rattle.object_commands.specs.words.program_image.declared.imaging.Compiled.{Compiled}
use Rattle.object_commands.specs.words.source_program.Texts.{IsProgramOfTexts, IsSourceFault}
use Rattle.object_commands.specs.words.source_program.declared.fault.SourceFault.{SourceFault}
use Rattle.object_commands.specs.words.source_program.declared.fault.SourceFault.TheVariants as source
use Rattle.object_commands.specs.words.source_image.Images.{IsImageOfTexts}
use Rattle.object_commands.specs.words.source_image.Refusals.{IsRefusalOf}
use Rattle.object_commands.specs.words.source_image.declared.refusal.Refusal.{Refusal}
use Rattle.object_commands.specs.words.source_image.declared.refusal.Refusal.TheVariants.{Memory}
use Rattle.object_commands.specs.planned_image.Plans.{IsPlanOfTexts, TellsOfPlan}
use Rattle.object_commands.specs.planned_image.Audits.{IsImageOfResults, verdict_on}
use Rattle.object_commands.specs.planned_image.declared.planning.ProgramPlan.{ProgramPlan}
use Rattle.object_commands.proofs.planned_image.Placed.{valid_flows}
use Rattle.one_lowering.specs.Forms.{HaveOneLowering}
use Rattle.object_commands.proofs.words.text_laws.one_refusal.Passed.{early_apart}
use Rattle.object_commands.proofs.words.text_laws.one_refusal.Refused.{excluded}
use Rattle.object_commands.proofs.note_laws.Own.{plainly, as_traces}
use Rattle.object_form.specs.declared.object.Object.{Object}
use Rattle.obj_link.specs.Joining.{other_choice, results_of, texts_of}
use Rattle.trc_answers.specs.Verdict.{Verdict, Written}
use Rattle.trc_answers.specs.Reading.{most_modules}
use Rattle.object_commands.specs.note_commands.Audits.{AuditedComeTo, AreUnsound, MakeMuchCode, MakeAnImage}
use Rattle.object_commands.proofs.note_commands.Once.{not_sound}
use Rattle.object_commands.specs.Links.{AreHeld, AreObjectsIn, ContentsComeTo, HaveNoObject, HaveObjects, JoinedComeTo, HaveNoPlan, HavePlan, LinkComesTo, AreTooMany, LacksOne, HaveContents, ObjectsComeTo, HasOther, AreOfOne}
use Rattle.object_commands.proofs.Once.{held_same, held_at, object_at, objects_same, no_rule}
use Rattle.object_commands.specs.object_laws.Objects.{AreObjectsOfTexts}
use Rattle.link_laws.proofs.Objects.{objects_texts, by_choice, objects_choice}

none_some : (o : Option ℕ) (n : ℕ) → o ≡ None → o ≡ Some n → ⊥
none_some o n e f = cc

first_at : (objects : List Object) (o : Object) (os : List Object) → objects ≡ o ∷ os → slice_get objects zero ≡ Some o
first_at objects o os e = ap (λ xs. slice_get xs zero) e

module _ (pass : (a b : Choice) (texts : List (List ℕ)) (objects : List Object) (made : Compiled) (plan : ProgramPlan) (lives : List (ℕ → ℕ → Bool))
    → a.policy ≡ b.policy → a.builder ≡ b.builder → a.regs ≡ b.regs → AreObjectsOfTexts a texts objects → IsImageOfTexts b texts made
    → IsPlanOfTexts b.builder texts plan → AreLive plan.flows.items lives → verdict_on b.regs plan lives (results_of objects) ≡ finding.Sound)
    (linked : (a b : Choice) (texts : List (List ℕ)) (objects : List Object) (made : Compiled) (p : Program) (image : Image)
    → a.policy ≡ b.policy → a.builder ≡ b.builder → a.regs ≡ b.regs → AreObjectsOfTexts a texts objects → IsImageOfTexts b texts made
    → IsProgramOfTexts texts p → well_formed p ≡ true → IsImageOfResults b.builder b.regs p (results_of objects) image → image ≡ made.image)
    (code : (a b : Choice) (texts : List (List ℕ)) (objects : List Object) (made : Compiled) (plan : ProgramPlan)
    → a.policy ≡ b.policy → a.builder ≡ b.builder → a.regs ≡ b.regs → AreObjectsOfTexts a texts objects → IsImageOfTexts b texts made
    → IsPlanOfTexts b.builder texts plan
    → code_length (cuts_of plan.flows.items (map (λ v. v.items) plan.cuts.items) (results_of objects)) ≤ 262144)
    (one_fault : (texts : List (List ℕ)) (a b : SourceFault) → IsSourceFault texts a → IsSourceFault texts b → ¬ (a ≡ source.Memory) → ¬ (b ≡ source.Memory) → a ≡ b)
    (apart : (texts : List (List ℕ)) (p : Program) (a : SourceFault) → IsProgramOfTexts texts p → IsSourceFault texts a → a ≡ source.Memory)
    (one_lowering : (texts : List (List ℕ)) (p q : Program) → IsProgramOfTexts texts p → IsProgramOfTexts texts q → well_formed p ≡ true → well_formed q ≡ true → HaveOneLowering p q)
    (a b : Choice) (policy : a.policy ≡ b.policy) (builder : a.builder ≡ b.builder) (regs : a.regs ≡ b.regs)
    (texts : List (List ℕ)) (objects : List Object) (are : AreObjectsOfTexts a texts objects) (made : Compiled) (x : IsImageOfTexts b texts made) where
  few : traces_in b.builder (flows_of x.program) ≤ most_traces
  few = few_traces b x.program x.within x.cuts x.is.are x.is.few

  -- the texts are refused for want of memory alone
  not_refused : (r : Refusal) → IsRefusalOf (TellsOfPlan b.builder) texts r → r ≡ Memory
  not_refused r h =
      let choice = plainly b.builder in
      excluded one_fault apart one_lowering (TellsOfTraces choice) texts x.program x.of_texts x.well_formed
      (λ q one n i k. early_apart choice choice refl x.program q one (record { number = n; index = i }) x.within few k) r (as_traces b.builder texts r h)

  audited : (out : List ℕ) (verdict : Verdict) (plan : ProgramPlan) (is : IsPlanOfTexts b.builder texts plan) → AuditedComeTo b.builder b.regs (Written out) is.program plan (results_of objects) verdict → Written out made.image verdict
  audited out verdict plan is (AreUnsound trace node line found e) =
      absurd (lives_are_said plan.flows.items (valid_flows plan.flows.items is.is.placeable) (λ lives live.
      not_sound trace node line (sym (found lives live) ∙ pass a b texts objects made plan lives policy builder regs are x is live)))
  audited out verdict plan is (MakeMuchCode much e) =
      let short = code a b texts objects made plan policy builder regs are x is in
      absurd (lives_are_said plan.flows.items (valid_flows plan.flows.items is.is.placeable) (λ lives live.
      let long : 262144 < code_length (cuts_of plan.flows.items (map (λ v. v.items) plan.cuts.items) (results_of objects)) = (much lives live).1 in
      omega (arith, long, short)))
  audited out verdict plan is (MakeAnImage image of form words next) =
      subst (λ (i : Image). Written out i verdict) (linked a b texts objects made is.program image policy builder regs are x is.of_texts is.well_formed of) next

  joined : (out : List ℕ) (verdict : Verdict) → JoinedComeTo out b.builder b.regs texts (results_of objects) verdict → Written out made.image verdict
  joined out verdict (HaveNoPlan r) = absurd (r.tells (not_refused r.refusal r.is))
  joined out verdict (HavePlan plan is h) = audited out verdict plan is h

  of_objects : (out : List ℕ) (verdict : Verdict) → ObjectsComeTo out objects verdict → Written out made.image verdict
  of_objects out verdict (HasOther n other e) = absurd (none_some (other_choice objects) n (objects_choice a texts objects are) other)
  of_objects out verdict (AreOfOne first rest is none h) =
      let by = by_choice a texts objects are zero first (first_at objects first rest is) in
      let own_builder : first.builder ≡ b.builder = by.builder ∙ builder in
      let own_regs : first.regs ≡ b.regs = by.regs ∙ regs in
      let own_texts = objects_texts a texts objects are in
      let there : JoinedComeTo out first.builder first.regs (texts_of objects) (results_of objects) verdict ≡ JoinedComeTo out b.builder b.regs texts (results_of objects) verdict =
      λ k. JoinedComeTo out (own_builder k) (own_regs k) (own_texts k) (results_of objects) verdict in
      joined out verdict (subst (λ (t : Type 0). t) there h)

  of_contents : (out : List ℕ) (contents : List (List ℕ)) (verdict : Verdict) → AreObjectsIn contents objects → ContentsComeTo out contents verdict → Written out made.image verdict
  of_contents out contents verdict there (HaveNoObject n t s h e) = let o = object_at contents objects n h.bytes there h.there in absurd (no_rule h.bytes o.0 t s o.1 h.broken)
  of_contents out contents verdict there (HaveObjects others also h) = of_objects out verdict (subst (λ xs. ObjectsComeTo out xs verdict) (objects_same contents others objects also there) h)

  pub of_files : (held : Held) (out : List ℕ) (names contents : List (List ℕ)) (verdict : Verdict) → length names ≤ most_modules → AreHeld (Some held) names contents → AreObjectsIn contents objects
      → LinkComesTo (Some held) out names verdict → Written out made.image verdict
  of_files held out names contents verdict few_names are_held there (AreTooMany many e) = absurd (omega (arith, many, few_names))
  of_files held out names contents verdict few_names are_held there (LacksOne n name before few_names' are_held' at none e) = absurd (held_at held names contents n name are_held at none)
  of_files held out names contents verdict few_names are_held there (HaveContents others few_names' also h) =
      of_contents out contents verdict there (subst (λ xs. ContentsComeTo out xs verdict) (held_same held names others contents also are_held) h)
