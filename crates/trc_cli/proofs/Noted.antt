-- An audit of the notes that a build wrote comes to its image.
use Rattle.std.proofs.Common.{◌≡◌, ◌≤◌, ℕ, suc, List, [], ◌∷◌, Bool, map, length, true, Option, Some, None, refl, sym, ap, ◌∙◌, subst, arith}
use Rattle.std.specs.Prelude.{slice_get}
use Rattle.outside.specs.Files.{Held}
use Rattle.image_form.specs.declared.image.Image.{Image}
use Rattle.image_file.specs.Spelling.{image_bytes}
use Rattle.ob_types.specs.WellFormed.{well_formed}
use Rattle.ob_types.specs.declared.program.Program.{Program}
use Rattle.lir_core.specs.declared.places.TraceOut.{TraceOut}
use Rattle.object_commands.specs.words.alloc_choice.declared.choice.Choice.{Choice}
use Rattle.alloc_audit.specs.Results.{AreLive}
use Rattle.alloc_audit.specs.declared.verdict.Verdict.TheVariants as finding
use Rattle.alloc_audit.proofs.Living.{lives_are_said}
use Rattle.trace_notes.specs.Notes.{AreNotes, notes}
use Rattle.object_commands.specs.words.back_end.Images.{code_length}
use Rattle.object_commands.specs.placed_image.Shares.{cuts_of}
use Rattle.object_commands.specs.words.program_image.Limits.{BeforeCode}
use Rattle.object_commands.specs.words.source_program.Texts.{IsProgramOfTexts}
use Rattle.object_commands.specs.words.source_image.Refusals.{IsRefusalOf}
use Rattle.object_commands.specs.words.source_image.declared.refusal.Refusal.{Refusal}
use Rattle.object_commands.specs.words.source_image.declared.refusal.Refusal.TheVariants.{TooLong, Source, Limit, Memory}
use Rattle.object_commands.specs.planned_image.Plans.{IsPlanOfTexts, TellsOfPlan}
use Rattle.object_commands.specs.planned_image.Audits.{IsImageOfResults, verdict_on}
use Rattle.object_commands.specs.planned_image.declared.planning.ProgramPlan.{ProgramPlan}
use Rattle.object_commands.proofs.planned_image.Placed.{valid_flows}
use Rattle.object_commands.specs.noted_image.Faults.{TellsWithNotes, BeforeNotes}
use Rattle.object_commands.specs.noted_image.Notes.{IsNotedImageOfTexts}
use Rattle.object_commands.specs.noted_image.declared.noting.NotedImage.{NotedImage}
use Rattle.object_commands.specs.note_commands.Noted.{NotedComeTo, HaveNoNotes, HaveNotes, NotedAnewComeTo, NotesWritten}
use Rattle.object_commands.specs.note_commands.Audits.{AuditOf, AuditComesTo, AreTooMany as AreTooManyModules, LacksNotes, LacksTexts, HasTexts, PlanComesTo, HaveNoPlan, HavePlan, AreTooLong, AreNoNotes, HaveResults, AreUnsound, MakeMuchCode, MakeAnImage, audit_of}
use Rattle.object_commands.proofs.note_commands.Once.{no_rule}
use Rattle.trc_answers.specs.declared.causes.Cause.{Cause}
use Rattle.trc_answers.specs.Reading.{AreRead, AreTextsOf, FilesComeTo, AreTooMany, LacksOne, HasALongOne, HaveTexts, Nothing}
use Rattle.trc_answers.specs.Verdict.{Verdict, Refuses, WritesBoth, Accepts, IsMissing, HasTooMany, HasBytes, AreTheSame, Differ, world}
use Rattle.word_requests.specs.Asked.{Build}
use Rattle.trc_cli.specs.Commands.{ComesTo}
use Rattle.trc_cli.proofs.FilesOnce.{texts_there}
use Rattle.object_commands.proofs.note_commands.Once.{not_sound}

not_refused : (a x b y : List ℕ) (c : Cause) → WritesBoth a x b y ≡ Refuses c → ⊥
not_refused a x b y c e = cc

same_image : (a x y b m n : List ℕ) → WritesBoth a x b m ≡ WritesBoth a y b n → x ≡ y
same_image a x y b m n e = cc

same_notes : (a x y b m n : List ℕ) → WritesBoth a x b m ≡ WritesBoth a y b n → m ≡ n
same_notes a x y b m n e = cc

held_same : (xs ys : List ℕ) (o : Option (List ℕ)) → o ≡ Some xs → o ≡ Some ys → ys ≡ xs
held_same xs ys o e f = cc

held_none : (xs : List ℕ) (o : Option (List ℕ)) → o ≡ None → o ≡ Some xs → ⊥
held_none xs o e f = cc

-- what refuses a plan refuses notes
as_noted : (choice : Choice) (texts : List (List ℕ)) (r : Refusal) → IsRefusalOf (TellsOfPlan choice.builder) texts r → IsRefusalOf (TellsWithNotes choice) texts r
as_noted choice texts (TooLong n) h = h
as_noted choice texts (Source n number at) h = h
as_noted choice texts (Limit n i) h = record { program = h.program; of_texts = h.of_texts; well_formed = h.well_formed; tells = BeforeNotes _ (BeforeCode _ (h.tells choice refl)) }
as_noted choice texts Memory h = tt

-- files that hold what they held
read_later : (held later : Held) (files texts : List (List ℕ)) → ((number : ℕ) (file : List ℕ) → slice_get files number ≡ Some file → later file ≡ held file) → AreRead (Some held) files texts → AreRead (Some later) files texts
read_later held later [] [] same h = tt
read_later held later [] (t ∷ texts) same h = absurd h
read_later held later (f ∷ files) [] same h = absurd h
read_later held later (f ∷ files) (t ∷ texts) same h = (record { is = same 0 f refl ∙ h.0.is; within = h.0.within }, read_later held later files texts (λ i file e. same (suc i) file e) h.1)

module _ (pass : (choice : Choice) (texts : List (List ℕ)) (made : NotedImage) (plan : ProgramPlan) (outs : List TraceOut) (lives : List (ℕ → ℕ → Bool))
    → IsNotedImageOfTexts choice texts made → IsPlanOfTexts choice.builder texts plan → AreNotes outs → made.notes.items ≡ notes outs
    → AreLive plan.flows.items lives → verdict_on choice.regs plan lives outs ≡ finding.Sound)
    (linked_as : (choice : Choice) (texts : List (List ℕ)) (made : NotedImage) (program : Program) (outs : List TraceOut) (image : Image)
    → IsNotedImageOfTexts choice texts made → IsProgramOfTexts texts program → well_formed program ≡ true → AreNotes outs
    → made.notes.items ≡ notes outs → IsImageOfResults choice.builder choice.regs program outs image → image ≡ made.image)
    (code : (choice : Choice) (texts : List (List ℕ)) (made : NotedImage) (plan : ProgramPlan) (outs : List TraceOut)
    → IsNotedImageOfTexts choice texts made → IsPlanOfTexts choice.builder texts plan → AreNotes outs → made.notes.items ≡ notes outs
    → code_length (cuts_of plan.flows.items (map (λ v. v.items) plan.cuts.items) outs) ≤ 262144)
    (excluded : (a b : Choice) (texts : List (List ℕ)) (made : NotedImage) (r : Refusal) → a.policy ≡ b.policy → a.builder ≡ b.builder → a.regs ≡ b.regs
    → IsNotedImageOfTexts a texts made → IsRefusalOf (TellsWithNotes b) texts r → r ≡ Memory)
    (held later : Held) (left : List ℕ) (out image name noted other : List ℕ) (files : List (List ℕ)) (choice : Choice) (audited : Verdict)
    (same : (number : ℕ) (file : List ℕ) → slice_get files number ≡ Some file → later file ≡ held file) (there : later name ≡ Some noted) where
  -- what was made of the texts
  record Made : Type 0 where
    pub texts : List (List ℕ)
    pub are : AreTextsOf (Some held) files texts
    pub made : NotedImage
    pub is : IsNotedImageOfTexts choice texts made
    pub bytes : image_bytes made.image ≡ image
    pub notes_are : made.notes.items ≡ noted

  made_of : (texts : List (List ℕ)) → AreTextsOf (Some held) files texts → (made : NotedImage) → IsNotedImageOfTexts choice texts made → NotesWritten out name made (WritesBoth out image name noted) → Made
  made_of texts are made is e =
      record { texts = texts; are = are; made = made; is = is; bytes = sym (same_image out image (image_bytes made.image) name noted made.notes.items e); notes_are = sym (same_notes out image (image_bytes made.image) name noted made.notes.items e) }

  made_by : FilesComeTo (Some held) files (NotedComeTo choice (NotesWritten out name)) (WritesBoth out image name noted) → Made
  made_by (AreTooMany many e) = absurd (not_refused out image name noted _ e)
  made_by (LacksOne number file reached none e) = absurd (not_refused out image name noted _ e)
  made_by (HasALongOne number file text reached is long e) = absurd (not_refused out image name noted _ e)
  made_by (HaveTexts texts are (HaveNoNotes r)) = absurd (not_refused out image name noted _ r.verdict_is)
  made_by (HaveTexts texts are (HaveNotes made is e)) = made_of texts are made is e

  made_anew : (from : List ℕ) (number : ℕ) → FilesComeTo (Some held) files (NotedAnewComeTo (Some held) choice out name from number) (WritesBoth out image name noted) → Made
  made_anew from n (AreTooMany many e) = absurd (not_refused out image name noted _ e)
  made_anew from n (LacksOne number file reached none e) = absurd (not_refused out image name noted _ e)
  made_anew from n (HasALongOne number file text reached is long e) = absurd (not_refused out image name noted _ e)
  made_anew from n (HaveTexts texts are (IsMissing none e)) = absurd (not_refused out image name noted _ e)
  made_anew from n (HaveTexts texts are (HasTooMany bytes is many e)) = absurd (not_refused out image name noted _ e)
  made_anew from n (HaveTexts texts are (HasBytes bytes is few (HaveNoNotes r))) = absurd (not_refused out image name noted _ r.verdict_is)
  made_anew from n (HaveTexts texts are (HasBytes bytes is few (HaveNotes made of (AreTheSame eq e)))) = made_of texts are made of e
  made_anew from n (HaveTexts texts are (HasBytes bytes is few (HaveNotes made of (Differ at d e)))) = absurd (not_refused out image name noted _ e)

  abbrev of : AuditOf
  of = audit_of other choice.builder choice.regs

  module _ (m : Made) where
    are_later : AreTextsOf (Some later) files m.texts
    are_later = record { few = m.are.few; read = read_later held later files m.texts same m.are.read }

    plan_accepts : PlanComesTo of noted m.texts audited → audited ≡ Accepts other image
    plan_accepts (HaveNoPlan r) = absurd (r.tells (excluded choice choice m.texts m.made r.refusal refl refl refl m.is (as_noted choice m.texts r.refusal r.is)))
    plan_accepts (HavePlan plan is (AreTooLong long e)) =
        let few = m.is.is.short in
        let eq = ap length m.notes_are in
        absurd (omega (arith, few, eq, long))
    plan_accepts (HavePlan plan is (AreNoNotes number at few rule e)) = absurd (no_rule noted _ (number, at) m.is.is.are_notes (sym m.notes_are ∙ m.is.is.notes) rule)
    plan_accepts (HavePlan plan is (HaveResults outs few are eq (AreUnsound t n l found e))) =
        absurd (lives_are_said plan.flows.items (valid_flows plan.flows.items is.is.placeable) (λ lives live. not_sound t n l (sym (found lives live) ∙ pass choice m.texts m.made plan outs lives m.is is are (m.notes_are ∙ eq) live)))
    plan_accepts (HavePlan plan is (HaveResults outs few are eq (MakeMuchCode much e))) =
        let fits = code choice m.texts m.made plan outs m.is is are (m.notes_are ∙ eq) in
        absurd (lives_are_said plan.flows.items (valid_flows plan.flows.items is.is.placeable) (λ lives live. let long = (much lives live).1 in omega (arith, fits, long)))
    plan_accepts (HavePlan plan is (HaveResults outs few are eq (MakeAnImage linked h form words e))) =
        e ∙ ap (λ i. Accepts other (image_bytes i)) (linked_as choice m.texts m.made is.program outs linked m.is is.of_texts is.well_formed are (m.notes_are ∙ eq) h) ∙ ap (λ bytes. Accepts other bytes) m.bytes

    audit_accepts : AuditComesTo (Some later) of name files audited → audited ≡ Accepts other image
    audit_accepts (AreTooManyModules many e) = let few = m.are.few in absurd (omega (arith, few, many))
    audit_accepts (LacksNotes few none e) = absurd (held_none noted _ none there)
    audit_accepts (LacksTexts bytes c few is comes e) = absurd (texts_there later files Nothing m.texts (Refuses c) are_later comes)
    audit_accepts (HasTexts bytes texts is are h) =
        plan_accepts (subst (λ x. PlanComesTo of x m.texts audited) (held_same noted bytes _ there is) (texts_there later files (PlanComesTo of bytes) m.texts audited are_later (HaveTexts texts are h)))

  pub accepts : (from : Option (List ℕ)) → ComesTo (world (Some held) (Some left)) (Some (Build out files choice from (Some name))) (WritesBoth out image name noted) → AuditComesTo (Some later) of name files audited → audited ≡ Accepts other image
  accepts None w h = audit_accepts (made_by w) h
  accepts (Some from) w h = audit_accepts (made_anew from (length files) w) h
