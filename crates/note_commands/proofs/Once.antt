-- Texts come to one thing with notes, and an audit of them to one.
use Rattle.std.proofs.Common.{◌≡◌, true, ◌≤◌, ◌⊎◌, inl, inr, ℕ, List, Bool, Result, map, length, Ok, Err, sym, ap, ap₂, ◌∙◌, subst, arith}
use Rattle.std.proofs.lemmas.List.{length-map}
use Rattle.image_form.specs.declared.image.Image.{Image}
use Rattle.image_form.specs.Form.{IsInForm}
use Rattle.image_file.specs.Spelling.{image_bytes}
use Rattle.ob_types.specs.WellFormed.{well_formed}
use Rattle.ob_types.specs.declared.program.Program.{Program}
use Rattle.lir_core.specs.declared.flow.Trace.{Trace}
use Rattle.lir_core.specs.declared.places.TraceOut.{TraceOut}
use Rattle.trace_build.specs.declared.builder.Builder.{Builder}
use Rattle.linked_flows.specs.Allocations.{steps_of, all_allocated}
use Rattle.note_laws.specs.words.link_plan.Linked.{linked}
use Rattle.placed_code.specs.Layout.{all_words}
use Rattle.placed_code.specs.Results.{all_placed}
use Rattle.alloc_audit.specs.Results.{AreLive}
use Rattle.alloc_audit.specs.Verdicts.{verdict_of}
use Rattle.alloc_audit.specs.declared.verdict.Verdict.{Verdict as Finding}
use Rattle.alloc_audit.specs.declared.verdict.Verdict.TheVariants as finding
use Rattle.alloc_audit.proofs.Living.{lives_are_said}
use Rattle.alloc_audit.proofs.Passes.{all_pass}
use Rattle.note_laws.specs.words.back_end.Images.{code_length}
use Rattle.note_laws.specs.words.compiled_runs.Compiled.{flows_of}
use Rattle.one_lowering.specs.Forms.{HaveOneLowering}
use Rattle.note_laws.specs.placed_image.Cutting.{AreCutBy}
use Rattle.note_laws.specs.placed_image.Shares.{cuts_of}
use Rattle.note_laws.specs.words.source_program.Texts.{IsProgramOfTexts}
use Rattle.note_laws.specs.words.source_image.Refusals.{IsRefusalOf}
use Rattle.note_laws.specs.words.source_image.declared.refusal.Refusal.{Refusal}
use Rattle.note_laws.specs.words.source_image.declared.refusal.Refusal.TheVariants.{Memory}
use Rattle.note_laws.specs.planned_image.Plans.{IsPlanOfTexts, IsProgramPlan, TellsOfPlan}
use Rattle.note_laws.specs.planned_image.Audits.{IsImageOfResults, verdict_on}
use Rattle.note_laws.specs.planned_image.declared.planning.ProgramPlan.{ProgramPlan}
use Rattle.note_laws.proofs.planned_image.Placed.{valid_flows}
use Rattle.trace_notes.specs.Notes.{AreNotes, notes, notes_in, numbered}
use Rattle.trace_notes.proofs.Notes.{notes_again}
use Rattle.note_laws.proofs.words.text_laws.one_image.Moved.{one_data}
use Rattle.note_laws.proofs.Own.{one_reading}
use Rattle.note_laws.proofs.Plans.{cut_once, flows_once, same_flows, same_cuts}
use Rattle.trc_answers.specs.Verdict.{Verdict, Refuses, Accepted}
use Rattle.trc_answers.specs.declared.causes.Cause.TheVariants as cause
use Rattle.trc_texts.specs.Texts.{cause_of_refusal}
use Rattle.note_commands.specs.Audits.{AuditOf, AuditedComeTo, IsFound, MakesMuchCode, ResultsComeTo, AreUnsound, MakeMuchCode, MakeAnImage, NotesComeTo, AreTooLong, AreNoNotes, HaveResults, PlanComesTo, HaveNoPlan, HavePlan}

---- Numbers that can't be different

same_or_not : (n m : ℕ) → (n ≡ m) ⊎ (n ≡ m → ⊥)
same_or_not n m = grind arith

stable : (n m : ℕ) → ((n ≡ m → ⊥) → ⊥) → n ≡ m
stable n m h = by (same_or_not n m)
  where
    by : (n ≡ m) ⊎ (n ≡ m → ⊥) → n ≡ m
    by (inl e) = e
    by (inr f) = absurd (h f)

-- three numbers of a finding
trace_same : (t n l u m k : ℕ) → finding.Unsound t n l ≡ finding.Unsound u m k → t ≡ u
trace_same t n l u m k e = cc

node_same : (t n l u m k : ℕ) → finding.Unsound t n l ≡ finding.Unsound u m k → n ≡ m
node_same t n l u m k e = cc

line_same : (t n l u m k : ℕ) → finding.Unsound t n l ≡ finding.Unsound u m k → l ≡ k
line_same t n l u m k e = cc

pub not_sound : (t n l : ℕ) → finding.Unsound t n l ≡ finding.Sound → ⊥
not_sound t n l e = cc

---- Results

module _ (builder : Builder) (k : ℕ) (p q : Program) (one : HaveOneLowering p q) (plan other : ProgramPlan) (is : IsProgramPlan builder p plan) (also : IsProgramPlan builder q other) (outs : List TraceOut) where
  lives_there : ((lives : List (ℕ → ℕ → Bool)) → AreLive plan.flows.items lives → ⊥) → ⊥
  lives_there = lives_are_said plan.flows.items (valid_flows plan.flows.items is.placeable)

  there : (lives : List (ℕ → ℕ → Bool)) → AreLive plan.flows.items lives → AreLive other.flows.items lives
  there lives live = subst (λ fs. AreLive fs lives) (same_flows builder p q one plan other is also) live

  -- what is found on one plan is found on the other
  moved : (lives : List (ℕ → ℕ → Bool)) → verdict_on k plan lives outs ≡ verdict_on k other lives outs
  moved lives = ap₂ (λ fs cuts. verdict_of k fs lives cuts outs) (same_flows builder p q one plan other is also) (same_cuts builder p q one plan other is also)

  found_twice : (v w : Finding) → IsFound k plan outs v → IsFound k other outs w → (v ≡ w → ⊥) → ⊥
  found_twice v w h g differ = lives_there (λ lives live. differ (sym (h lives live) ∙ (moved lives ∙ g lives (there lives live))))

  unsound_once : (t n l u m j : ℕ) → IsFound k plan outs (finding.Unsound t n l) → IsFound k other outs (finding.Unsound u m j) → cause.Unsound t n l ≡ cause.Unsound u m j
  unsound_once t n l u m j h g =
      let traces = stable t u (λ differ. found_twice _ _ h g (λ e. differ (trace_same t n l u m j e))) in
      let nodes = stable n m (λ differ. found_twice _ _ h g (λ e. differ (node_same t n l u m j e))) in
      let lines = stable l j (λ differ. found_twice _ _ h g (λ e. differ (line_same t n l u m j e))) in
      λ i. cause.Unsound (traces i) (nodes i) (lines i)

  unsound_or_much : (t n l : ℕ) → IsFound k plan outs (finding.Unsound t n l) → MakesMuchCode k other outs → ⊥
  unsound_or_much t n l h g = found_twice _ finding.Sound h (λ lives live. (g lives live).0) (not_sound t n l)

  much_or_unsound : (t n l : ℕ) → MakesMuchCode k plan outs → IsFound k other outs (finding.Unsound t n l) → ⊥
  much_or_unsound t n l h g = found_twice finding.Sound _ (λ lives live. (h lives live).0) g (λ e. not_sound t n l (sym e))

-- of a plan and an image of results for it
module _ (builder : Builder) (k : ℕ) (p : Program) (plan : ProgramPlan) (is : IsProgramPlan builder p plan) (outs : List TraceOut) (image : Image) (h : IsImageOfResults builder k p outs image) where
  abbrev lists : List (List Trace)
  lists = map (λ v. v.items) plan.cuts.items

  image_cuts : lists ≡ h.cuts
  image_cuts = cut_once builder (flows_of p) lists h.cuts (subst (λ fs. AreCutBy builder fs lists) is.flows is.cut) h.cut

  image_found : IsFound k plan outs finding.Sound
  image_found lives live =
      ap₂ (λ fs cuts. verdict_of k fs lives cuts outs) is.flows image_cuts
      ∙ all_pass k 0 (flows_of p) lives h.cuts outs (subst (λ fs. AreLive fs lives) is.flows live) h.walked

  same_code : cuts_of plan.flows.items lists outs ≡ cuts_of (flows_of p) h.cuts outs
  same_code = ap₂ (λ fs cuts. cuts_of fs cuts outs) is.flows image_cuts

  few_words : IsInForm image → code_length (cuts_of plan.flows.items lists outs) ≤ 262144
  few_words form =
      let cuts = cuts_of (flows_of p) h.cuts outs in
      let long : length image.code ≡ code_length cuts = ap (λ (i : Image). length i.code) h.is ∙ length-map (all_words (all_placed steps_of (all_allocated cuts))) _ in
      let few = form.code in
      let same = ap code_length same_code in
      omega (arith, long, few, same)

module _ (builder : Builder) (k : ℕ) (p q : Program) (one : HaveOneLowering p q) (plan other : ProgramPlan) (is : IsProgramPlan builder p plan) (also : IsProgramPlan builder q other) (outs : List TraceOut) where
  code_same : code_length (cuts_of plan.flows.items (map (λ v. v.items) plan.cuts.items) outs) ≡ code_length (cuts_of other.flows.items (map (λ v. v.items) other.cuts.items) outs)
  code_same = ap₂ (λ fs cuts. code_length (cuts_of fs cuts outs)) (same_flows builder p q one plan other is also) (same_cuts builder p q one plan other is also)

  one_image : (image another : Image) → IsImageOfResults builder k p outs image → IsImageOfResults builder k q outs another → image ≡ another
  one_image image another h g =
      let lists : h.cuts ≡ g.cuts = sym (image_cuts builder k p plan is outs image h) ∙ same_cuts builder p q one plan other is also ∙ image_cuts builder k q other also outs another g in
      h.is ∙ (λ i. linked (cuts_of (flows_once p q one i) (lists i) outs) (one_data p q one i)) ∙ sym g.is

  module _ (next : Image → Verdict → Type 0) (one_next : (image : Image) (a b : Verdict) → next image a → next image b → a ≡ b) where
    pub results_once : (a b : Verdict) → AuditedComeTo builder k next p plan outs a → AuditedComeTo builder k next q other outs b → a ≡ b
    results_once a b (AreUnsound t n l h e) (AreUnsound u m j g f) = e ∙ ap Refuses (unsound_once builder k p q one plan other is also outs t n l u m j h g) ∙ sym f
    results_once a b (AreUnsound t n l h e) (MakeMuchCode g f) = absurd (unsound_or_much builder k p q one plan other is also outs t n l h g)
    results_once a b (AreUnsound t n l h e) (MakeAnImage image g form words f) =
        absurd (found_twice builder k p q one plan other is also outs _ finding.Sound h (image_found builder k q other also outs image g) (not_sound t n l))
    results_once a b (MakeMuchCode h e) (AreUnsound u m j g f) = absurd (much_or_unsound builder k p q one plan other is also outs u m j h g)
    results_once a b (MakeMuchCode h e) (MakeMuchCode g f) = e ∙ sym f
    results_once a b (MakeMuchCode h e) (MakeAnImage image g form words f) =
        let few = few_words builder k q other also outs image g form in
        let same = code_same in
        absurd (lives_there builder k p q one plan other is also outs (λ lives live. let many = (h lives live).1 in omega (arith, few, same, many)))
    results_once a b (MakeAnImage image g form words e) (AreUnsound u m j h f) =
        absurd (found_twice builder k p q one plan other is also outs finding.Sound _ (image_found builder k p plan is outs image g) h (λ s. not_sound u m j (sym s)))
    results_once a b (MakeAnImage image g form words e) (MakeMuchCode h f) =
        let few = few_words builder k p plan is outs image g form in
        let same = code_same in
        absurd (lives_there builder k p q one plan other is also outs (λ lives live. let many = (h lives (there builder k p q one plan other is also outs lives live)).1 in omega (arith, few, same, many)))
    results_once a b (MakeAnImage image g form words e) (MakeAnImage another h form' words' f) =
        one_next another a b (subst (λ (i : Image). next i a) (one_image image another g h) e) f

---- Notes

err_same : (read : Result (List TraceOut) (ℕ × ℕ)) (a b : ℕ × ℕ) → read ≡ Err a → read ≡ Err b → a ≡ b
err_same read a b e f = cc

ok_err : (outs : List TraceOut) (b : ℕ × ℕ) → Ok outs ≡ Err b → ⊥
ok_err outs b e = cc

pub no_rule : (bytes : List ℕ) (outs : List TraceOut) (b : ℕ × ℕ) → AreNotes outs → bytes ≡ notes outs → numbered (notes_in bytes) ≡ Err b → ⊥
no_rule bytes outs b are is e = ok_err outs b (sym (ap (λ xs. numbered (notes_in xs)) is ∙ ap numbered (notes_again outs are)) ∙ e)

notes_once : (bytes : List ℕ) (next other : List TraceOut → Verdict → Type 0) (a b : Verdict) → ((outs : List TraceOut) → next outs a → other outs b → a ≡ b)
    → NotesComeTo bytes next a → NotesComeTo bytes other b → a ≡ b
notes_once bytes next other a b one (AreTooLong long e) (AreTooLong also f) = e ∙ sym f
notes_once bytes next other a b one (AreTooLong long e) (AreNoNotes number at few rule f) = absurd (omega (arith, long, few))
notes_once bytes next other a b one (AreTooLong long e) (HaveResults outs few are is f) = absurd (omega (arith, long, few))
notes_once bytes next other a b one (AreNoNotes number at few rule e) (AreTooLong long f) = absurd (omega (arith, long, few))
notes_once bytes next other a b one (AreNoNotes number at few rule e) (AreNoNotes n t few' rule' f) =
    let same = err_same (numbered (notes_in bytes)) (number, at) (n, t) rule rule' in
    e ∙ ap (λ (x : ℕ × ℕ). Refuses (cause.NotNotes x.0 x.1)) same ∙ sym f
notes_once bytes next other a b one (AreNoNotes number at few rule e) (HaveResults outs few' are is f) = absurd (no_rule bytes outs (number, at) are is rule)
notes_once bytes next other a b one (HaveResults outs few are is e) (AreTooLong long f) = absurd (omega (arith, long, few))
notes_once bytes next other a b one (HaveResults outs few are is e) (AreNoNotes number at few' rule f) = absurd (no_rule bytes outs (number, at) are is rule)
notes_once bytes next other a b one (HaveResults outs few are is e) (HaveResults others few' are' is' f) =
    one outs e (subst (λ xs. other xs b) (sym (one_reading bytes outs others are are' is is')) f)

---- Texts

module _ (one_lowering : (texts : List (List ℕ)) (p q : Program) → IsProgramOfTexts texts p → IsProgramOfTexts texts q → well_formed p ≡ true → well_formed q ≡ true → HaveOneLowering p q)
    (refusal : (builder : Builder) (texts : List (List ℕ)) (r s : Refusal) → IsRefusalOf (TellsOfPlan builder) texts r → IsRefusalOf (TellsOfPlan builder) texts s → ¬ (r ≡ Memory) → ¬ (s ≡ Memory) → r ≡ s)
    (excluded : (builder : Builder) (texts : List (List ℕ)) (plan : ProgramPlan) (r : Refusal) → IsPlanOfTexts builder texts plan → IsRefusalOf (TellsOfPlan builder) texts r → r ≡ Memory) where
  pub plan_once : (of : AuditOf) (bytes : List ℕ) (texts : List (List ℕ)) (a b : Verdict) → PlanComesTo of bytes texts a → PlanComesTo of bytes texts b → a ≡ b
  plan_once of bytes texts a b (HaveNoPlan r) (HaveNoPlan s) =
      r.verdict_is ∙ ap (λ x. Refuses (cause_of_refusal x)) (refusal of.builder texts r.refusal s.refusal r.is s.is r.tells s.tells) ∙ sym s.verdict_is
  plan_once of bytes texts a b (HaveNoPlan r) (HavePlan plan is h) = absurd (r.tells (excluded of.builder texts plan r.refusal is r.is))
  plan_once of bytes texts a b (HavePlan plan is h) (HaveNoPlan r) = absurd (r.tells (excluded of.builder texts plan r.refusal is r.is))
  plan_once of bytes texts a b (HavePlan plan is h) (HavePlan other also k) =
      let one = one_lowering texts is.program also.program is.of_texts also.of_texts is.well_formed also.well_formed in
      notes_once bytes (ResultsComeTo of is.program plan) (ResultsComeTo of also.program other) a b
      (λ outs u v. results_once of.builder of.regs is.program also.program one plan other is.is also.is outs (Accepted of.out) (λ image x y e f. e ∙ sym f) a b u v) h k
