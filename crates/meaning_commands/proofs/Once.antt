-- What texts mean is done in one way, and told in one way beside the run of their image.
use Rattle.std.proofs.Common.{◌≡◌, ◌<◌, ◌≤◌, ℕ, zero, suc, List, [], ◌∷◌, map, length, Bool, true, false, Option, Some, option_map, refl, sym, ap, ap₂, ◌∙◌, subst, arith}
use Rattle.std.specs.Prelude.{slice_get}
use Rattle.image_form.specs.declared.image.Image.{Image}
use Rattle.run_laws.specs.Runs.{Outcome, Ended, Trapped, Going, output}
use Rattle.ob_types.specs.Store.{Trap, Kind, Senseless}
use Rattle.ob_types.specs.Meaning.{meaning}
use Rattle.ob_types.specs.WellFormed.{well_formed}
use Rattle.ob_types.specs.declared.program.Procedure.{Procedure}
use Rattle.ob_types.specs.declared.program.Program.{Program}
use Rattle.ssa_lowered.specs.Limits.{Limit}
use Rattle.linked_flows.specs.Allocations.{Cut}
use Rattle.trc_texts.specs.words.alloc_choice.declared.choice.Choice.{Choice}
use Rattle.one_lowering.specs.Forms.{HaveOneLowering, place_of}
use Rattle.trc_texts.proofs.words.text_laws.one_refusal.Passed.{early_once, early_apart, first_once, first_apart}
use Rattle.trc_texts.proofs.words.text_laws.one_refusal.Refused.{excluded, refused_once}
use Rattle.trc_texts.specs.words.program_image.Faults.{Tells, TellsOfTraces}
use Rattle.trc_texts.specs.words.program_image.Images.{IsProgramImage}
use Rattle.trc_texts.specs.words.source_program.Texts.{IsProgramOfTexts, IsSourceFault}
use Rattle.trc_texts.specs.words.source_program.declared.fault.SourceFault.{SourceFault}
use Rattle.trc_texts.specs.words.source_program.declared.fault.SourceFault.TheVariants as source
use Rattle.trc_texts.specs.words.source_image.Refusals.{IsRefusal, IsRefusalOfTraces}
use Rattle.trc_texts.specs.words.source_image.declared.refusal.Refusal.{Refusal}
use Rattle.trc_texts.specs.words.source_image.declared.refusal.Refusal.TheVariants.{Memory}
use Rattle.trc_answers.specs.Runs.{run_of}
use Rattle.trc_answers.specs.Verdict.{Verdict, Refuses, Means, Tells as ToldAs}
use Rattle.trc_answers.specs.declared.causes.Spot.{Spot}
use Rattle.trc_answers.specs.declared.causes.Cause.{Cause}
use Rattle.trc_answers.specs.declared.causes.Cause.TheVariants as cause
use Rattle.trc_texts.specs.Texts.{cause_of_refusal}
use Rattle.meaning_commands.specs.Inputs.{InputComesTo, WantsNone, HasInput, HasTooMuch}
use Rattle.meaning_commands.specs.Programs.{AreProgram, IsWithinLimits, IsImageOfProgram, usual_choice}
use Rattle.meaning_commands.specs.Meanings.{spot_in, cause_of_meaning, IsMeant, MeanComeTo, HaveNoMeaning, HaveMeaning}
use Rattle.meaning_commands.specs.Comparisons.{AreBothTold, BothComeTo, HaveNoneToCompare, HaveBoth, kind_broken, kind_meant, run_summary, summary_lines}

---- Spots

-- the spot of a place
abbrev spot_at : ℕ × ℕ → Spot
spot_at place = record { «module» = place.0; line = place.1 }

spot_of_places : (qs : List Procedure) (f : ℕ)
    → option_map (λ (q : Procedure). let spot : Spot = record { «module» = q.«module»; line = q.line } in spot) (slice_get qs f) ≡ option_map spot_at (slice_get (map place_of qs) f)
spot_of_places [] zero = refl
spot_of_places [] (suc f) = refl
spot_of_places (q ∷ qs) zero = refl
spot_of_places (q ∷ qs) (suc f) = spot_of_places qs f

same_spot : (p q : Program) → HaveOneLowering p q → (f : ℕ) → spot_in p f ≡ spot_in q f
same_spot p q one f = spot_of_places p.procedures f ∙ ap (λ places. option_map spot_at (slice_get places f)) one.places ∙ sym (spot_of_places q.procedures f)

same_cause : (p q : Program) → HaveOneLowering p q → (o : Outcome Trap) → cause_of_meaning p o ≡ cause_of_meaning q o
same_cause p q one (Ended out) = refl
same_cause p q one (Trapped (Kind kind f) out) = ap (λ s. cause.Trapped kind s) (same_spot p q one f)
same_cause p q one (Trapped Senseless out) = refl
same_cause p q one (Going out) = refl

---- Inputs

not_both : (b : Bool) → b ≡ true → b ≡ false → ⊥
not_both b e f = cc

-- on the same input the same is wanted, where what follows is one
pub input_once : (left : List ℕ) (wanted : Bool) (next : List ℕ → Verdict → Type 0) → ((input : List ℕ) (a b : Verdict) → next input a → next input b → a ≡ b)
    → (a b : Verdict) → InputComesTo (Some left) wanted next a → InputComesTo (Some left) wanted next b → a ≡ b
input_once left wanted next one a b (WantsNone w e) (WantsNone v f) = one [] a b e f
input_once left wanted next one a b (WantsNone w e) (HasInput input v is are few f) = absurd (not_both wanted v w)
input_once left wanted next one a b (WantsNone w e) (HasTooMuch input v is many f) = absurd (not_both wanted v w)
input_once left wanted next one a b (HasInput input w is are few e) (WantsNone v f) = absurd (not_both wanted w v)
input_once left wanted next one a b (HasInput input w is are few e) (HasInput other v also are' few' f) = one input a b e (subst (λ i. next i b) (sym also ∙ is) f)
input_once left wanted next one a b (HasInput input w is are few e) (HasTooMuch other v also many f) = let same = ap length (sym is ∙ also) in absurd (omega (arith, few, many, same))
input_once left wanted next one a b (HasTooMuch input w is many e) (WantsNone v f) = absurd (not_both wanted w v)
input_once left wanted next one a b (HasTooMuch input w is many e) (HasInput other v also are few f) = let same = ap length (sym is ∙ also) in absurd (omega (arith, few, many, same))
input_once left wanted next one a b (HasTooMuch input w is many e) (HasTooMuch other v also many' f) = e ∙ sym f

---- Texts

module _ (one_meaning : (texts : List (List ℕ)) (p q : Program) → IsProgramOfTexts texts p → IsProgramOfTexts texts q → well_formed p ≡ true → well_formed q ≡ true
    → (input : List ℕ) (turns : ℕ) → meaning p input turns ≡ meaning q input turns)
    (one_lowering : (texts : List (List ℕ)) (p q : Program) → IsProgramOfTexts texts p → IsProgramOfTexts texts q → well_formed p ≡ true → well_formed q ≡ true → HaveOneLowering p q)
    (one_fault : (texts : List (List ℕ)) (a b : SourceFault) → IsSourceFault texts a → IsSourceFault texts b → ¬ (a ≡ source.Memory) → ¬ (b ≡ source.Memory) → a ≡ b)
    (apart : (texts : List (List ℕ)) (p : Program) (a : SourceFault) → IsProgramOfTexts texts p → IsSourceFault texts a → a ≡ source.Memory) where
  module _ (texts : List (List ℕ)) (p q : Program) (x : AreProgram texts p) (y : AreProgram texts q) where
    one : HaveOneLowering p q
    one = one_lowering texts p q x.of_texts y.of_texts x.well_formed y.well_formed

    same_meaning : (input : List ℕ) (turns : ℕ) → meaning p input turns ≡ meaning q input turns
    same_meaning = one_meaning texts p q x.of_texts y.of_texts x.well_formed y.well_formed

    -- what the one means is what the other means
    meant_as : (turns : ℕ) (input : List ℕ) (v : Verdict) → IsMeant q turns input v → IsMeant p turns input v
    meant_as turns input v f =
        let same = same_meaning input turns in
        f ∙ sym (ap₂ (λ (flag : Bool) (o : Outcome Trap). Means flag (cause_of_meaning p o) (output o)) one.imports same
        ∙ ap (λ c. Means q.imports_in c (output (meaning q input turns))) (same_cause p q one (meaning q input turns)))

    means_once : (left : List ℕ) (turns : ℕ) (a b : Verdict) → InputComesTo (Some left) p.imports_in (IsMeant p turns) a → InputComesTo (Some left) q.imports_in (IsMeant q turns) b → a ≡ b
    means_once left turns a b i j =
        input_once left p.imports_in (IsMeant p turns) (λ input v w e f. e ∙ sym f) a b i (input_as j)
      where
        input_as : InputComesTo (Some left) q.imports_in (IsMeant q turns) b → InputComesTo (Some left) p.imports_in (IsMeant p turns) b
        input_as (WantsNone w f) = WantsNone (one.imports ∙ w) (meant_as turns [] b f)
        input_as (HasInput input w is are few f) = HasInput input (one.imports ∙ w) is are few (meant_as turns input b f)
        input_as (HasTooMuch input w is many f) = HasTooMuch input (one.imports ∙ w) is many f

    -- and so it is told beside the run of one image
    told_as : (image : Image) (steps turns : ℕ) (input : List ℕ) (v : Verdict) → AreBothTold q image steps turns input v → AreBothTold p image steps turns input v
    told_as image steps turns input v f =
        f ∙ sym (ap₂ (λ (flag : Bool) (o : Outcome Trap). ToldAs flag (summary_lines (run_summary kind_meant o) (run_summary kind_broken (run_of image input steps)))) one.imports (same_meaning input turns))

    told_once : (image : Image) (left : List ℕ) (steps turns : ℕ) (a b : Verdict) → InputComesTo (Some left) p.imports_in (AreBothTold p image steps turns) a
        → InputComesTo (Some left) q.imports_in (AreBothTold q image steps turns) b → a ≡ b
    told_once image left steps turns a b i j =
        input_once left p.imports_in (AreBothTold p image steps turns) (λ input v w e f. e ∙ sym f) a b i (input_as j)
      where
        input_as : InputComesTo (Some left) q.imports_in (AreBothTold q image steps turns) b → InputComesTo (Some left) p.imports_in (AreBothTold p image steps turns) b
        input_as (WantsNone w f) = WantsNone (one.imports ∙ w) (told_as image steps turns [] b f)
        input_as (HasInput input w is are few f) = HasInput input (one.imports ∙ w) is are few (told_as image steps turns input b f)
        input_as (HasTooMuch input w is many f) = HasTooMuch input (one.imports ∙ w) is many f

  ---- `mean`

  no_refusal : (texts : List (List ℕ)) (p : Program) (r : Refusal) → AreProgram texts p → IsWithinLimits usual_choice p → IsRefusalOfTraces usual_choice texts r → r ≡ Memory
  no_refusal texts p r x within is =
      excluded one_fault apart one_lowering (TellsOfTraces usual_choice) texts p x.of_texts x.well_formed
      (λ q one n i h. early_apart usual_choice usual_choice refl p q one (record { number = n; index = i }) within.within within.few h) r is

  one_refusal : (texts : List (List ℕ)) (r s : Refusal) → IsRefusalOfTraces usual_choice texts r → IsRefusalOfTraces usual_choice texts s → ¬ (r ≡ Memory) → ¬ (s ≡ Memory) → r ≡ s
  one_refusal texts r s =
      refused_once one_fault apart one_lowering (TellsOfTraces usual_choice) (TellsOfTraces usual_choice)
      (λ p q one n i m j x y. let same = early_once usual_choice usual_choice refl p q one (record { number = n; index = i }) (record { number = m; index = j }) x y in (ap (λ (l : Limit). l.number) same, ap (λ (l : Limit). l.index) same)) texts r s

  pub mean_once : (left : List ℕ) (turns : ℕ) (texts : List (List ℕ)) (a b : Verdict) → MeanComeTo (Some left) turns texts a → MeanComeTo (Some left) turns texts b → a ≡ b
  mean_once left turns texts a b (HaveNoMeaning r) (HaveNoMeaning s) =
      r.verdict_is ∙ (ap (λ x. Refuses (cause_of_refusal x)) (one_refusal texts r.refusal s.refusal r.is s.is r.tells s.tells) ∙ sym s.verdict_is)
  mean_once left turns texts a b (HaveNoMeaning r) (HaveMeaning q y within j) = absurd (r.tells (no_refusal texts q r.refusal y within r.is))
  mean_once left turns texts a b (HaveMeaning p x within i) (HaveNoMeaning s) = absurd (s.tells (no_refusal texts p s.refusal x within s.is))
  mean_once left turns texts a b (HaveMeaning p x within i) (HaveMeaning q y within' j) = means_once texts p q x y left turns a b i j

  ---- `both`

  module _ (one_image : (a b : Choice) (p q : Program) (cuts others : List Cut) (image another : Image) → a.policy ≡ b.policy → a.builder ≡ b.builder → a.regs ≡ b.regs
      → HaveOneLowering p q → IsProgramImage a p cuts image → IsProgramImage b q others another → (cuts ≡ others) × (image ≡ another)) where
    no_refusal_of_image : (choice : Choice) (texts : List (List ℕ)) (p : Program) (image : Image) (r : Refusal) → AreProgram texts p → IsImageOfProgram choice p image → IsRefusal choice texts r → r ≡ Memory
    no_refusal_of_image choice texts p image r x made is =
        excluded one_fault apart one_lowering (Tells choice) texts p x.of_texts x.well_formed
        (λ q one n i h. first_apart choice choice refl p q one (λ cuts others image another k l. (one_image choice choice p q cuts others image another refl refl refl one k l).0)
        made.cuts image (record { number = n; index = i }) made.limits.within made.is made.form h) r is

    one_refusal_of_images : (choice : Choice) (texts : List (List ℕ)) (r s : Refusal) → IsRefusal choice texts r → IsRefusal choice texts s → ¬ (r ≡ Memory) → ¬ (s ≡ Memory) → r ≡ s
    one_refusal_of_images choice texts r s =
        refused_once one_fault apart one_lowering (Tells choice) (Tells choice)
        (λ p q one n i m j x y. let same = first_once choice choice refl p q one (record { number = n; index = i }) (record { number = m; index = j }) x y in (ap (λ (l : Limit). l.number) same, ap (λ (l : Limit). l.index) same)) texts r s

    pub both_once : (left : List ℕ) (choice : Choice) (steps turns : ℕ) (texts : List (List ℕ)) (a b : Verdict)
        → BothComeTo (Some left) choice steps turns texts a → BothComeTo (Some left) choice steps turns texts b → a ≡ b
    both_once left choice steps turns texts a b (HaveNoneToCompare r) (HaveNoneToCompare s) =
        r.verdict_is ∙ (ap (λ x. Refuses (cause_of_refusal x)) (one_refusal_of_images choice texts r.refusal s.refusal r.is s.is r.tells s.tells) ∙ sym s.verdict_is)
    both_once left choice steps turns texts a b (HaveNoneToCompare r) (HaveBoth q image y made j) = absurd (r.tells (no_refusal_of_image choice texts q image r.refusal y made r.is))
    both_once left choice steps turns texts a b (HaveBoth p image x made i) (HaveNoneToCompare s) = absurd (s.tells (no_refusal_of_image choice texts p image s.refusal x made s.is))
    both_once left choice steps turns texts a b (HaveBoth p image x made i) (HaveBoth q another y other j) =
        let same = (one_image choice choice p q made.cuts other.cuts image another refl refl refl (one texts p q x y) made.is other.is).1 in
        told_once texts p q x y image left steps turns a b i (subst (λ (z : Image). InputComesTo (Some left) q.imports_in (AreBothTold q z steps turns) b) (sym same) j)
