-- Texts come to one thing, by the laws of texts.
use Rattle.std.proofs.Common.{◌≡◌, ℕ, List, [], length, Option, Some, refl, sym, ap, ◌∙◌, subst}
use Rattle.outside.specs.Files.{Held}
use Rattle.image_form.specs.declared.image.Image.{Image}
use Rattle.run_laws.specs.Runs.{Outcome, Ended, Trapped, Going}
use Rattle.a64_machine.specs.State.{Trap}
use Rattle.object_commands.specs.words.alloc_choice.declared.choice.Choice.{Choice}
use Rattle.object_commands.specs.words.alloc_choice.declared.choice.Policy.{Policy}
use Rattle.object_commands.specs.words.program_image.declared.imaging.Compiled.{Compiled}
use Rattle.object_commands.specs.words.source_image.Images.{IsImageOfTexts, AreTracesOfTexts}
use Rattle.object_commands.specs.words.source_image.Refusals.{IsRefusal, IsRefusalOf, IsRefusalOfTraces}
use Rattle.object_commands.specs.noted_image.Faults.{TellsWithNotes}
use Rattle.object_commands.specs.noted_image.Notes.{IsNotedImageOfTexts}
use Rattle.object_commands.specs.noted_image.declared.noting.NotedImage.{NotedImage}
use Rattle.object_commands.specs.note_commands.Noted.{NotedComeTo, HaveNoNotes, HaveNotes}
use Rattle.object_commands.specs.note_commands.Audits.{AuditOf, PlanComesTo}
use Rattle.object_commands.specs.Objects.{ObjectComesTo}
use Rattle.object_commands.specs.Links.{LinkComesTo}
use Rattle.object_commands.specs.words.source_image.declared.refusal.Refusal.{Refusal}
use Rattle.object_commands.specs.words.source_image.declared.refusal.Refusal.TheVariants.{Memory}
use Rattle.trc_answers.specs.Runs.{run_of, cause_of_run}
use Rattle.trc_answers.specs.Verdict.{Verdict, Refuses, Prints}
use Rattle.explanations.specs.declared.format.Format.{Format}
use Rattle.module_check.specs.Checks.{CheckComesTo}
use Rattle.compare_commands.specs.meaning_commands.Meanings.{MeanComeTo}
use Rattle.compare_commands.specs.meaning_commands.Comparisons.{BothComeTo}
use Rattle.compare_commands.specs.Compares.{ComparesComeTo}
use Rattle.show_commands.specs.Shows.{ShowComesTo}
use Rattle.trc_cli.specs.declared.bulk.Counts.{Counts}
use Rattle.trc_cli.specs.Commands.{cause_of_refusal, TextsComeTo, HaveNoImage, HaveImage, TracesComeTo, HaveNoTraces, HaveTraces, counts_of, summary_of, told_of_run}
use Rattle.trc_cli.specs.Laws.{Alike}
use Rattle.trc_cli.proofs.Same.{two}

-- what the laws say
pub record Laws : Type 0 where
  pub image : (a b : Choice) (texts : List (List ℕ)) (made other : Compiled) → a.policy ≡ b.policy → a.builder ≡ b.builder → a.regs ≡ b.regs
      → IsImageOfTexts a texts made → IsImageOfTexts b texts other → (made.image ≡ other.image) × (made.procedures ≡ other.procedures) × (made.traces ≡ other.traces)
  pub refusal : (a b : Choice) (texts : List (List ℕ)) (r s : Refusal) → a.policy ≡ b.policy → a.builder ≡ b.builder → a.regs ≡ b.regs
      → IsRefusal a texts r → IsRefusal b texts s → ¬ (r ≡ Memory) → ¬ (s ≡ Memory) → r ≡ s
  pub of_traces : (a b : Choice) (texts : List (List ℕ)) (r s : Refusal) → a.builder ≡ b.builder
      → IsRefusalOfTraces a texts r → IsRefusalOfTraces b texts s → ¬ (r ≡ Memory) → ¬ (s ≡ Memory) → r ≡ s
  pub excluded : (a b : Choice) (texts : List (List ℕ)) (made : Compiled) (r : Refusal) → a.policy ≡ b.policy → a.builder ≡ b.builder → a.regs ≡ b.regs
      → IsImageOfTexts a texts made → IsRefusal b texts r → r ≡ Memory
  pub traces_excluded : (a b : Choice) (texts : List (List ℕ)) (lines : List ℕ) (r : Refusal) → a.builder ≡ b.builder
      → AreTracesOfTexts a texts lines → IsRefusalOfTraces b texts r → r ≡ Memory
  pub report : (a b : Choice) (texts : List (List ℕ)) (lines others : List ℕ) → a.policy ≡ b.policy → a.builder ≡ b.builder
      → AreTracesOfTexts a texts lines → AreTracesOfTexts b texts others → lines ≡ others
  pub noted_image : (a b : Choice) (texts : List (List ℕ)) (made other : NotedImage) → a.policy ≡ b.policy → a.builder ≡ b.builder → a.regs ≡ b.regs
      → IsNotedImageOfTexts a texts made → IsNotedImageOfTexts b texts other → (made.image ≡ other.image) × (made.notes.items ≡ other.notes.items)
  pub noted_refusal : (a b : Choice) (texts : List (List ℕ)) (r s : Refusal) → a.policy ≡ b.policy → a.builder ≡ b.builder → a.regs ≡ b.regs
      → IsRefusalOf (TellsWithNotes a) texts r → IsRefusalOf (TellsWithNotes b) texts s → ¬ (r ≡ Memory) → ¬ (s ≡ Memory) → r ≡ s
  pub noted_excluded : (a b : Choice) (texts : List (List ℕ)) (made : NotedImage) (r : Refusal) → a.policy ≡ b.policy → a.builder ≡ b.builder → a.regs ≡ b.regs
      → IsNotedImageOfTexts a texts made → IsRefusalOf (TellsWithNotes b) texts r → r ≡ Memory
  pub check : (format : Format) (names texts : List (List ℕ)) (a b : Verdict) → CheckComesTo format names texts a → CheckComesTo format names texts b → a ≡ b
  pub meaning : (left : List ℕ) (turns : ℕ) (texts : List (List ℕ)) (a b : Verdict) → MeanComeTo (Some left) turns texts a → MeanComeTo (Some left) turns texts b → a ≡ b
  pub comparison : (left : List ℕ) (choice : Choice) (steps turns : ℕ) (texts : List (List ℕ)) (a b : Verdict)
      → BothComeTo (Some left) choice steps turns texts a → BothComeTo (Some left) choice steps turns texts b → a ≡ b
  pub compare : (left : List ℕ) (jobs steps : ℕ) (texts : List (List ℕ)) (a b : Verdict)
      → ComparesComeTo (Some left) jobs steps texts a → ComparesComeTo (Some left) jobs steps texts b → a ≡ b
  pub show : (choice : Choice) (against : Option Policy) (out : List ℕ) (names texts : List (List ℕ)) (a b : Verdict)
      → ShowComesTo choice against out names texts a → ShowComesTo choice against out names texts b → a ≡ b
  pub object : (choice : Choice) (out : List ℕ) (texts : List (List ℕ)) (a b : Verdict) → ObjectComesTo choice out texts a → ObjectComesTo choice out texts b → a ≡ b
  pub link : (held : Held) (out : List ℕ) (names : List (List ℕ)) (a b : Verdict) → LinkComesTo (Some held) out names a → LinkComesTo (Some held) out names b → a ≡ b
  pub audit : (of : AuditOf) (bytes : List ℕ) (texts : List (List ℕ)) (a b : Verdict) → PlanComesTo of bytes texts a → PlanComesTo of bytes texts b → a ≡ b

module _ (laws : Laws) where
  -- by the image and the notes that texts have
  pub noted_once : (choice : Choice) (texts : List (List ℕ)) (next : Image → List ℕ → Verdict → Type 0) (v w : Verdict) → ((image : Image) (notes : List ℕ) → next image notes v → next image notes w → Alike v w)
      → NotedComeTo choice (λ made. next made.image made.notes.items) texts v → NotedComeTo choice (λ made. next made.image made.notes.items) texts w → Alike v w
  noted_once choice texts next v w f (HaveNotes made is h) (HaveNotes other also k) =
      let same = laws.noted_image choice choice texts made other refl refl refl is also in
      f other.image other.notes.items (subst (λ i. next i other.notes.items v) same.0 (subst (λ notes. next made.image notes v) same.1 h)) k
  noted_once choice texts next v w f (HaveNotes made is h) (HaveNoNotes r) = absurd (r.tells (laws.noted_excluded choice choice texts made r.refusal refl refl refl is r.is))
  noted_once choice texts next v w f (HaveNoNotes r) (HaveNotes other also k) = absurd (r.tells (laws.noted_excluded choice choice texts other r.refusal refl refl refl also r.is))
  noted_once choice texts next v w f (HaveNoNotes r) (HaveNoNotes s) =
      two v w _ _ (ap (λ k. Refuses (cause_of_refusal k)) (laws.noted_refusal choice choice texts r.refusal s.refusal refl refl refl r.is s.is r.tells s.tells)) r.verdict_is s.verdict_is

  module _ (a b : Choice) (policy : a.policy ≡ b.policy) (builder : a.builder ≡ b.builder) (regs : a.regs ≡ b.regs) (texts : List (List ℕ)) (next other_next : Compiled → Verdict → Type 0) (v w : Verdict) where
    pub texts_once : ((made other : Compiled) → IsImageOfTexts a texts made → IsImageOfTexts b texts other → next made v → other_next other w → Alike v w)
        → TextsComeTo a next texts v → TextsComeTo b other_next texts w → Alike v w
    texts_once f (HaveImage made is h) (HaveImage other also k) = f made other is also h k
    texts_once f (HaveImage made is h) (HaveNoImage r) = absurd (r.tells (laws.excluded a b texts made r.refusal policy builder regs is r.is))
    texts_once f (HaveNoImage r) (HaveImage other also k) = absurd (r.tells (laws.excluded b a texts other r.refusal (sym policy) (sym builder) (sym regs) also r.is))
    texts_once f (HaveNoImage r) (HaveNoImage s) = two v w _ _ (ap (λ k. Refuses (cause_of_refusal k)) (laws.refusal a b texts r.refusal s.refusal policy builder regs r.is s.is r.tells s.tells)) r.verdict_is s.verdict_is

  pub traces_once : (choice : Choice) (texts : List (List ℕ)) (v w : Verdict) → TracesComeTo choice texts v → TracesComeTo choice texts w → Alike v w
  traces_once choice texts v w (HaveTraces lines are e) (HaveTraces others also f) = two v w _ _ (ap Prints (laws.report choice choice texts lines others refl refl are also)) e f
  traces_once choice texts v w (HaveTraces lines are e) (HaveNoTraces r) = absurd (r.tells (laws.traces_excluded choice choice texts lines r.refusal refl are r.is))
  traces_once choice texts v w (HaveNoTraces r) (HaveTraces others also f) = absurd (r.tells (laws.traces_excluded choice choice texts others r.refusal refl also r.is))
  traces_once choice texts v w (HaveNoTraces r) (HaveNoTraces s) = two v w _ _ (ap (λ k. Refuses (cause_of_refusal k)) (laws.of_traces choice choice texts r.refusal s.refusal refl r.is s.is r.tells s.tells)) r.verdict_is s.verdict_is

told_as : (made other : Compiled) (outcome : Outcome Trap) → counts_of made ≡ counts_of other → made.image.places ≡ other.image.places → told_of_run made outcome ≡ told_of_run other outcome
told_as made other (Ended written) e same = ap (λ (n : Counts). Prints (summary_of n written)) e
told_as made other (Trapped trap written) e same = ap (λ ps. Refuses (cause_of_run ps (Trapped trap written))) same
told_as made other (Going written) e same = refl

-- what is told of a run depends on the image and its counts alone
pub told_same : (steps : ℕ) (made other : Compiled) → (made.image ≡ other.image) × (made.procedures ≡ other.procedures) × (made.traces ≡ other.traces) → told_of_run made (run_of made.image [] steps) ≡ told_of_run other (run_of other.image [] steps)
told_same steps made other h =
    ap (λ (i : Image). told_of_run made (run_of i [] steps)) h.0
    ∙ told_as made other (run_of other.image [] steps) (λ k. record { procedures = h.1 k; traces = h.2 k; words = length (h.0 k).code }) (ap (λ (i : Image). i.places) h.0)
