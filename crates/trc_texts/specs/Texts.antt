-- What texts come to that a command compiles.
use Rattle.std.specs.Prelude.{◌≡◌, ◌<◌, ℕ, List, length}
use Rattle.image_words.specs.alloc_choice.declared.choice.Choice.{Choice}
use Rattle.image_words.specs.program_image.declared.imaging.Compiled.{Compiled}
use Rattle.image_words.specs.source_image.Images.{IsImageOfTexts, AreTracesOfTexts}
use Rattle.image_words.specs.source_image.Refusals.{IsRefusal, IsRefusalOfTraces}
use Rattle.image_words.specs.source_image.declared.refusal.Refusal.{Refusal}
use Rattle.image_words.specs.source_image.declared.refusal.Refusal.TheVariants.{TooLong, Source, Limit, Memory}
use Rattle.trc_answers.specs.declared.causes.Cause.{Cause}
use Rattle.trc_answers.specs.declared.causes.Cause.TheVariants as cause
use Rattle.trc_answers.specs.Verdict.{Verdict, Refuses, Prints}
pub use Rattle.trc_answers.specs.Reading.{IsTextHeld, IsTextIn}

-- why texts have no image, as a cause
abbrev pub cause_of_refusal : Refusal → Cause
cause_of_refusal (TooLong m) = cause.Limit 55 m
cause_of_refusal (Source m number at) = cause.Source number m at
cause_of_refusal (Limit number index) = cause.Limit number index
cause_of_refusal Memory = cause.Memory

-- the module that a refusal names is one of these texts
abbrev pub NamesText : List (List ℕ) → Refusal → Type 0
NamesText texts (TooLong m) = m < length texts
NamesText texts (Source m number at) = m < length texts
NamesText texts refusal = Unit {0}

-- texts are refused for this cause, want of memory among them, as this says why they are
pub record IsRefusedAs (IsWhy : Refusal → Type 0) (cause : Cause) : Type 0 where
  pub refusal : Refusal
  pub is : IsWhy refusal
  pub cause_is : cause ≡ cause_of_refusal refusal

-- texts break a rule, or their program passes a limit
pub record AreRefused (IsWhy : Refusal → Type 0) (verdict : Verdict) : Type 0 where
  pub refusal : Refusal
  pub is : IsWhy refusal
  pub tells : refusal ≡ Memory → ⊥
  pub verdict_is : verdict ≡ Refuses (cause_of_refusal refusal)

-- texts are refused, or their image comes to something
pub data TextsComeTo (choice : Choice) (next : Compiled → Verdict → Type 0) (texts : List (List ℕ)) (verdict : Verdict) : Type 0 where
  HaveNoImage : AreRefused (IsRefusal choice texts) verdict → TextsComeTo choice next texts verdict
  HaveImage : (made : Compiled) → IsImageOfTexts choice texts made → next made verdict → TextsComeTo choice next texts verdict

-- texts are refused, but never for their code, or their traces are told
pub data TracesComeTo (choice : Choice) (texts : List (List ℕ)) (verdict : Verdict) : Type 0 where
  HaveNoTraces : AreRefused (IsRefusalOfTraces choice texts) verdict → TracesComeTo choice texts verdict
  HaveTraces : (lines : List ℕ) → AreTracesOfTexts choice texts lines → verdict ≡ Prints lines → TracesComeTo choice texts verdict
