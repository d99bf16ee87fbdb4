-- What refused texts are for a command, and where their faults stand.
use Rattle.std.proofs.Common.{◌≡◌, ℕ, List, Option, refl, ap}
use Rattle.outside.specs.Files.{Held}
use Rattle.outside.specs.Sink.{Account}
use Rattle.image_words.specs.source_image.declared.refusal.Refusal.{Refusal}
use Rattle.image_words.specs.source_image.declared.refusal.Refusal.TheVariants.{TooLong, Source, Limit, Memory}
use Rattle.trc_answers.specs.declared.places.Position.{Position}
use Rattle.trc_answers.specs.declared.causes.Cause.{Cause}
use Rattle.trc_answers.specs.Causes.{IsPlaced}
use Rattle.trc_answers.specs.Verdict.{Verdict, Refuses}
use Rattle.trc_answers.specs.Reading.{AreTextsOf}
use Rattle.trc_answers.specs.Answers.{devices, Answers}
use Rattle.trc_answers.proofs.Answering.{refuses, lacks}
use Rattle.trc_answers.proofs.Texts.{text_at, placed_as}
use Rattle.trc_texts.specs.Texts.{cause_of_refusal, IsRefusedAs, AreRefused, IsTextIn, IsTextHeld}

-- a command that comes to what refused texts come to
module _ (IsWhy : Refusal → Type 0) (comes : Option (List ℕ) → Verdict → Type 0) (of_refused : (left : Option (List ℕ)) (v : Verdict) → AreRefused IsWhy v → comes left v) where
  refused_as : (refusal : Refusal) → IsWhy refusal → (refusal ≡ Memory → ⊥) → (cause : Cause) → cause ≡ cause_of_refusal refusal
      → (held : Option Held) (m : ℕ) (left : Option (List ℕ)) (k : ℕ) (out : Account) → Answers comes (devices held m left k out) (devices held m left k out) cause
  refused_as refusal is tells cause e held m left k out =
      refuses comes held held m m left k out cause refl
      (of_refused left (Refuses cause) (record { refusal = refusal; is = is; tells = tells; verdict_is = ap Refuses e }))

  refused_for : (refusal : Refusal) → IsWhy refusal → (cause : Cause) → cause ≡ cause_of_refusal refusal
      → (held : Option Held) (m : ℕ) (left : Option (List ℕ)) (k : ℕ) (out : Account) → Answers comes (devices held m left k out) (devices held m left k out) cause
  refused_for (TooLong n) is cause e held m left k out = refused_as (TooLong n) is (λ x. let z : TooLong n ≡ Memory = x in cc) cause e held m left k out
  refused_for (Source n number at) is cause e held m left k out = refused_as (Source n number at) is (λ x. let z : Source n number at ≡ Memory = x in cc) cause e held m left k out
  refused_for (Limit number index) is cause e held m left k out = refused_as (Limit number index) is (λ x. let z : Limit number index ≡ Memory = x in cc) cause e held m left k out
  refused_for Memory is cause e held m left k out = lacks comes held held m m left k out cause e refl

  pub refused : (cause : Cause) → IsRefusedAs IsWhy cause → (held : Option Held) (m : ℕ) (left : Option (List ℕ)) (k : ℕ) (out : Account)
      → Answers comes (devices held m left k out) (devices held m left k out) cause
  refused cause h = refused_for h.refusal h.is cause h.cause_is

-- the place of a fault in texts is one in the texts that are held
pub placed_held : (held : Option Held) (names texts : List (List ℕ)) (cause : Cause) (place : Position) → AreTextsOf held names texts
    → IsPlaced (IsTextIn texts) cause place → IsPlaced (IsTextHeld held names) cause place
placed_held held names texts cause place are h = placed_as (IsTextIn texts) (IsTextHeld held names) cause place (λ m text is. text_at held names texts m text are.read is) h
