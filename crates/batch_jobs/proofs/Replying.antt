-- The reply to texts.
use Rattle.std.proofs.Common.{◌≡◌, ◌<◌, ℕ, List, [], true, false, inl, inr, ◌⊎◌, refl, ap, ◌∙◌, arith}
use Rattle.run_laws.specs.Runs.{output}
use Rattle.image_form.specs.Form.{IsInForm}
use Rattle.trc_texts.specs.words.alloc_choice.declared.choice.Choice.{Choice}
use Rattle.trc_texts.specs.words.program_image.declared.imaging.Compiled.{Compiled}
use Rattle.trc_texts.specs.words.source_image.Images.{IsImageOfTexts}
use Rattle.trc_answers.specs.Causes.{status_of}
use Rattle.trc_answers.specs.Runs.{cause_of_run, run_of}
use Rattle.trc_answers.specs.Verdict.{Refuses, Runs, RunsAlone, RunsOnInput}
use Rattle.trc_answers.specs.declared.causes.Cause.{Cause}
use Rattle.trc_answers.specs.declared.causes.Cause.TheVariants.{Memory}
use Rattle.trc_texts.specs.words.source_image.Refusals.{IsRefusal}
use Rattle.a64_memory.specs.Memory.{AreBytes}
use Rattle.trc_texts.specs.Texts.{IsRefusedAs, HaveNoImage, HaveImage, cause_of_refusal}
use Rattle.batch_jobs.specs.Jobs.{Reply, IsRunReply, cut_reply}

-- texts that are refused
pub refused_reply : (choice : Choice) (steps : ℕ) (texts : List (List ℕ)) (cause : Cause) (written : List ℕ) (reply : Reply) → IsRefusedAs (IsRefusal choice texts) cause → (cause ≡ Memory → ⊥) → written ≡ []
    → reply ≡ cut_reply (status_of cause) written → IsRunReply choice steps texts reply
refused_reply choice steps texts cause written reply h tells none is = record {
  verdict = Refuses cause;
  comes = HaveNoImage (record { refusal = h.refusal; is = h.is; tells = λ e. tells (h.cause_is ∙ ap cause_of_refusal e); verdict_is = ap Refuses h.cause_is });
  is = is ∙ ap (cut_reply (status_of cause)) none;
}

-- the image of texts was run
pub run_reply : (choice : Choice) (steps : ℕ) (texts : List (List ℕ)) (made : Compiled) (reply : Reply) → IsImageOfTexts choice texts made → IsInForm made.image
    → reply ≡ cut_reply (status_of (cause_of_run made.image.places (run_of made.image [] steps))) (output (run_of made.image [] steps)) → IsRunReply choice steps texts reply
run_reply choice steps texts made reply image form is = by_flag (zero_or_one made.image.flags form.flags) where
  zero_or_one : (flags : ℕ) → flags < 2 → (flags ≡ 0) ⊎ (flags ≡ 1)
  zero_or_one flags few = grind arith

  no_bytes : AreBytes []
  no_bytes i = omega arith

  by_flag : (made.image.flags ≡ 0) ⊎ (made.image.flags ≡ 1) → IsRunReply choice steps texts reply
  by_flag (inl e) = record { verdict = Runs false made.image.places (run_of made.image [] steps); comes = HaveImage made image (RunsAlone e refl); is = is }
  by_flag (inr e) = record { verdict = Runs true made.image.places (run_of made.image [] steps); comes = HaveImage made image (RunsOnInput [] e refl no_bytes (omega arith) refl); is = is }
