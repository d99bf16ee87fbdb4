-- What the texts of modules mean on an input, as a command does it.
use Rattle.std.specs.Prelude.{◌≡◌, ℕ, List, Option, option_map, slice_get}
use Rattle.outside.specs.Sink.{Account, TookAll, TookFront, Faulted}
use Rattle.run_laws.specs.Runs.{Outcome, Ended, Trapped, Going, output}
use Rattle.ob_types.specs.Store.{Trap, Kind, Senseless}
use Rattle.ob_types.specs.Meaning.{meaning}
use Rattle.ob_types.specs.declared.program.Procedure.{Procedure}
use Rattle.ob_types.specs.declared.program.Program.{Program}
use Rattle.trc_texts.specs.words.source_image.Refusals.{IsRefusalOfTraces}
use Rattle.trc_answers.specs.declared.causes.Device.TheVariants.{Output}
use Rattle.trc_answers.specs.declared.causes.Spot.{Spot}
use Rattle.trc_answers.specs.declared.causes.Cause.{Cause}
use Rattle.trc_answers.specs.declared.causes.Cause.TheVariants as cause
use Rattle.trc_answers.specs.Verdict.{Verdict, Means}
use Rattle.trc_texts.specs.Texts.{AreRefused}
use Rattle.meaning_commands.specs.Inputs.{InputComesTo}
use Rattle.meaning_commands.specs.Programs.{AreProgram, IsWithinLimits, usual_choice}

-- where the text of the procedure of this number begins
abbrev pub spot_in : Program → ℕ → Option Spot
spot_in p f = option_map (λ (q : Procedure). let spot : Spot = record { «module» = q.«module»; line = q.line } in spot) (slice_get p.procedures f)

-- the cause of how a meaning ends, or is cut off; a well-formed program comes to no trap without sense
abbrev pub cause_of_meaning : Program → Outcome Trap → Cause
cause_of_meaning p (Ended out) = cause.Done
cause_of_meaning p (Trapped (Kind kind f) out) = cause.Trapped kind (spot_in p f)
cause_of_meaning p (Trapped Senseless out) = cause.Memory
cause_of_meaning p (Going out) = cause.TurnsSpent

-- a program is done as it means, on an input with so many turns
abbrev pub IsMeant : Program → (turns : ℕ) → (input : List ℕ) → Verdict → Type 0
IsMeant p turns input verdict = verdict ≡ Means p.imports_in (cause_of_meaning p (meaning p input turns)) (output (meaning p input turns))

-- on the input where some module imports In
abbrev pub MeaningComesTo : Option (List ℕ) → (turns : ℕ) → Program → Verdict → Type 0
MeaningComesTo left turns p = InputComesTo left p.imports_in (IsMeant p turns)

-- texts are refused as for their traces, or are a program, which is done
pub data MeanComeTo (left : Option (List ℕ)) (turns : ℕ) (texts : List (List ℕ)) (verdict : Verdict) : Type 0 where
  HaveNoMeaning : AreRefused (IsRefusalOfTraces usual_choice texts) verdict → MeanComeTo left turns texts verdict
  HaveMeaning : (p : Program) → AreProgram texts p → IsWithinLimits usual_choice p → MeaningComesTo left turns p verdict → MeanComeTo left turns texts verdict

-- the answer of what is done as it means, which ends for this cause with this written, between two accounts of the output; what was
-- written before memory ran out is a front of that
pub data MeanAnswers (ended : Cause) (written : List ℕ) (old new : Account) (answer : Cause) : Type 0 where
  WasDone : answer ≡ ended → TookAll old new written → MeanAnswers ended written old new answer
  RanIntoFault : answer ≡ cause.WriteFault Output → TookFront old new written → Faulted old new → MeanAnswers ended written old new answer
  RanOutOfMemory : answer ≡ cause.Memory → TookFront old new written → MeanAnswers ended written old new answer
