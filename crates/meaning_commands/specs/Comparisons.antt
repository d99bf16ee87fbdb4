-- How what a program means ends, beside the run of its image.
use Rattle.std.specs.Prelude.{◌≡◌, ℕ, List, [], ◌∷◌, ◌++◌, codes, length, decimal, Option}
use Rattle.outside.specs.Counts.{raised}
use Rattle.outside.specs.Sink.{Account, TookNothing}
use Rattle.run_laws.specs.Runs.{Outcome, Ended, Trapped, Going, output}
use Rattle.image_form.specs.declared.image.Image.{Image}
use Rattle.a64_machine.specs.State as machine
use Rattle.ob_types.specs.Store as meant
use Rattle.ob_types.specs.Meaning.{meaning}
use Rattle.ob_types.specs.declared.program.Program.{Program}
use Rattle.trc_texts.specs.words.alloc_choice.declared.choice.Choice.{Choice}
use Rattle.trc_texts.specs.words.source_image.Refusals.{IsRefusal}
use Rattle.trc_answers.specs.declared.causes.Cause.{Cause}
use Rattle.trc_answers.specs.declared.causes.Cause.TheVariants.{Memory}
use Rattle.trc_answers.specs.Runs.{run_of}
use Rattle.trc_answers.specs.Verdict.{Verdict, Tells}
use Rattle.trc_answers.specs.Answers.{PrintAnswers}
use Rattle.trc_texts.specs.Texts.{AreRefused}
use Rattle.meaning_commands.specs.declared.comparing.RunEnd.{RunEnd}
use Rattle.meaning_commands.specs.declared.comparing.RunEnd.TheVariants as end
use Rattle.meaning_commands.specs.declared.comparing.RunSummary.{RunSummary}
use Rattle.meaning_commands.specs.Inputs.{InputComesTo}
use Rattle.meaning_commands.specs.Programs.{AreProgram, IsImageOfProgram}

---- Ends

-- the kind of a trap: of what a program means, and of what stops a machine; a well-formed program comes to none without one, and the
-- machine that runs its image to no fault
abbrev pub kind_meant : meant.Trap → ℕ
kind_meant (meant.Kind kind f) = kind
kind_meant meant.Senseless = 0

abbrev pub kind_broken : machine.Trap → ℕ
kind_broken (machine.Broke kind word) = kind
kind_broken other = 0

-- how an outcome ends
abbrev pub end_of : {T : Type 0} → (T → ℕ) → Outcome T → RunEnd
end_of kind (Ended out) = end.Ended
end_of kind (Trapped trap out) = end.Trapped (kind trap)
end_of kind (Going out) = end.Going

-- with how many bytes written, up to the greatest count
abbrev pub run_summary : {T : Type 0} → (T → ℕ) → Outcome T → RunSummary
run_summary kind outcome = record { end = end_of kind outcome; bytes = raised 0 (length (output outcome)) }

---- Lines

abbrev pub end_words : RunEnd → List ℕ
end_words end.Ended = codes "ended"
end_words (end.Trapped kind) = codes "trapped " ++ decimal kind
end_words end.Going = codes "going"

-- a name, how it ended, and with how many bytes
abbrev pub summary_line : List ℕ → RunSummary → List ℕ
summary_line name summary = name ++ (codes " " ++ (end_words summary.end ++ (codes " " ++ (decimal summary.bytes ++ 10 ∷ []))))

abbrev pub summary_lines : (meant ran : RunSummary) → List ℕ
summary_lines meant ran = summary_line (codes "meaning") meant ++ summary_line (codes "machine") ran

-- the ends of what a program means on an input with so many turns, and of the run of an image on it with so many steps
abbrev pub both_lines : Program → Image → (steps turns : ℕ) → (input : List ℕ) → List ℕ
both_lines p image steps turns input = summary_lines (run_summary kind_meant (meaning p input turns)) (run_summary kind_broken (run_of image input steps))

---- The command

-- they are told
abbrev pub AreBothTold : Program → Image → (steps turns : ℕ) → (input : List ℕ) → Verdict → Type 0
AreBothTold p image steps turns input verdict = verdict ≡ Tells p.imports_in (both_lines p image steps turns input)

-- on the input where some module imports In
abbrev pub ComparisonComesTo : Option (List ℕ) → (steps turns : ℕ) → Program → Image → Verdict → Type 0
ComparisonComesTo left steps turns p image = InputComesTo left p.imports_in (AreBothTold p image steps turns)

-- texts are refused as for their image, or are a program, which is compared with its image
pub data BothComeTo (left : Option (List ℕ)) (choice : Choice) (steps turns : ℕ) (texts : List (List ℕ)) (verdict : Verdict) : Type 0 where
  HaveNoneToCompare : AreRefused (IsRefusal choice texts) verdict → BothComeTo left choice steps turns texts verdict
  HaveBoth : (p : Program) (image : Image) → AreProgram texts p → IsImageOfProgram choice p image → ComparisonComesTo left steps turns p image verdict
      → BothComeTo left choice steps turns texts verdict

-- the answer of a command that only tells these lines, for which there may be no memory
pub data TellAnswers (lines : List ℕ) (old new : Account) (cause : Cause) : Type 0 where
  WereTold : PrintAnswers lines old new cause → TellAnswers lines old new cause
  HadNoRoom : cause ≡ Memory → TookNothing old new → TellAnswers lines old new cause
