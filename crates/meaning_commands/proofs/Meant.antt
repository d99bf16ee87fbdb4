-- What an executed meaning is for a command.
use Rattle.std.proofs.Common.{◌≡◌, ℕ, List, Bool, Option, Some, refl, sym, ap, ◌∙◌, subst}
use Rattle.std.specs.Prelude.{slice_get}
use Rattle.outside.specs.Files.{Held}
use Rattle.outside.specs.Sink.{Account, TookAll, TookFront, Faulted}
use Rattle.run_laws.specs.Runs.{Outcome, Ended, Trapped, Going, output}
use Rattle.ob_types.specs.Store.{Trap, Kind}
use Rattle.ob_types.specs.Meaning.{meaning}
use Rattle.ob_types.specs.declared.program.Program.{Program}
use Rattle.image_form.specs.declared.image.Image.{Image}
use Rattle.trc_answers.specs.Verdict.{Verdict, Means, Tells}
use Rattle.trc_answers.specs.Answers.{devices, Answers, AsItComes, FailsPrinting, LacksMemoryInside, LacksMemory, PrintAnswers, Printed, PrintedAFront}
use Rattle.trc_answers.specs.declared.causes.Spot.{Spot}
use Rattle.trc_answers.specs.declared.causes.Cause.{Cause}
use Rattle.trc_answers.specs.declared.causes.Cause.TheVariants as cause
use Rattle.meaning_commands.specs.Inputs.{IsGiven, IsNotGiven, input_told}
use Rattle.meaning_commands.specs.Meanings.{spot_in, cause_of_meaning, IsMeant, MeaningComesTo, MeanAnswers, WasDone, RanIntoFault, RanOutOfMemory}
use Rattle.meaning_commands.specs.Comparisons.{both_lines, ComparisonComesTo, TellAnswers, WereTold, HadNoRoom}
use Rattle.meaning_commands.proofs.Giving.{comes_so, stays_so, stays_or_reads, not_given}

---- From what was executed to the answer

module _ (p : Program) (outcome : Outcome Trap) (a b : Account) where
  abbrev Answer : Cause → Type 0
  Answer ended = MeanAnswers (cause_of_meaning p outcome) (output outcome) a b ended

  whole : (other : Outcome Trap) → outcome ≡ other → TookAll a b (output other) → Answer (cause_of_meaning p other)
  whole other e took = WasDone (ap (cause_of_meaning p) (sym e)) (subst (TookAll a b) (ap output (sym e)) took)

  pub ended : (out : List ℕ) × (outcome ≡ Ended out) × TookAll a b out → Answer cause.Done
  ended h = whole (Ended h.0) h.1 h.2

  pub spent : (out : List ℕ) × (outcome ≡ Going out) × TookAll a b out → Answer cause.TurnsSpent
  spent h = whole (Going h.0) h.1 h.2

  pub trapped : (kind f : ℕ) (spot : Option Spot) → spot ≡ spot_in p f → (out : List ℕ) × (outcome ≡ Trapped (Kind kind f) out) × TookAll a b out → Answer (cause.Trapped kind spot)
  trapped kind f spot is h = subst (λ s. Answer (cause.Trapped kind s)) (sym is) (whole (Trapped (Kind kind f) h.0) h.1 h.2)

---- And to the command

module _ (p : Program) (turns : ℕ) where
  abbrev verdict_on : List ℕ → Verdict
  verdict_on bytes = Means p.imports_in (cause_of_meaning p (meaning p bytes turns)) (output (meaning p bytes turns))

  module _ (left left' : Option (List ℕ)) (k k' : ℕ) (held : Option Held) (m : ℕ) where
    pub done : (bytes : List ℕ) (a b : Account) (ended : Cause) → IsGiven p.imports_in (input_told left k) (input_told left' k') bytes
        → MeanAnswers (cause_of_meaning p (meaning p bytes turns)) (output (meaning p bytes turns)) a b ended
        → Answers (λ l. MeaningComesTo l turns p) (devices held m left k a) (devices held m left' k' b) ended
    done bytes a b ended given (WasDone is took) =
        AsItComes (verdict_on bytes) (comes_so p.imports_in verdict_on (λ _. refl) left left' k k' bytes given) is
        (record { written = took; files = refl; input = stays_so p.imports_in verdict_on (λ _. refl) left left' k k' held m a b bytes given })
    done bytes a b ended given (RanIntoFault is took rose) =
        FailsPrinting (verdict_on bytes) (comes_so p.imports_in verdict_on (λ _. refl) left left' k k' bytes given) is
        (record { front = took; failed = rose; files = refl; input = stays_so p.imports_in verdict_on (λ _. refl) left left' k k' held m a b bytes given })
    done bytes a b ended given (RanOutOfMemory is took) =
        LacksMemoryInside p.imports_in (cause_of_meaning p (meaning p bytes turns)) (output (meaning p bytes turns))
        (comes_so p.imports_in verdict_on (λ _. refl) left left' k k' bytes given) is
        (record { front = took; files = refl; input = stays_so p.imports_in verdict_on (λ _. refl) left left' k k' held m a b bytes given })

    pub not_done : (ended : Cause) (out : Account) → IsNotGiven p.imports_in (input_told left k) (input_told left' k') ended
        → Answers (λ l. MeaningComesTo l turns p) (devices held m left k out) (devices held m left' k' out) ended
    not_done ended out h = not_given p.imports_in verdict_on (λ _. refl) left left' k k' ended h held m out

---- The same of a comparison

module _ (p : Program) (image : Image) (steps turns : ℕ) where
  abbrev lines_on : List ℕ → Verdict
  lines_on bytes = Tells p.imports_in (both_lines p image steps turns bytes)

  module _ (left left' : Option (List ℕ)) (k k' : ℕ) (held : Option Held) (m : ℕ) where
    pub compared : (bytes : List ℕ) (a b : Account) (ended : Cause) → IsGiven p.imports_in (input_told left k) (input_told left' k') bytes
        → TellAnswers (both_lines p image steps turns bytes) a b ended
        → Answers (λ l. ComparisonComesTo l steps turns p image) (devices held m left k a) (devices held m left' k' b) ended
    compared bytes a b ended given (WereTold (Printed is took)) =
        AsItComes (lines_on bytes) (comes_so p.imports_in lines_on (λ _. refl) left left' k k' bytes given) is
        (record { written = took; files = refl; input = stays_so p.imports_in lines_on (λ _. refl) left left' k k' held m a b bytes given })
    compared bytes a b ended given (WereTold (PrintedAFront is took rose)) =
        FailsPrinting (lines_on bytes) (comes_so p.imports_in lines_on (λ _. refl) left left' k k' bytes given) is
        (record { front = took; failed = rose; files = refl; input = stays_so p.imports_in lines_on (λ _. refl) left left' k k' held m a b bytes given })
    compared bytes a b ended given (HadNoRoom is none) =
        LacksMemory is (record { output = none; files = refl }) (stays_or_reads p.imports_in lines_on (λ _. refl) left left' k k' held m a b bytes given)

    pub not_compared : (ended : Cause) (out : Account) → IsNotGiven p.imports_in (input_told left k) (input_told left' k') ended
        → Answers (λ l. ComparisonComesTo l steps turns p image) (devices held m left k out) (devices held m left' k' out) ended
    not_compared ended out h = not_given p.imports_in lines_on (λ _. refl) left left' k k' ended h held m out
