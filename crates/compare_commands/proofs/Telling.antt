-- What a table is for a command.
use Rattle.std.proofs.Common.{ℕ, List, Bool, Option, refl}
use Rattle.std.specs.Prelude.{All}
use Rattle.outside.specs.Files.{Held}
use Rattle.outside.specs.Sink.{Account}
use Rattle.ob_types.specs.declared.program.Program.{Program}
use Rattle.program_figures.specs.words.alloc_choice.declared.choice.Choice.{Choice}
use Rattle.trc_answers.specs.Verdict.{Verdict, Tells}
use Rattle.trc_answers.specs.Answers.{devices, Answers, AsItComes, FailsPrinting, LacksMemory, Printed, PrintedAFront}
use Rattle.trc_answers.specs.declared.causes.Cause.{Cause}
use Rattle.meaning_commands.specs.Inputs.{IsGiven, IsNotGiven, input_told}
use Rattle.meaning_commands.specs.Comparisons.{TellAnswers, WereTold, HadNoRoom}
use Rattle.meaning_commands.proofs.Giving.{comes_so, stays_so, stays_or_reads, not_given}
use Rattle.compare_commands.specs.Rows.{IsOutcome, IsFormed, AreRows}
use Rattle.compare_commands.specs.Tables.{table_lines}
use Rattle.compare_commands.specs.Compares.{TableComesTo}
use Rattle.compare_commands.specs.declared.rows.Row.{Row}
use Rattle.compare_commands.specs.declared.rows.RowOutcome.{RowOutcome}
use Rattle.compare_commands.specs.declared.rows.RowOutcome.TheVariants.{Made, Refused}

---- The images of rows

formed : (p : Program) (choice : Choice) (outcome : RowOutcome) → IsOutcome p choice outcome → IsFormed outcome
formed p choice (Made made) is = is.form
formed p choice (Refused number) is = tt

-- are in form
pub formed_rows : (jobs : ℕ) (p : Program) (rows : List Row) → AreRows jobs p rows → All (λ (row : Row). IsFormed row.outcome) rows
formed_rows jobs p rows are k d lt = formed p _ _ (are.each k d lt)

---- The answer

module _ (wanted : Bool) (steps : ℕ) (rows : List Row) where
  abbrev table_on : List ℕ → Verdict
  table_on bytes = Tells wanted (table_lines steps bytes rows)

  module _ (left left' : Option (List ℕ)) (k k' : ℕ) (held : Option Held) (m : ℕ) where
    pub told : (bytes : List ℕ) (a b : Account) (ended : Cause) → IsGiven wanted (input_told left k) (input_told left' k') bytes → TellAnswers (table_lines steps bytes rows) a b ended
        → Answers (λ l. TableComesTo l wanted steps rows) (devices held m left k a) (devices held m left' k' b) ended
    told bytes a b ended given (WereTold (Printed is took)) =
        AsItComes (table_on bytes) (comes_so wanted table_on (λ _. refl) left left' k k' bytes given) is
        (record { written = took; files = refl; input = stays_so wanted table_on (λ _. refl) left left' k k' held m a b bytes given })
    told bytes a b ended given (WereTold (PrintedAFront is took rose)) =
        FailsPrinting (table_on bytes) (comes_so wanted table_on (λ _. refl) left left' k k' bytes given) is
        (record { front = took; failed = rose; files = refl; input = stays_so wanted table_on (λ _. refl) left left' k k' held m a b bytes given })
    told bytes a b ended given (HadNoRoom is none) =
        LacksMemory is (record { output = none; files = refl }) (stays_or_reads wanted table_on (λ _. refl) left left' k k' held m a b bytes given)

    pub not_told : (ended : Cause) (out : Account) → IsNotGiven wanted (input_told left k) (input_told left' k') ended
        → Answers (λ l. TableComesTo l wanted steps rows) (devices held m left k out) (devices held m left' k' out) ended
    not_told ended out h = not_given wanted table_on (λ _. refl) left left' k k' ended h held m out
