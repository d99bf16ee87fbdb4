-- What the command comes to when nothing fails.
use Rattle.std.specs.Prelude.{◌≡◌, ℕ, List, Bool, Option, None}
use Rattle.ob_types.specs.declared.program.Program.{Program}
use Rattle.ssa_lowered.specs.Limits.{limit_of}
use Rattle.program_figures.specs.words.source_image.Refusals.{IsRefusalOf}
use Rattle.program_figures.specs.planned_image.Plans.{TellsOfLowering}
use Rattle.trc_answers.specs.Verdict.{Verdict, Tells}
use Rattle.meaning_commands.specs.trc_texts.Texts.{AreRefused}
use Rattle.meaning_commands.specs.Inputs.{InputComesTo}
use Rattle.meaning_commands.specs.Programs.{AreProgram}
use Rattle.compare_commands.specs.Rows.{AreRows}
use Rattle.compare_commands.specs.Tables.{table_lines}
use Rattle.compare_commands.specs.declared.rows.Row.{Row}

-- the table of some rows is told, by a command that reads the input or doesn't
abbrev pub IsTableTold : (reads : Bool) → (steps : ℕ) → List Row → (input : List ℕ) → Verdict → Type 0
IsTableTold reads steps rows input verdict = verdict ≡ Tells reads (table_lines steps input rows)

-- on the input where it is wanted
abbrev pub TableComesTo : Option (List ℕ) → (wanted : Bool) → (steps : ℕ) → List Row → Verdict → Type 0
TableComesTo left wanted steps rows = InputComesTo left wanted (IsTableTold wanted steps rows)

-- texts break a rule or pass a limit of lowering, which holds for every choice; or they are a program, whose table is told. A limit that
-- depends on the choice refuses its row alone
pub data ComparesComeTo (left : Option (List ℕ)) (jobs steps : ℕ) (texts : List (List ℕ)) (verdict : Verdict) : Type 0 where
  HaveNoneToCompare : AreRefused (IsRefusalOf TellsOfLowering texts) verdict → ComparesComeTo left jobs steps texts verdict
  HaveTable : (p : Program) (rows : List Row) → AreProgram texts p → limit_of p ≡ None → AreRows jobs p rows → TableComesTo left p.imports_in steps rows verdict
      → ComparesComeTo left jobs steps texts verdict
