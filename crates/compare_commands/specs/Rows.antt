-- What comes of each choice.
use Rattle.std.specs.Prelude.{◌≡◌, ℕ, List, map, All}
use Rattle.image_form.specs.Form.{IsInForm}
use Rattle.ob_types.specs.declared.program.Program.{Program}
use Rattle.program_figures.specs.words.alloc_choice.declared.choice.Choice.{Choice}
use Rattle.program_figures.specs.words.program_image.Limits.{IsPassedFirst}
use Rattle.program_figures.specs.Images.{IsFiguredImage}
use Rattle.compare_commands.specs.Choices.{choices}
use Rattle.compare_commands.specs.declared.rows.Row.{Row}
use Rattle.compare_commands.specs.declared.rows.RowOutcome.{RowOutcome}
use Rattle.compare_commands.specs.declared.rows.RowOutcome.TheVariants.{Made, Refused}

-- a program's image by a choice with its figures, or the first limit that it passes by this choice
abbrev pub IsOutcome : Program → Choice → RowOutcome → Type 0
IsOutcome p choice (Made made) = IsFiguredImage choice p made
IsOutcome p choice (Refused number) = (index : ℕ) × IsPassedFirst choice p (record { number = number; index = index })

abbrev pub IsRow : Program → Row → Type 0
IsRow p row = IsOutcome p row.choice row.outcome

-- each choice in turn, and what comes of it
pub record AreRows (jobs : ℕ) (p : Program) (rows : List Row) : Type 0 where
  pub choices : map (λ row. row.choice) rows ≡ choices jobs
  pub each : All (IsRow p) rows

-- the image of an outcome, where there is one, is in form
abbrev pub IsFormed : RowOutcome → Type 0
IsFormed (Made made) = IsInForm made.image
IsFormed (Refused number) = Unit {0}
