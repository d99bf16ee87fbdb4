-- The table of some rows.
use Rattle.std.specs.Prelude.{ℕ, List, [], ◌∷◌, ◌++◌, flat_map}
use Rattle.program_figures.specs.Runs.{counted_run}
use Rattle.compare_commands.specs.Lines.{choice_cells, figure_cells, run_cells, limit_cells, header}
use Rattle.compare_commands.specs.declared.rows.Row.{Row}
use Rattle.compare_commands.specs.declared.rows.RowOutcome.{RowOutcome}
use Rattle.compare_commands.specs.declared.rows.RowOutcome.TheVariants.{Made, Refused}

-- what comes of a choice: the figures, and the run of the image on an input with so many steps; or the limit that is passed
abbrev pub outcome_cells : (steps : ℕ) → (input : List ℕ) → RowOutcome → List ℕ
outcome_cells steps input (Made made) = figure_cells made.figures ++ run_cells (counted_run made.image input steps)
outcome_cells steps input (Refused number) = limit_cells number

abbrev pub row_line : (steps : ℕ) → (input : List ℕ) → Row → List ℕ
row_line steps input row = choice_cells row.choice ++ (outcome_cells steps input row.outcome ++ 10 ∷ [])

-- a line of the columns' names, and one of each row
abbrev pub table_lines : (steps : ℕ) → (input : List ℕ) → List Row → List ℕ
table_lines steps input rows = header ++ flat_map (row_line steps input) rows
