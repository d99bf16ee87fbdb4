-- What it means that a comparison finds both alike, and when it must.
use Rattle.std.specs.Prelude.{◌≡◌, ◌+◌, ◌*◌, ◌≤◌, ℕ, List, length}
use Rattle.image_form.specs.declared.image.Image.{Image}
use Rattle.run_laws.specs.Runs.{IsOver, turns_a_step}
use Rattle.ob_types.specs.Meaning.{meaning}
use Rattle.ob_types.specs.declared.program.Program.{Program}
use Rattle.trc_answers.specs.Runs.{run_of}
use Rattle.meaning_commands.specs.declared.comparing.RunSummary.{RunSummary}
use Rattle.meaning_commands.specs.Comparisons.{kind_broken, kind_meant, run_summary, summary_lines, both_lines}

-- what a program means is over within its turns, and the steps suffice for these; or the machine's run is over within so many steps,
-- for which the turns suffice
pub data Suffice (p : Program) (image : Image) (steps turns : ℕ) (input : List ℕ) : Type 0 where
  StepsForTurns : IsOver (meaning p input turns) → (turns + 1) * length image.code ≤ steps → Suffice p image steps turns input
  TurnsForSteps : (within : ℕ) → IsOver (run_of image input within) → within ≤ steps → turns_a_step * within + turns_a_step ≤ turns
      → Suffice p image steps turns input

-- both lines tell the same end and the same number of bytes
pub record TellTheSame (p : Program) (image : Image) (steps turns : ℕ) (input : List ℕ) : Type 0 where
  pub summary : RunSummary
  pub lines : both_lines p image steps turns input ≡ summary_lines summary summary
