-- Which image texts have by a choice, and what it does; and which traces.
use Rattle.std.specs.Prelude.{◌≡◌, ◌≤◌, ℕ, List, true, length, None}
use Rattle.image_form.specs.Form.{IsInForm}
use Rattle.image_file.specs.Spelling.{IsOfWords}
use Rattle.ob_types.specs.WellFormed.{well_formed}
use Rattle.ob_types.specs.declared.program.Program.{Program}
use Rattle.ssa_lowered.specs.Limits.{limit_of}
use Rattle.ssa_lowered.specs.Lowered.{lowered}
use Rattle.linked_flows.specs.Allocations.{Cut}
use Rattle.alloc_choice.specs.declared.choice.Choice.{Choice}
use Rattle.compiled_runs.specs.Compiled.{flows_of}
use Rattle.trace_build.specs.Traces.{traces_in}
use Rattle.trace_report.specs.Reports.{IsReport}
use Rattle.program_image.specs.Images.{IsProgramImage, DoesAsMeant}
use Rattle.program_image.specs.Limits.{most_traces}
use Rattle.program_image.specs.declared.imaging.Compiled.{Compiled}
use Rattle.source_program.specs.Texts.{IsProgramOfTexts}

-- the image of a program that the texts are, by the choice, with the numbers of its procedures and traces; the program passes no
-- limit: none of lowering, nor too many traces, nor too many words of code, since the image is in form; and the machine that runs
-- the image is in step with what it means
pub record IsImageOfTexts (choice : Choice) (texts : List (List ℕ)) (made : Compiled) : Type 0 where
  pub program : Program
  pub of_texts : IsProgramOfTexts texts program
  pub well_formed : well_formed program ≡ true
  pub within : limit_of program ≡ None
  pub cuts : List Cut
  pub is : IsProgramImage choice program cuts made.image
  pub means : DoesAsMeant program cuts made.image
  pub form : IsInForm made.image
  pub words : IsOfWords made.image
  pub procedures : made.procedures ≡ length (lowered program)
  pub traces : made.traces ≡ traces_in choice.builder (flows_of program)

-- the lines that tell the traces of a program that the texts are, which passes no limit of lowering and has not too many traces
pub record AreTracesOfTexts (choice : Choice) (texts : List (List ℕ)) (lines : List ℕ) : Type 0 where
  pub program : Program
  pub of_texts : IsProgramOfTexts texts program
  pub well_formed : well_formed program ≡ true
  pub within : limit_of program ≡ None
  pub few : traces_in choice.builder (flows_of program) ≤ most_traces
  pub are : IsReport choice 0 (flows_of program) lines
