-- A program's image by a choice, with the figures of the code behind it.
use Rattle.std.specs.Prelude.{◌≡◌, List, map, length}
use Rattle.image_form.specs.declared.image.Image.{Image}
use Rattle.image_form.specs.Form.{IsInForm}
use Rattle.ob_types.specs.declared.program.Program.{Program}
use Rattle.boundary_resolve.specs.declared.code_line.CodeLine.{CodeLine}
use Rattle.boundary_resolve.specs.Placing.{placed_of}
use Rattle.linked_flows.specs.Allocations.{Cut}
use Rattle.noted_image.specs.words.alloc_choice.declared.choice.Choice.{Choice}
use Rattle.noted_image.specs.words.flow_allocation.Allocations.{trace_count}
use Rattle.noted_image.specs.words.program_image.Images.{IsProgramImage, DoesAsMeant}
use Rattle.program_figures.specs.Lines.{over_all, moves_in, stores_in, loads_in}
use Rattle.program_figures.specs.declared.figuring.CodeFigures.{CodeFigures}
use Rattle.program_figures.specs.declared.figuring.FiguredImage.{FiguredImage}

-- the lines of each procedure, in the order of its code
abbrev pub lines_of : List Cut → List (List CodeLine)
lines_of cuts = map (λ (c : Cut). placed_of c.flow c.traces c.outs) cuts

-- the figures of the code of flows with results, and of the image that is linked from them
abbrev pub figures_of : List Cut → Image → CodeFigures
figures_of cuts image = record {
  words = length image.code;
  traces = trace_count cuts;
  moves = over_all moves_in (lines_of cuts);
  stores = over_all stores_in (lines_of cuts);
  loads = over_all loads_in (lines_of cuts);
  frame = image.frame;
}

-- a program's image by a choice, which does what the program means, and the figures of the code behind it
pub record IsFiguredImage (choice : Choice) (p : Program) (made : FiguredImage) : Type 0 where
  pub cuts : List Cut
  pub is : IsProgramImage choice p cuts made.image
  pub means : DoesAsMeant p cuts made.image
  pub form : IsInForm made.image
  pub figures : made.figures ≡ figures_of cuts made.image
