-- A program's image with the notes of the results behind it.
use Rattle.std.specs.Prelude.{◌≡◌, ◌<◌, ◌≤◌, ℕ, List, map, length, true, Option, Some, None, Vec}
use Rattle.std.specs.Global.{Global}
use Rattle.image_form.specs.Form.{IsInForm}
use Rattle.image_file.specs.Spelling.{IsOfWords}
use Rattle.ob_types.specs.WellFormed.{well_formed}
use Rattle.ob_types.specs.declared.program.Program.{Program}
use Rattle.ssa_lowered.specs.Limits.{limit_of}
use Rattle.lir_core.specs.declared.places.TraceOut.{TraceOut}
use Rattle.linked_flows.specs.Allocations.{Cut}
use Rattle.planned_image.specs.words.alloc_choice.declared.choice.Choice.{Choice}
use Rattle.planned_image.specs.audited_allocations.Joined.{joined}
use Rattle.trace_notes.specs.Notes.{AreNotes, notes, most_bytes}
use Rattle.planned_image.specs.words.program_image.Images.{IsProgramImage, DoesAsMeant}
use Rattle.planned_image.specs.words.source_program.Texts.{IsProgramOfTexts}
use Rattle.noted_image.specs.declared.noting.NotedImage.{NotedImage}

-- a program's image by a choice, which does what the program means, and the notes of the results behind it, which are read again as these
pub record IsNotedImage (choice : Choice) (p : Program) (made : NotedImage) : Type 0 where
  pub within : limit_of p ≡ None
  pub cuts : List Cut
  pub is : IsProgramImage choice p cuts made.image
  pub means : DoesAsMeant p cuts made.image
  pub form : IsInForm made.image
  pub words : IsOfWords made.image
  pub notes : made.notes.items ≡ notes (joined (map (λ c. c.outs) cuts))
  pub short : length made.notes.items ≤ most_bytes
  pub are_notes : AreNotes (joined (map (λ c. c.outs) cuts))

-- of a program that the texts are
pub record IsNotedImageOfTexts (choice : Choice) (texts : List (List ℕ)) (made : NotedImage) : Type 0 where
  pub program : Program
  pub of_texts : IsProgramOfTexts texts program
  pub well_formed : well_formed program ≡ true
  pub is : IsNotedImage choice program made

-- results have these notes, which are read again as these results; or none, since they would have too many bytes
abbrev pub AreKept : List TraceOut → Option (Vec ℕ Global) → Type 0
AreKept outs (Some bytes) = (bytes.items ≡ notes outs) × (length bytes.items ≤ most_bytes) × AreNotes outs
AreKept outs None = most_bytes < length (notes outs)
