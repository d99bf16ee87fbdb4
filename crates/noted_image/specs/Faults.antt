-- Which limit a program passes first on its way to an image with notes.
use Rattle.std.specs.Prelude.{◌≡◌, ◌<◌, List, map, length, None}
use Rattle.image_form.specs.declared.image.Image.{Image}
use Rattle.image_form.specs.Form.{IsInForm}
use Rattle.ob_types.specs.declared.program.Program.{Program}
use Rattle.ssa_lowered.specs.Limits.{Limit, limit_of}
use Rattle.linked_flows.specs.Allocations.{Cut}
use Rattle.planned_image.specs.words.alloc_choice.declared.choice.Choice.{Choice}
use Rattle.planned_image.specs.audited_allocations.Joined.{joined}
use Rattle.trace_notes.specs.Notes.{notes, most_bytes}
use Rattle.planned_image.specs.words.program_image.Images.{IsProgramImage}
use Rattle.planned_image.specs.words.program_image.Limits.{of_all, IsPassedFirst}
use Rattle.planned_image.specs.words.program_image.declared.fault.ProgramFault.{ProgramFault}
use Rattle.planned_image.specs.words.program_image.declared.fault.ProgramFault.TheVariants as whole

-- a program has an image, and the notes of the results behind it have too many bytes
pub record HasLongNotes (choice : Choice) (p : Program) : Type 0 where
  pub within : limit_of p ≡ None
  pub cuts : List Cut
  pub image : Image
  pub form : IsInForm image
  pub is : IsProgramImage choice p cuts image
  pub long : most_bytes < length (notes (joined (map (λ c. c.outs) cuts)))

-- one of the limits on the way to the image; and behind all of these too many bytes of notes (67)
pub data IsPassedWithNotes (choice : Choice) (p : Program) : Limit → Type 0 where
  BeforeNotes : (limit : Limit) → IsPassedFirst choice p limit → IsPassedWithNotes choice p limit
  ByNotes : HasLongNotes choice p → IsPassedWithNotes choice p (of_all 67)

-- a fault of a limit tells of the first that is passed where notes are kept; want of memory tells nothing
abbrev pub TellsWithNotes : Choice → Program → ProgramFault → Type 0
TellsWithNotes choice p (whole.Limit n i) = IsPassedWithNotes choice p (record { number = n; index = i })
TellsWithNotes choice p whole.Memory = Unit {0}
