-- Which limit a program passes first on its way to a page.
use Rattle.std.specs.Prelude.{◌≡◌, ◌<◌, ℕ, List, length, Option, Some, None}
use Rattle.ob_types.specs.declared.program.Program.{Program}
use Rattle.ssa_lowered.specs.Limits.{Limit}
use Rattle.shown_program.specs.words.alloc_choice.declared.choice.Choice.{Choice}
use Rattle.shown_program.specs.words.alloc_choice.declared.choice.Policy.{Policy}
use Rattle.shown_program.specs.words.program_image.Faults.{Tells}
use Rattle.shown_program.specs.words.program_image.Limits.{of_all, IsPassedFirst}
use Rattle.shown_program.specs.words.program_image.declared.fault.ProgramFault.{ProgramFault}
use Rattle.shown_program.specs.words.program_image.declared.fault.ProgramFault.TheVariants as whole
use Rattle.shown_program.specs.Shown.{IsShownProgram}
use Rattle.shown_program.specs.declared.making.ShownProgram.{ShownProgram}
use Rattle.whole_page.specs.Pages.{most_bytes}
use Rattle.program_page.specs.Pages.{IsPageText, Wish, with_policy}

-- one of the limits on the way to the image by the choice; behind all of these, one on the way to that by the other policy; and behind
-- all of these too many bytes of the page (71)
pub data IsPassedForPage (wish : Wish) (p : Program) : Limit → Type 0 where
  ForImage : (limit : Limit) → IsPassedFirst wish.choice p limit → IsPassedForPage wish p limit
  ForOther : (limit : Limit) (policy : Policy) (own : ShownProgram) → wish.policy ≡ Some policy → IsShownProgram wish.choice p own
      → IsPassedFirst (with_policy wish.choice policy) p limit → IsPassedForPage wish p limit
  ByPage : (text : List ℕ) → IsPageText wish p text → most_bytes < length text → IsPassedForPage wish p (of_all 71)

-- a fault of a limit tells of the first that is passed; want of memory tells nothing
abbrev pub TellsOfPage : Wish → Program → ProgramFault → Type 0
TellsOfPage wish p (whole.Limit n i) = IsPassedForPage wish p (record { number = n; index = i })
TellsOfPage wish p whole.Memory = Unit {0}

-- so a fault of the image by the other policy tells, where there is one
abbrev pub TellsOfOther : Choice → Option Policy → Program → ProgramFault → Type 0
TellsOfOther choice None p fault = ⊥
TellsOfOther choice (Some policy) p fault = Tells (with_policy choice policy) p fault
