-- Why texts have no image.
use Rattle.std.specs.Prelude.{◌≡◌, ℕ, List, true}
use Rattle.ob_types.specs.WellFormed.{well_formed}
use Rattle.ob_types.specs.declared.program.Program.{Program}
use Rattle.alloc_choice.specs.declared.choice.Choice.{Choice}
use Rattle.source_program.specs.Texts.{IsProgramOfTexts, IsSourceFault}
use Rattle.source_program.specs.declared.fault.SourceFault.{SourceFault}
use Rattle.source_program.specs.declared.fault.SourceFault.TheVariants as source
use Rattle.program_image.specs.Faults.{Tells, TellsOfTraces}
use Rattle.program_image.specs.declared.fault.ProgramFault.{ProgramFault}
use Rattle.program_image.specs.declared.fault.ProgramFault.TheVariants as whole
use Rattle.source_image.specs.declared.refusal.Refusal.{Refusal}
use Rattle.source_image.specs.declared.refusal.Refusal.TheVariants.{TooLong, Source, Limit, Memory}

abbrev pub of_source : SourceFault → Refusal
of_source (source.TooLong n) = TooLong n
of_source (source.Fault n number at) = Source n number at
of_source source.Memory = Memory

abbrev pub of_program : ProgramFault → Refusal
of_program (whole.Limit number index) = Limit number index
of_program whole.Memory = Memory

-- the texts are a program of which a fault tells
pub record HaveFault (TellsOf : Program → ProgramFault → Type 0) (texts : List (List ℕ)) (fault : ProgramFault) : Type 0 where
  pub program : Program
  pub of_texts : IsProgramOfTexts texts program
  pub well_formed : well_formed program ≡ true
  pub tells : TellsOf program fault

-- the first rule that is broken, or else a limit of which a fault of their program tells; want of memory tells nothing
abbrev pub IsRefusalOf : (Program → ProgramFault → Type 0) → List (List ℕ) → Refusal → Type 0
IsRefusalOf TellsOf texts (TooLong n) = IsSourceFault texts (source.TooLong n)
IsRefusalOf TellsOf texts (Source n number at) = IsSourceFault texts (source.Fault n number at)
IsRefusalOf TellsOf texts (Limit number index) = HaveFault TellsOf texts (whole.Limit number index)
IsRefusalOf TellsOf texts Memory = Unit {0}

-- why texts have no image: the first rule that is broken, or else the first limit that is passed
abbrev pub IsRefusal : Choice → List (List ℕ) → Refusal → Type 0
IsRefusal choice = IsRefusalOf (Tells choice)

-- and why they have no traces: without the limit of code, which is never made
abbrev pub IsRefusalOfTraces : Choice → List (List ℕ) → Refusal → Type 0
IsRefusalOfTraces choice = IsRefusalOf (TellsOfTraces choice)
