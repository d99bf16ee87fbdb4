-- What a fault tells.
use Rattle.std.specs.Prelude.{ℕ}
use Rattle.ob_types.specs.declared.program.Program.{Program}
use Rattle.ssa_tables.specs.declared.fault.LowerFault.{LowerFault}
use Rattle.ssa_tables.specs.declared.fault.LowerFault.TheVariants as low
use Rattle.alloc_choice.specs.declared.choice.Choice.{Choice}
use Rattle.back_end.specs.declared.fault.ImageFault.{ImageFault}
use Rattle.back_end.specs.declared.fault.ImageFault.TheVariants as back
use Rattle.program_image.specs.declared.fault.ProgramFault.{ProgramFault}
use Rattle.program_image.specs.declared.fault.ProgramFault.TheVariants as whole
use Rattle.program_image.specs.Limits.{IsPassedBeforeCode, IsPassedFirst}

-- a fault of a limit tells of the first that is passed; want of memory tells nothing
abbrev pub Tells : Choice → Program → ProgramFault → Type 0
Tells choice p (whole.Limit n i) = IsPassedFirst choice p (record { number = n; index = i })
Tells choice p whole.Memory = Unit {0}

-- the same where no code is made
abbrev pub TellsOfTraces : Choice → Program → ProgramFault → Type 0
TellsOfTraces choice p (whole.Limit n i) = IsPassedBeforeCode choice p (record { number = n; index = i })
TellsOfTraces choice p whole.Memory = Unit {0}

abbrev pub whole_limit : ℕ → ProgramFault
whole_limit n = whole.Limit n 0

abbrev pub of_lowering : LowerFault → ProgramFault
of_lowering (low.Limit n i) = whole.Limit n i
of_lowering low.Memory = whole.Memory

abbrev pub of_imaging : ImageFault → ProgramFault
of_imaging back.Traces = whole_limit 57
of_imaging back.Code = whole_limit 54
of_imaging back.Misfit = whole.Memory
of_imaging back.Memory = whole.Memory
