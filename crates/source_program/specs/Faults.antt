-- What a fault of one module is among all.
use Rattle.std.specs.Prelude.{ℕ}
use Rattle.ob_read.specs.declared.fault.TextFault.{TextFault}
use Rattle.ob_read.specs.declared.fault.TextFault.TheVariants as OfText
use Rattle.check_types.specs.declared.steps.fault.CheckFault.{CheckFault}
use Rattle.check_types.specs.declared.steps.fault.CheckFault.TheVariants as OfCheck
use Rattle.source_program.specs.declared.fault.SourceFault.{SourceFault}
use Rattle.source_program.specs.declared.fault.SourceFault.TheVariants.{TooLong, Fault, Memory}

abbrev pub read_fault : ℕ → TextFault → SourceFault
read_fault n OfText.TooLong = TooLong n
read_fault n (OfText.Fault number at) = Fault n number at
read_fault n OfText.Memory = Memory

abbrev pub judged_fault : ℕ → CheckFault → SourceFault
judged_fault n (OfCheck.Fault number at) = Fault n number at
judged_fault n OfCheck.Memory = Memory
