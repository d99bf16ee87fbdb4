-- Faults of the passes before linking.
use Rattle.trace_work.specs.declared.fault.WorkFault.{WorkFault}
use Rattle.trace_work.specs.declared.fault.WorkFault.TheVariants as work
use Rattle.back_end.specs.declared.fault.ImageFault.{ImageFault}
use Rattle.back_end.specs.declared.fault.ImageFault.TheVariants.{Traces, Memory}

-- the same fault of flows
abbrev pub of_work : WorkFault → ImageFault
of_work work.Traces = Traces
of_work work.Memory = Memory
