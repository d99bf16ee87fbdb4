use Rattle.std.proofs.Common.{◌≡◌, ◌++◌, map, take, drop}
use Rattle.lir_core.specs.Walks.{without}
use Rattle.trace_rows.proofs.registers.clear.Given as goal

abbrev pub invariant-loop-held : goal.invariant-loop-held
invariant-loop-held l = l.regs ≡ map (without l.value) (take l.held-index l.initial.regs) ++ drop l.held-index l.initial.regs
