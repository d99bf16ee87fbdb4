use Rattle.std.proofs.Common.{◌≡◌, ◌++◌, map, take, drop}
use Rattle.lir_core.specs.Walks.{without}
use Rattle.loc_state.proofs.registers.clear.Given as goal

abbrev pub invariant-loop-content : goal.invariant-loop-content
invariant-loop-content l = l.regs ≡ map (without l.value) (take l.content-index l.initial.regs) ++ drop l.content-index l.initial.regs
