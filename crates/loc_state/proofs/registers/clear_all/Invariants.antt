use Rattle.std.proofs.Common.{◌≡◌, ◌++◌, map, take, drop, None}
use Rattle.loc_state.proofs.registers.clear_all.Given as goal

abbrev pub invariant-loop-content : goal.invariant-loop-content
invariant-loop-content l = l.regs ≡ map (λ x. None) (take l.content-index l.initial.regs) ++ drop l.content-index l.initial.regs
