use Rattle.std.proofs.Common.{◌≡◌, ◌++◌, map, take, drop, None}
use Rattle.trace_rows.proofs.registers.clear_all.Given as goal

abbrev pub invariant-loop-held : goal.invariant-loop-held
invariant-loop-held l = l.regs ≡ map (λ x. None) (take l.held-index l.initial.regs) ++ drop l.held-index l.initial.regs
