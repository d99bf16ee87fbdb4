use Rattle.std.proofs.Common.{◌≡◌, ◌≤◌, ◌++◌, drop, length}
use Rattle.boundary_resolve.specs.Moves.{reg_moves}
use Rattle.boundary_resolve.specs.Before.{HasFew, place_before}
use Rattle.boundary_resolve.proofs.moves.push_registers.Given as goal

abbrev pub invariant-loop-register : goal.invariant-loop-register
invariant-loop-register l = HasFew l.before → length l.regs ≤ 16 → l.moves.items ++ reg_moves (place_before l.before) l.register (drop l.register l.regs) ≡ l.initial.moves.items ++ reg_moves (place_before l.before) 0 l.regs
