use Rattle.std.proofs.Common.{◌≡◌, ◌≤◌, ◌++◌, drop, filter, length}
use Rattle.lir_core.specs.Spots.{argument_of}
use Rattle.parallel_move.specs.Order.{is_moving}
use Rattle.boundary_resolve.specs.Moves.{FewRegs, place_of, reg_moves}
use Rattle.boundary_resolve.proofs.near.push_registers.Given as goal

abbrev pub invariant-loop-register : goal.invariant-loop-register
invariant-loop-register l = FewRegs l.from → length l.regs ≤ 16 → l.moves.items ++ filter is_moving (reg_moves (λ v. place_of l.from (argument_of l.params l.args v)) l.register (drop l.register l.regs)) ≡ l.initial.moves.items ++ filter is_moving (reg_moves (λ v. place_of l.from (argument_of l.params l.args v)) 0 l.regs)
