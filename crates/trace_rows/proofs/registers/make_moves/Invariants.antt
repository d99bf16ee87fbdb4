use Rattle.std.proofs.Common.{◌≡◌, ◌≤◌, drop, length}
use Rattle.trace_rows.specs.Registers.{moved}
use Rattle.trace_rows.proofs.registers.make_moves.Given as goal

abbrev pub invariant-loop-at : goal.invariant-loop-at
invariant-loop-at l = record { below : l.at ≤ length l.moves; made : l.regs ≡ moved l.old.items (drop l.at l.moves) }

abbrev pub decreases-loop-at : goal.decreases-loop-at
decreases-loop-at l = l.at
