use Rattle.std.proofs.Common.{◌≡◌, drop}
use Rattle.ssa_core.specs.Procedures.{code_blocks}
use Rattle.ssa_valid.specs.Order.{all_in_order}
use Rattle.ssa_valid.proofs.order.blocks_are_in_order.Given as goal

abbrev pub invariant-loop-number : goal.invariant-loop-number
invariant-loop-number l = all_in_order l.stamps (code_blocks (drop l.number l.blocks)) l.number ≡ all_in_order l.initial.stamps (code_blocks l.blocks) 0
