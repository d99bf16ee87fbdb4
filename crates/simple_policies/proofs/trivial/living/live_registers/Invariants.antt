use Rattle.std.proofs.Common.{◌≡◌, ◌++◌, map, drop}
use Rattle.lir_core.specs.Rows.{has_bit}
use Rattle.linear_scan.specs.Starts.{if_live}
use Rattle.simple_policies.proofs.trivial.living.live_registers.Given as goal

abbrev pub invariant-loop-content : goal.invariant-loop-content
invariant-loop-content l = l.row ++ map (if_live (has_bit l.live l.node)) (drop l.content-index l.regs) ≡ map (if_live (has_bit l.live l.node)) l.regs
