use Rattle.std.proofs.Common.{◌≡◌, ◌++◌, drop}
use Rattle.trace_needs.specs.Asked.{need_told}
use Rattle.linear_scan.specs.Policy.{needed_in}
use Rattle.linear_scan.proofs.policy.needed_in.Given as goal

abbrev pub invariant-loop-content : goal.invariant-loop-content
invariant-loop-content l = l.values.items ++ needed_in (need_told l.positions) l.at (drop l.content-index l.regs) ≡ needed_in (need_told l.positions) l.at l.regs
