use Rattle.std.proofs.Common.{◌≡◌, ◌++◌, drop}
use Rattle.simple_policies.specs.plain.Plain.{lirs_lines, lirs_regs}
use Rattle.simple_policies.proofs.plain.lines.Written.write.Given as goal

abbrev pub invariant-loop-i : goal.invariant-loop-i
invariant-loop-i l = record {
  lines : l.self.lines.items ++ lirs_lines l.i (drop l.i l.node.lirs) ≡ lirs_lines 0 l.node.lirs;
  regs : l.self.regs.items ++ lirs_regs (drop l.i l.node.lirs) ≡ lirs_regs l.node.lirs;
}
