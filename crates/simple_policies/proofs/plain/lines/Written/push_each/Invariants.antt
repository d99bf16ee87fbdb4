use Rattle.std.proofs.Common.{◌≡◌, ◌++◌, [], drop}
use Rattle.simple_policies.specs.plain.Plain.{loads, load_regs}
use Rattle.simple_policies.proofs.plain.lines.Written.push_each.Given as goal

abbrev pub invariant-loop-value : goal.invariant-loop-value
invariant-loop-value l = record {
  lines : l.self.lines.items ++ loads l.self.loaded.items (drop l.value-index l.values) ≡ l.initial.self.lines.items ++ loads [] l.values;
  regs : l.self.regs.items ++ load_regs l.self.loaded.items (drop l.value-index l.values) ≡ l.initial.self.regs.items ++ load_regs [] l.values;
}
