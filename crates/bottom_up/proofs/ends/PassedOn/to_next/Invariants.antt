use Rattle.std.proofs.Common.{◌≡◌, ◌++◌, map, drop}
use Rattle.loc_back.specs.Steps.{no_param}
use Rattle.bottom_up.specs.Ends.{given, not_given}
use Rattle.bottom_up.proofs.ends.PassedOn.to_next.Given as goal

abbrev pub invariant-loop-i : goal.invariant-loop-i
invariant-loop-i l = record {
  args : l.self.args.items ++ given l.next.regs.now l.next.params.now l.i (drop l.i l.values) l.regs ≡ given l.next.regs.now l.next.params.now 0 l.values (map (no_param l.next.params.now) l.next.regs.now);
  homes : l.self.homes.items ++ not_given l.next.regs.now l.next.params.now l.i (drop l.i l.values) l.regs ≡ not_given l.next.regs.now l.next.params.now 0 l.values (map (no_param l.next.params.now) l.next.regs.now);
}
