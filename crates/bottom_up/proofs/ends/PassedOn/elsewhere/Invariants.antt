use Rattle.std.proofs.Common.{◌≡◌, ◌++◌, map, drop, None}
use Rattle.bottom_up.proofs.ends.PassedOn.elsewhere.Given as goal

abbrev pub invariant-loop-value : goal.invariant-loop-value
invariant-loop-value l = record {
  args : l.self.args.items ++ map (λ a. None) (drop l.value-index l.values) ≡ map (λ a. None) l.values;
  homes : l.self.homes.items ++ drop l.value-index l.values ≡ l.values;
}
