use Rattle.std.proofs.Common.{◌≡◌}
use Rattle.sum_tree.specs.Values.{mixed}
use Rattle.sum_tree.proofs.own.Given as goal

abbrev pub invariant-loop : goal.invariant-loop
invariant-loop l = l.value ≡ mixed l.counter l.trace
