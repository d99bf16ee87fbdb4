use Rattle.std.proofs.Common.{◌≡◌, ◌≤◌, drop}
use Rattle.ob_scan.specs.Words.{value_from}
use Rattle.ob_scan.proofs.numbers.value_of.Given as goal

abbrev pub invariant-loop-b : goal.invariant-loop-b
invariant-loop-b l = record {
  same : value_from l.base l.value (drop l.b-index l.digits) ≡ value_from l.base 0 l.digits;
  small : l.value ≤ l.most;
}
