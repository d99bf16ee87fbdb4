use Rattle.std.proofs.Common.{◌≤◌, ◌-◌, length, drop}
use Rattle.ob_scan.specs.Steps.{Passing, in_class}
use Rattle.ob_scan.proofs.classes.class_end.Given as goal

abbrev pub invariant-bytes : goal.invariant-bytes
invariant-bytes l = record {
  rest : Passing (in_class l.class) (drop l.from l.bytes) (drop l.i l.bytes);
  low : l.from ≤ l.i;
  high : l.i ≤ length l.bytes;
}

abbrev pub decreases-bytes : goal.decreases-bytes
decreases-bytes l = length l.bytes - l.i
