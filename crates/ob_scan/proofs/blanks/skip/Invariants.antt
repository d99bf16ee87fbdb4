use Rattle.std.proofs.Common.{◌≤◌, ◌-◌, length, drop}
use Rattle.ob_scan.specs.Steps.{Skipped}
use Rattle.ob_scan.proofs.blanks.skip.Given as goal

abbrev pub invariant-bytes : goal.invariant-bytes
invariant-bytes l = record {
  rest : Skipped (drop l.at l.bytes) (drop l.i l.bytes);
  low : l.at ≤ l.i;
  high : l.i ≤ length l.bytes;
}

abbrev pub decreases-bytes : goal.decreases-bytes
decreases-bytes l = length l.bytes - l.i
