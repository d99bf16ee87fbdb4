use Rattle.std.proofs.Common.{◌≡◌, zero, ◌≤◌, ◌-◌, length, drop}
use Rattle.ob_scan.specs.Steps.{close}
use Rattle.ob_scan.proofs.blanks.comment_end.Given as goal

abbrev pub invariant-bytes : goal.invariant-bytes
invariant-bytes l = record {
  rest : close l.others (drop l.i l.bytes) ≡ close zero (drop l.from l.bytes);
  low : l.from ≤ l.i;
  high : l.i ≤ length l.bytes;
  few : l.others ≤ l.i;
}

abbrev pub decreases-bytes : goal.decreases-bytes
decreases-bytes l = length l.bytes - l.i
