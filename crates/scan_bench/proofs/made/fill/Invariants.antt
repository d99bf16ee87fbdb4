use Rattle.std.proofs.Common.{◌≤◌, ◌-◌, length}
use Rattle.scan_bench.proofs.made.fill.Given as goal

abbrev pub invariant-pieces : goal.invariant-pieces
invariant-pieces l = length l.text.items ≤ l.size

abbrev pub decreases-pieces : goal.decreases-pieces
decreases-pieces l = l.size - length l.text.items
