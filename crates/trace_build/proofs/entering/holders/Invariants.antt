use Rattle.std.proofs.Common.{◌≡◌, ◌≤◌, length, drop, replicate}
use Rattle.trace_build.specs.Parents.{holders_from}
use Rattle.trace_build.proofs.entering.holders.Given as goal

abbrev pub invariant-loop-number : goal.invariant-loop-number
invariant-loop-number l = (l.number ≤ length l.traces) × (l.holders.items ≡ holders_from l.number (drop l.number l.traces) (replicate l.nodes (length l.traces)))

abbrev pub decreases-loop-number : goal.decreases-loop-number
decreases-loop-number l = l.number
