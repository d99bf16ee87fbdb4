use Rattle.std.proofs.Common.{length}
use Rattle.parallel_move.specs.Entries.{left}
use Rattle.parallel_move.proofs.Along.{IsAlong}
use Rattle.parallel_move.proofs.ordering.make_along.Given as goal

abbrev pub invariant-loop-i : goal.invariant-loop-i
invariant-loop-i l = IsAlong l.initial.next l.next l.bound l.initial.entries l.initial.steps.items l.entries l.steps.items

abbrev pub decreases-loop-i : goal.decreases-loop-i
decreases-loop-i l = length (left l.entries)
