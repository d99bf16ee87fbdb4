use Rattle.parallel_move.proofs.Along.{IsFreed}
use Rattle.parallel_move.proofs.ordering.make_free.Given as goal

abbrev pub invariant-loop-i : goal.invariant-loop-i
invariant-loop-i l = IsFreed l.i l.initial.entries l.initial.steps.items l.entries l.steps.items
