use Rattle.parallel_move.proofs.Along.{IsBroken}
use Rattle.parallel_move.proofs.ordering.break_cycles.Given as goal

abbrev pub invariant-loop-i : goal.invariant-loop-i
invariant-loop-i l = IsBroken l.i l.initial.entries l.initial.steps.items l.entries l.steps.items
