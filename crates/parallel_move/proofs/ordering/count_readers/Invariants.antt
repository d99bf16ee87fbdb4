use Rattle.parallel_move.specs.Entries.{AreCounted}
use Rattle.parallel_move.proofs.ordering.count_readers.Given as goal

abbrev pub invariant-loop-i : goal.invariant-loop-i
invariant-loop-i l = AreCounted l.i l.initial.entries l.entries
