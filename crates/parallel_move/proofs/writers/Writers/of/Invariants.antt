use Rattle.parallel_move.specs.Writers.{writer_of}
use Rattle.parallel_move.specs.Entries.{AreWriters}
use Rattle.parallel_move.proofs.writers.Writers.of.Given as goal

abbrev pub invariant-loop-i : goal.invariant-loop-i
invariant-loop-i l = AreWriters l.moves l.i (writer_of l.writers)
