use Rattle.std.proofs.Common.{length}
use Rattle.parallel_move.specs.Writers.{writer_of}
use Rattle.parallel_move.specs.Entries.{AreWriters, AreNew}
use Rattle.parallel_move.proofs.ordering.entries_of.Given as goal

abbrev pub invariant-loop-m : goal.invariant-loop-m
invariant-loop-m l = AreWriters l.moves (length l.moves) (writer_of l.writers) → AreNew l.moves l.m-index l.entries.items
