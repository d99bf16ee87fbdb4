use Rattle.std.proofs.Common.{◌≤◌, max, length}
use Rattle.value_sets.specs.Words.{AreAllJoined}
use Rattle.value_sets.proofs.words.join_first.Given as goal

abbrev pub invariant-loop-at : goal.invariant-loop-at
invariant-loop-at l = AreAllJoined l.row l.at l.fn.words.items l.words.items × (length l.words.items ≤ max (length l.fn.words.items) l.count)
