use Rattle.std.proofs.Common.{◌≡◌, length}
use Rattle.value_sets.specs.Words.{AreKept}
use Rattle.value_sets.proofs.words.keep.Given as goal

abbrev pub invariant-loop-at : goal.invariant-loop-at
invariant-loop-at l = AreKept l.others l.at l.fn.words.items l.words.items × (length l.words.items ≡ length l.fn.words.items)
