use Rattle.std.proofs.Common.{◌+◌, length}
use Rattle.global_live.specs.Search.{marks_of}
use Rattle.global_live.proofs.Bits.{lacking}
use Rattle.global_live.proofs.Loops.{Exploring}
use Rattle.global_live.proofs.search.Search.explore.Given as goal

abbrev pub invariant-loop-number : goal.invariant-loop-number
invariant-loop-number l = Exploring l.flow l.makers l.value (marks_of l.initial.self) (marks_of l.self)

abbrev pub decreases-loop-number : goal.decreases-loop-number
decreases-loop-number l = lacking l.value l.self.rows + length l.self.pending.items
