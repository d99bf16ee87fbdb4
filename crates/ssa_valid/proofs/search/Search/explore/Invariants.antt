use Rattle.std.proofs.Common.{◌+◌, length}
use Rattle.ssa_valid.specs.Search.{marks_of}
use Rattle.ssa_valid.proofs.Exploring.{Exploring, lacking}
use Rattle.ssa_valid.proofs.search.Search.explore.Given as goal

abbrev pub invariant-loop-block : goal.invariant-loop-block
invariant-loop-block l = Exploring l.sources l.maker l.value (marks_of l.initial.self) (marks_of l.self)

abbrev pub decreases-loop-block : goal.decreases-loop-block
decreases-loop-block l = lacking l.value l.self.live + length l.self.pending.items
