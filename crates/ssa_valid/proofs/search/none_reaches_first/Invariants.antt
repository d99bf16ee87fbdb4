use Rattle.ssa_valid.specs.Search.{marks_of}
use Rattle.ssa_valid.proofs.Exploring.{Settling}
use Rattle.ssa_valid.proofs.search.none_reaches_first.Given as goal

abbrev pub invariant-loop-value : goal.invariant-loop-value
invariant-loop-value l = Settling l.sources l.readers l.makers (marks_of l.initial.search) l.value (marks_of l.search)
