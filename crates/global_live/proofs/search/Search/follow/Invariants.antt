use Rattle.std.proofs.Common.{take}
use Rattle.global_live.specs.Search.{marks_of, Reaches}
use Rattle.global_live.proofs.search.Search.follow.Given as goal

abbrev pub invariant-loop-value : goal.invariant-loop-value
invariant-loop-value l = Reaches l.flow l.makers l.number (take l.value-index l.values) (marks_of l.initial.self) (marks_of l.self)
