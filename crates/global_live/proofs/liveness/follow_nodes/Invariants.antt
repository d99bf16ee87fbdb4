use Rattle.global_live.specs.Search.{marks_of, Fills}
use Rattle.global_live.proofs.liveness.follow_nodes.Given as goal

abbrev pub invariant-loop-number : goal.invariant-loop-number
invariant-loop-number l = Fills l.flow l.makers l.number (marks_of l.initial.search) (marks_of l.search)
