use Rattle.std.proofs.Common.{◌≡◌, take}
use Rattle.trace_pool.proofs.opening.parents_of.Given as goal

abbrev pub invariant-loop-trace : goal.invariant-loop-trace
invariant-loop-trace g l = l.parents.items ≡ take l.trace (g.W.Work.parents l.work)
