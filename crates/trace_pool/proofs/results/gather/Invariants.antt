use Rattle.std.proofs.Common.{length}
use Rattle.trace_pool.specs.Ends.{AreFinalBelow}
use Rattle.trace_pool.proofs.Gathered.{Left}
use Rattle.trace_pool.proofs.results.gather.Given as goal

abbrev pub invariant-loop-found : goal.invariant-loop-found
invariant-loop-found g l = record {
  finals : AreFinalBelow (g.W.Work.is_final l.work) l.trace l.finals.items;
  left : Left (g.W.Work.is_final l.work) (length (g.W.Work.parents l.work)) l.trace l.found-iterator.rest.items;
}
