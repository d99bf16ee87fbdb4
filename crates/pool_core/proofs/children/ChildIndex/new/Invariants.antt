use Rattle.std.proofs.Common.{◌≤◌, length}
use Rattle.pool_core.specs.Chains.{IsIndexFrom}
use Rattle.pool_core.proofs.children.ChildIndex.new.Given as goal

abbrev pub invariant-loop-trace : goal.invariant-loop-trace
invariant-loop-trace l = record {
  within : l.trace ≤ length l.parents.items;
  entered : IsIndexFrom l.trace l.parents.items l.first.items l.next.items;
}

abbrev pub decreases-loop-trace : goal.decreases-loop-trace
decreases-loop-trace l = l.trace
