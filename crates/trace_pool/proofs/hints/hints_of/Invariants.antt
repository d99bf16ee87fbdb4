use Rattle.std.proofs.Common.{◌≡◌, ◌-◌, ◌≤◌, length, take}
use Rattle.std.specs.Prelude.{slice_get}
use Rattle.pool_core.specs.Tree.{children}
use Rattle.trace_pool.specs.Sits.{HintsFit}
use Rattle.trace_pool.proofs.hints.hints_of.Given as goal

abbrev pub invariant-loop-next : goal.invariant-loop-next
invariant-loop-next g l = record {
  within : length l.hints.items ≤ length (children (g.W.Work.parents l.work) l.trace);
  fits : HintsFit (g.W.Work.is_hint l.work) (take (length l.hints.items) (children (g.W.Work.parents l.work) l.trace)) l.hints.items;
  next_is : l.next ≡ slice_get (children (g.W.Work.parents l.work) l.trace) (length l.hints.items);
}

abbrev pub decreases-loop-next : goal.decreases-loop-next
decreases-loop-next g l = length (children (g.W.Work.parents l.work) l.trace) - length l.hints.items
