use Rattle.std.proofs.Common.{◌≡◌, ◌++◌, length, take, drop}
use Rattle.std.specs.Vec.Iter.{into_iter_items}
use Rattle.flow_allocation.specs.Allocations.{items_of}
use Rattle.flow_allocation.specs.Sharing.{shares, HaveLines}
use Rattle.flow_allocation.proofs.allocating.share.Given as goal

abbrev pub invariant-loop-plan : goal.invariant-loop-plan
invariant-loop-plan l = record {
  end : l.plan-index-end ≡ length l.plans;
  outs : items_of l.shared.outs ++ shares (drop l.plan-index l.plans) (into_iter_items l.rest) ≡ shares l.plans (into_iter_items l.initial.rest);
  lines : HaveLines (take l.plan-index l.plans) (items_of l.shared.outs) (items_of l.shared.parts);
}
