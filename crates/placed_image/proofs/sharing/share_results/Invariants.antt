use Rattle.std.proofs.Common.{map, drop}
use Rattle.std.specs.Vec.Iter.{into_iter_items}
use Rattle.flow_allocation.specs.Allocations.{items_of}
use Rattle.placed_image.specs.Shares.{cuts_of}
use Rattle.placed_image.proofs.Taken.{AreShared}
use Rattle.placed_image.proofs.sharing.share_results.Given as goal

abbrev pub invariant-loop-at : goal.invariant-loop-at
invariant-loop-at l =
    AreShared (cuts_of l.flows (map (λ v. v.items) l.cuts) (into_iter_items l.initial.rest)) l.at
    (cuts_of (drop l.at l.flows) (drop l.at (map (λ v. v.items) l.cuts)) (into_iter_items l.rest)) (items_of l.shares.outs) (items_of l.shares.parts)
