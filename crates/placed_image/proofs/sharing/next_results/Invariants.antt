use Rattle.std.specs.Vec.Iter.{into_iter_items}
use Rattle.flow_allocation.proofs.Taking.{IsTaken}
use Rattle.placed_image.proofs.sharing.next_results.Given as goal

abbrev pub invariant-loop : goal.invariant-loop
invariant-loop l = IsTaken l.count l.counter l.own.items (into_iter_items l.rest) (into_iter_items l.initial.rest)
