use Rattle.std.proofs.Common.{◌-◌, ◌<◌, ◌∙◌, length, arith, Some}
use Rattle.std.proofs.lemmas.List.{length-set, get_or_default}
use Rattle.boundary_resolve.specs.Seats.{no_seat}
use Rattle.boundary_resolve.proofs.Seated.{seat_found}
use Rattle.boundary_resolve.proofs.seats.seats.Goals as goal

pub loop-i-preserved : goal.loop-i-preserved
loop-i-preserved c = record {
  within = omega (arith, c.loop-i.invariant.within);
  below = λ k l.
      let low = c.loop-i.invariant.below k l in
      let same = length-set c.loop-i.found.items c.index-seat.result.now.node (Some c.index-seat.result.now) in
      omega (arith, low, same);
  finds =
      let low : c.loop-i.i - 1 < length c.in_ok-seats.seats.items = omega (arith, c.loop-i.invariant.within) in
      seat_found c.in_ok-seats.seats.items c.loop-i.i (c.loop-i.i - 1) c.index-seat.result.now c.loop-i.found.items c.loop-i.invariant.finds c.loop-i.invariant.below (omega arith) low
      (c.index-seat.ensures ∙ get_or_default c.in_ok-seats.seats.items (c.loop-i.i - 1) c.index-seat.result.now no_seat low);
}
