use Rattle.std.proofs.Common.{◌≤◌, drop, length}
use Rattle.boundary_resolve.specs.Seats.{AreBelow, FindsSeats}
use Rattle.boundary_resolve.proofs.seats.seats.Given as goal

abbrev pub invariant-loop-i : goal.invariant-loop-i
invariant-loop-i l = record { within : l.i ≤ length l.seats.items; below : AreBelow (length l.found.items) l.seats.items; finds : FindsSeats (drop l.i l.seats.items) l.found.items }

abbrev pub decreases-loop-i : goal.decreases-loop-i
decreases-loop-i l = l.i
