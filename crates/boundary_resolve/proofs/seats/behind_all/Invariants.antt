use Rattle.std.proofs.Common.{ℕ, ◌<◌, get_or}
use Rattle.boundary_resolve.specs.Seats.{no_seat}
use Rattle.boundary_resolve.proofs.seats.behind_all.Given as goal

abbrev pub invariant-loop-seat : goal.invariant-loop-seat
invariant-loop-seat l = (k : ℕ) → k < l.seat-index → (get_or l.seats k no_seat).node < l.behind
