use Rattle.std.proofs.Common.{◌≡◌, ◌++◌, drop}
use Rattle.boundary_resolve.specs.Placing.{seats_in}
use Rattle.boundary_resolve.proofs.seats.push_seats.Given as goal

abbrev pub invariant-loop-at : goal.invariant-loop-at
invariant-loop-at l = l.seats.items ++ seats_in l.trace l.at (drop l.at l.nodes) ≡ l.initial.seats.items ++ seats_in l.trace 0 l.nodes
