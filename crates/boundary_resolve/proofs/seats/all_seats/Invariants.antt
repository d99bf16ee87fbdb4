use Rattle.std.proofs.Common.{◌≡◌, ◌++◌, drop}
use Rattle.boundary_resolve.specs.Placing.{seats_from}
use Rattle.boundary_resolve.proofs.seats.all_seats.Given as goal

abbrev pub invariant-loop-number : goal.invariant-loop-number
invariant-loop-number l = l.seats.items ++ seats_from l.number (drop l.number l.traces) ≡ seats_from 0 l.traces
