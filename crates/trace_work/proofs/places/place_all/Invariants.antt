use Rattle.std.proofs.Common.{◌≡◌, drop}
use Rattle.trace_work.specs.Places.{placed_in}
use Rattle.trace_work.proofs.places.place_all.Given as goal

abbrev pub invariant-loop-at : goal.invariant-loop-at
invariant-loop-at l = placed_in l.at (drop l.at l.nodes) l.places ≡ placed_in 0 l.nodes l.initial.places
