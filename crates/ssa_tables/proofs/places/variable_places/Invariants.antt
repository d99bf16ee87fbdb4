use Rattle.std.proofs.Common.{◌≡◌, ◌++◌, drop}
use Rattle.ssa_tables.specs.Places.{starts, room_by}
use Rattle.ssa_tables.proofs.places.variable_places.Given as goal

abbrev pub invariant-loop-k : goal.invariant-loop-k
invariant-loop-k l = l.list ++ starts (room_by l.sizes) l.at (drop l.k-index l.types) ≡ starts (room_by l.sizes) l.first l.types
