use Rattle.std.proofs.Common.{◌≡◌, drop}
use Rattle.ssa_tables.specs.Places.{finish, room_by}
use Rattle.ssa_tables.proofs.places.variables_end.Given as goal

abbrev pub invariant-loop-k : goal.invariant-loop-k
invariant-loop-k l = finish (room_by l.sizes) l.at (drop l.k-index l.types) ≡ finish (room_by l.sizes) l.first l.types
