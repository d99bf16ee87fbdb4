use Rattle.std.proofs.Common.{◌≡◌, ◌++◌, drop}
use Rattle.boundary_resolve.specs.Moves.{home_moves}
use Rattle.boundary_resolve.specs.Before.{HasFew, Rises, place_before, stays_before}
use Rattle.boundary_resolve.proofs.moves.push_homes.Given as goal

abbrev pub invariant-loop-value : goal.invariant-loop-value
invariant-loop-value l = record {
  finder : l.finder ≡ l.before.homed.now;
  pushed : HasFew l.before → Rises l.before → l.moves.items ++ home_moves (stays_before l.before) (place_before l.before) (drop l.value-index l.homed) ≡ l.initial.moves.items ++ home_moves (stays_before l.before) (place_before l.before) l.homed;
}
