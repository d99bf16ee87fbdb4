use Rattle.std.proofs.Common.{◌≡◌, ◌++◌, drop}
use Rattle.std.specs.Prelude.{flat_map}
use Rattle.trace_rows.specs.Places.{next_move}
use Rattle.trace_rows.proofs.places.put_next_moves.Given as goal

abbrev pub invariant-loop-next : goal.invariant-loop-next
invariant-loop-next l = l.text.items ++ flat_map next_move (drop l.next-index l.moves) ≡ l.initial.text.items ++ flat_map next_move l.moves
