use Rattle.std.proofs.Common.{◌≡◌, ◌++◌, drop}
use Rattle.std.specs.Prelude.{flat_map}
use Rattle.trace_rows.specs.Places.{homed_to}
use Rattle.trace_rows.proofs.places.put_all_homed.Given as goal

abbrev pub invariant-loop-next : goal.invariant-loop-next
invariant-loop-next l = l.text.items ++ flat_map homed_to (drop l.next-index l.moves) ≡ l.initial.text.items ++ flat_map homed_to l.moves
