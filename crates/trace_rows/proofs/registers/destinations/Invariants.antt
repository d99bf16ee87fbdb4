use Rattle.std.proofs.Common.{◌≡◌, ◌++◌, drop}
use Rattle.std.specs.Prelude.{flat_map}
use Rattle.trace_rows.specs.Registers.{register_to}
use Rattle.trace_rows.proofs.registers.destinations.Given as goal

abbrev pub invariant-loop-next : goal.invariant-loop-next
invariant-loop-next l = l.list ++ flat_map register_to (drop l.next-index l.moves) ≡ flat_map register_to l.moves
