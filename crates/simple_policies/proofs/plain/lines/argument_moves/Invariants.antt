use Rattle.std.proofs.Common.{◌≡◌, ◌++◌, drop}
use Rattle.simple_policies.specs.plain.Plain.{argument_moves}
use Rattle.simple_policies.proofs.plain.lines.argument_moves.Given as goal

abbrev pub invariant-loop-i : goal.invariant-loop-i
invariant-loop-i l = l.moves.items ++ argument_moves l.i (drop l.i l.values) ≡ argument_moves 0 l.values
