use Rattle.std.proofs.Common.{◌≡◌, drop}
use Rattle.lir_core.specs.Spots.{argument_of}
use Rattle.boundary_resolve.proofs.moves.argument_of.Given as goal

abbrev pub invariant-loop-i : goal.invariant-loop-i
invariant-loop-i l = argument_of l.params l.args l.value ≡ argument_of (drop l.i l.params) (drop l.i l.args) l.value
