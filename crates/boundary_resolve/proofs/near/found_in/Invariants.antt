use Rattle.std.proofs.Common.{◌≡◌, drop}
use Rattle.boundary_resolve.specs.Moves.{register_of}
use Rattle.boundary_resolve.proofs.near.found_in.Given as goal

abbrev pub invariant-loop-register : goal.invariant-loop-register
invariant-loop-register l = register_of (drop l.register l.regs) l.register l.value ≡ register_of l.regs 0 l.value
