use Rattle.std.proofs.Common.{take}
use Rattle.boundary_resolve.specs.Before.{HasHomes}
use Rattle.boundary_resolve.proofs.moves.set_of.Given as goal

abbrev pub invariant-loop-value : goal.invariant-loop-value
invariant-loop-value l = HasHomes (take l.value-index l.values) l.set
