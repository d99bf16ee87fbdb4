use Rattle.std.proofs.Common.{◌≤◌, drop, length}
use Rattle.boundary_resolve.specs.Before.{HasArguments}
use Rattle.boundary_resolve.proofs.moves.arguments.Given as goal

abbrev pub invariant-loop-i : goal.invariant-loop-i
invariant-loop-i l = record { in_params : l.i ≤ length l.params; in_args : l.i ≤ length l.args; has : HasArguments (drop l.i l.params) (drop l.i l.args) l.arguments }

abbrev pub decreases-loop-i : goal.decreases-loop-i
decreases-loop-i l = l.i
