use Rattle.std.proofs.Common.{◌≡◌, drop}
use Rattle.lir_core.specs.Lines.{argument_spots}
use Rattle.alloc_audit.specs.Tests.{stand}
use Rattle.alloc_audit.specs.Holdings.{holdings_of, view_at}
use Rattle.alloc_audit.proofs.walk.Walk.arguments_have.Given as goal

abbrev pub invariant-loop-at : goal.invariant-loop-at
invariant-loop-at l = stand (view_at (holdings_of l.self)) (argument_spots l.at (drop l.at l.arguments)) (drop l.at l.arguments) ≡ stand (view_at (holdings_of l.self)) (argument_spots 0 l.arguments) l.arguments
