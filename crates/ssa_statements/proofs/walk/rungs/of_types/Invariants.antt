use Rattle.std.proofs.Common.{◌≡◌, ◌++◌, drop}
use Rattle.ssa_statements.specs.walk.Rungs.{coded_types}
use Rattle.ssa_statements.proofs.walk.rungs.of_types.Given as goal

abbrev pub invariant-loop-part : goal.invariant-loop-part
invariant-loop-part l = l.list.items ++ coded_types l.kind l.part (drop l.part l.parts) ≡ coded_types l.kind 0 l.parts
