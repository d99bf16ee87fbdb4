use Rattle.std.proofs.Common.{◌≡◌, ◌++◌, drop}
use Rattle.ssa_statements.specs.walk.Rungs.{coded_cases}
use Rattle.ssa_statements.proofs.walk.rungs.of_cases.Given as goal

abbrev pub invariant-loop-part : goal.invariant-loop-part
invariant-loop-part l = l.list.items ++ coded_cases l.part (drop l.part l.parts) ≡ coded_cases 0 l.parts
