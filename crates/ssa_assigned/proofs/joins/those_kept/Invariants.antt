use Rattle.std.proofs.Common.{◌≡◌, ◌++◌, drop}
use Rattle.std.specs.List.{filter}
use Rattle.ssa_assigned.specs.Registers.{kept}
use Rattle.ssa_assigned.proofs.joins.those_kept.Given as goal

abbrev pub invariant-loop-x : goal.invariant-loop-x
invariant-loop-x l = l.list.items ++ filter (kept l.t l.count) (drop l.x-index l.found) ≡ filter (kept l.t l.count) l.found
