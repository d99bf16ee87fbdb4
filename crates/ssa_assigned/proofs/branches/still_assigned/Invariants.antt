use Rattle.std.proofs.Common.{◌≡◌, ◌++◌, drop, slice_index}
use Rattle.std.specs.Prelude.{nat_lt}
use Rattle.std.specs.List.{filter}
use Rattle.ssa_assigned.proofs.branches.still_assigned.Given as goal

abbrev pub invariant-loop-x : goal.invariant-loop-x
invariant-loop-x l = l.list.items ++ filter (λ x. nat_lt l.number (slice_index l.lasting x)) (drop l.x-index l.variables) ≡ filter (λ x. nat_lt l.number (slice_index l.lasting x)) l.variables
