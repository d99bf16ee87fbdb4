use Rattle.std.proofs.Common.{◌≡◌, map, take}
use Rattle.ssa_tables.proofs.sizes.type_sizes.Given as goal

abbrev pub invariant-loop-x : goal.invariant-loop-x
invariant-loop-x l = l.list ≡ map (λ x. x.bytes) (take l.x-index l.extents)
