use Rattle.std.proofs.Common.{◌≡◌, map, take}
use Rattle.ssa_tables.proofs.sizes.record_sizes.Given as goal

abbrev pub invariant-loop-r : goal.invariant-loop-r
invariant-loop-r l = l.list ≡ map (λ r. r.extent.bytes) (take l.r-index l.records)
