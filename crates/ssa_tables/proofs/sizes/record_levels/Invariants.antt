use Rattle.std.proofs.Common.{◌≡◌, map, take}
use Rattle.ssa_tables.proofs.sizes.record_levels.Given as goal

abbrev pub invariant-loop-r : goal.invariant-loop-r
invariant-loop-r l = l.list ≡ map (λ r. r.level) (take l.r-index l.records)
