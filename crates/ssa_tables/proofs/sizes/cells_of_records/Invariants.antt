use Rattle.std.proofs.Common.{◌≡◌, map, take}
use Rattle.ssa_tables.proofs.sizes.cells_of_records.Given as goal

abbrev pub invariant-loop-r : goal.invariant-loop-r
invariant-loop-r l = l.list ≡ map (λ r. r.cells) (take l.r-index l.records)
