use Rattle.std.proofs.Common.{◌≡◌, drop, replicate}
use Rattle.ssa_build.specs.Blocks.{placed_at}
use Rattle.ssa_build.proofs.finish.places.Given as goal

abbrev pub invariant-loop-x : goal.invariant-loop-x
invariant-loop-x l = placed_at (drop l.x-index l.bounds) l.list.items ≡ placed_at l.bounds (replicate l.labels 0)
