use Rattle.std.proofs.Common.{◌≡◌, drop}
use Rattle.ssa_tables.specs.Local.{structured_size}
use Rattle.ssa_tables.specs.Places.{finish}
use Rattle.ssa_tables.proofs.locals.structured_finish.Given as goal

abbrev pub invariant-loop-v : goal.invariant-loop-v
invariant-loop-v l = finish (structured_size l.types l.sizes) l.at (drop l.v-index l.list) ≡ finish (structured_size l.types l.sizes) 0 l.list
