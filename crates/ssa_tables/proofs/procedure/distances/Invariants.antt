use Rattle.std.proofs.Common.{◌≡◌, map, take}
use Rattle.ssa_tables.specs.Local.{distance}
use Rattle.ssa_tables.proofs.procedure.distances.Given as goal

abbrev pub invariant-loop-v : goal.invariant-loop-v
invariant-loop-v l = l.list ≡ map (λ v. distance l.locals.bytes v.place) (take l.v-index l.variables)
