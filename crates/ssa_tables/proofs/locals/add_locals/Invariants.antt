use Rattle.std.proofs.Common.{◌≡◌, ◌++◌, map, take, None}
use Rattle.ssa_tables.specs.Local.{pair_of}
use Rattle.ssa_tables.proofs.locals.add_locals.Given as goal

abbrev pub invariant-loop-k : goal.invariant-loop-k
invariant-loop-k l = map pair_of l.list.items ≡ map pair_of l.initial.list.items ++ map (λ k. (k, None)) (take l.k-index l.types)
