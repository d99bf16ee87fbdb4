use Rattle.std.proofs.Common.{◌≡◌, ◌++◌, drop, map, filter}
use Rattle.parallel_move.specs.Order.{is_moving, copied}
use Rattle.boundary_resolve.specs.declared.code_line.CodeLine.TheVariants.{Edge}
use Rattle.boundary_resolve.proofs.code.push_copies.Given as goal

abbrev pub invariant-loop-m : goal.invariant-loop-m
invariant-loop-m l = l.placed.items ++ map Edge (map copied (filter is_moving (drop l.m-index l.moves))) ≡ l.initial.placed.items ++ map Edge (map copied (filter is_moving l.moves))
