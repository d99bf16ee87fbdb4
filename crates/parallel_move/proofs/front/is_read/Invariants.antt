use Rattle.std.proofs.Common.{◌≡◌, map, drop}
use Rattle.lir_core.specs.Spots.{spot}
use Rattle.parallel_move.specs.Order.{is_source, pending}
use Rattle.parallel_move.proofs.front.is_read.Given as goal

abbrev pub invariant-loop-m : goal.invariant-loop-m
invariant-loop-m l = is_source (map pending l.moves) (spot l.place) ≡ is_source (map pending (drop l.m-index l.moves)) (spot l.place)
