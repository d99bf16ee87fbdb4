use Rattle.std.proofs.Common.{◌≡◌, ◌++◌, map, filter, take, drop}
use Rattle.parallel_move.specs.Order.{is_moving, copied, order_of}
use Rattle.parallel_move.proofs.front.leading.Given as goal

abbrev pub invariant-loop-i : goal.invariant-loop-i
invariant-loop-i l = order_of l.moves ≡ map copied (filter is_moving (take l.i l.moves)) ++ order_of (drop l.i l.moves)
