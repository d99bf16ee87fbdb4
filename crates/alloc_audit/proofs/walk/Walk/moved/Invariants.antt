use Rattle.std.proofs.Common.{◌≡◌, true, Some, map, take}
use Rattle.std.specs.List.{list_all}
use Rattle.lir_core.specs.Spots.{spot}
use Rattle.alloc_audit.specs.Tests.{can_move}
use Rattle.alloc_audit.specs.Holdings.{holdings_of, view_at, room_in}
use Rattle.alloc_audit.proofs.walk.Walk.moved.Given as goal

abbrev pub invariant-loop-m : goal.invariant-loop-m
invariant-loop-m l = record {
  all : list_all (can_move (room_in l.values l.self) (view_at (holdings_of l.self))) (take l.m-index l.moves) ≡ true;
  values : map Some l.found.items ≡ map (λ m. view_at (holdings_of l.self) (spot m.from)) (take l.m-index l.moves);
}
