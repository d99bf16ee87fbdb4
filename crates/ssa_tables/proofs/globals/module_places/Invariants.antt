use Rattle.std.proofs.Common.{◌≡◌, ◌++◌, drop}
use Rattle.ssa_tables.specs.Places.{module_starts, room_by}
use Rattle.ssa_tables.proofs.globals.module_places.Given as goal

abbrev pub invariant-loop-m : goal.invariant-loop-m
invariant-loop-m l = l.list ++ module_starts (room_by l.sizes) l.at (drop l.m-index l.modules) ≡ module_starts (room_by l.sizes) l.first l.modules
