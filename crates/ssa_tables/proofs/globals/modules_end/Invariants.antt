use Rattle.std.proofs.Common.{◌≡◌, drop}
use Rattle.ssa_tables.specs.Places.{module_finish, room_by}
use Rattle.ssa_tables.proofs.globals.modules_end.Given as goal

abbrev pub invariant-loop-m : goal.invariant-loop-m
invariant-loop-m l = module_finish (room_by l.sizes) l.at (drop l.m-index l.modules) ≡ module_finish (room_by l.sizes) l.first l.modules
