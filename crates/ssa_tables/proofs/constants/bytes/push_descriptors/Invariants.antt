use Rattle.std.proofs.Common.{◌≡◌, ◌++◌, ◌-◌, length}
use Rattle.std.specs.List.{flat_map}
use Rattle.ssa_lowered.specs.Pieces.{numbers}
use Rattle.ssa_tables.specs.constants.Described.{described, all_described}
use Rattle.ssa_tables.proofs.constants.bytes.push_descriptors.Given as goal

abbrev pub invariant-loop-r : goal.invariant-loop-r
invariant-loop-r l = l.bytes.items ++ flat_map (described l.types l.first) (numbers l.r (length l.types.records - l.r)) ≡ l.initial.bytes.items ++ all_described l.types l.first
