use Rattle.std.proofs.Common.{◌≡◌, ◌++◌, ◌-◌}
use Rattle.std.specs.Int.{to_le_bytes, w64}
use Rattle.std.specs.List.{flat_map}
use Rattle.ssa_lowered.specs.Constants.{ancestor}
use Rattle.ssa_lowered.specs.Pieces.{numbers}
use Rattle.ssa_tables.specs.constants.Described.{address_by, described}
use Rattle.ssa_tables.proofs.constants.descriptors.push_descriptor.Given as goal

abbrev pub invariant-loop-level : goal.invariant-loop-level
invariant-loop-level l = l.bytes.items ++ flat_map (λ j. to_le_bytes w64 (address_by l.first (ancestor l.types j l.r))) (numbers l.level (16 - l.level)) ≡ l.initial.bytes.items ++ described l.types l.first l.r
