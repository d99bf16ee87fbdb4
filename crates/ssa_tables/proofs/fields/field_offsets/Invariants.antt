use Rattle.std.proofs.Common.{◌≡◌, map, take}
use Rattle.ob_types.specs.Layout.{types_of}
use Rattle.ssa_tables.specs.Places.{field_starts, extent_by, base_by}
use Rattle.ssa_tables.proofs.fields.field_offsets.Given as goal

abbrev pub invariant-loop-r : goal.invariant-loop-r
invariant-loop-r l = l.list ≡ map (λ r. field_starts (extent_by l.extents) (base_by l.records r.base) (types_of r.fields)) (take l.r-index l.declared)
