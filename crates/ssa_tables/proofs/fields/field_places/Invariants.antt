use Rattle.std.proofs.Common.{◌≡◌, ◌++◌, drop}
use Rattle.ob_types.specs.Layout.{types_of}
use Rattle.ssa_tables.specs.Places.{field_starts, extent_by}
use Rattle.ssa_tables.proofs.fields.field_places.Given as goal

abbrev pub invariant-loop-f : goal.invariant-loop-f
invariant-loop-f l = l.list ++ field_starts (extent_by l.extents) l.at (types_of (drop l.f-index l.fields)) ≡ field_starts (extent_by l.extents) l.first (types_of l.fields)
