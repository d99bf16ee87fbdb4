-- What lowering takes from a well-formed program about the sizes of its data.
use Rattle.std.specs.Prelude.{◌≡◌, ◌<◌, ◌≤◌, ℕ, length, true, Some, slice_get}
use Rattle.ob_types.specs.Layout.{record_of, cells, record_cells}
use Rattle.ob_types.specs.Forms.{types_fine}
use Rattle.ob_types.specs.Counted.{IsClosed}
use Rattle.ob_types.specs.Table.{Table}
use Rattle.ob_types.specs.Trees.{record_extent}
use Rattle.ob_types.specs.declared.program.Procedure.{Procedure}
use Rattle.ob_types.specs.declared.program.Program.{Program}
use Rattle.ssa_lowered.specs.Variables.{words_of}

-- no type is nested in itself, what types are made of is in the table, record types have the cells and take the bytes that they say, and no type
-- has over 2^20 cells
pub record HasSizes (t : Table) : Type 0 where
  pub fine : types_fine t ≡ true
  pub closed : IsClosed t
  pub records : (r : ℕ) → r < length t.records → (record_of t r).cells ≡ record_cells t r
  pub extents : (r : ℕ) → r < length t.records → (record_of t r).extent ≡ record_extent t r
  pub few : (k : ℕ) → k < length t.kinds → cells t k ≤ 1048576
  pub few_records : (r : ℕ) → r < length t.records → record_cells t r ≤ 1048576

-- and no procedure has over 24 argument words
pub record IsMeasured (p : Program) : Type 0 where
  pub types : HasSizes p.types
  pub words : (f : ℕ) (q : Procedure) → slice_get p.procedures f ≡ Some q → words_of q.formals ≤ 24
