-- In both layouts nothing takes more than eight bytes a cell.
use Rattle.std.proofs.Common.{ℕ, ◌*◌, ◌≤◌, true, arith}
use Rattle.std.specs.Prelude.{slice_index}
use Rattle.ob_types.specs.Layout.{record_of, types_of, field_place}
use Rattle.ob_types.specs.Table.{Table}
use Rattle.ob_types.specs.Trees.{row_cells, wide, row_end, data_tree, fields_before, field_offset}
use Rattle.ob_types.proofs.DataTrees.{cells_are, place_is}
use Rattle.ob_types.proofs.TreeBytes.{bytes_few, few_up, row_few}
use Rattle.ssa_lowered.specs.Data.{in_cells, packed}
use Rattle.lowered_valid.specs.Claims.{IsNarrow}

pub cells_narrow : (t : Table) → IsNarrow t (in_cells t)
cells_narrow t = record { types = λ k. omega arith; fields = λ r f. omega arith }

module _ (t : Table) where
  field_narrow : (r field : ℕ) → field_offset t r field ≤ 8 * field_place t r field
  field_narrow r field =
      let before = fields_before t r field in
      let e = place_is t r field in
      let a = few_up true (wide true (data_tree t (slice_index (types_of (record_of t r).fields) field))) (row_end true before) (row_cells before) (row_few true before) in
      omega (arith, e, a)

  pub packed_narrow : IsNarrow t (packed t)
  packed_narrow = record { types = λ k. let e = cells_are t k in let a = bytes_few true (data_tree t k) in omega (arith, e, a); fields = field_narrow }
