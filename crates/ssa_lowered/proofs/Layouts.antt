-- Both layouts are by the trees of types, and what each layout by trees has.
use Rattle.std.proofs.Common.{◌≡◌, ℕ, zero, suc, ◌+◌, ◌*◌, ◌<◌, ◌≤◌, List, [], ◌∷◌, take, drop, Bool, true, false, ◌&&◌, Option, Some, refl, sym, ap, ◌∙◌, arith}
use Rattle.std.specs.Prelude.{◌/◌, ◌%◌, slice_get, slice_index}
use Rattle.ob_types.specs.Forms.{Form, scalar_form, form_or_zero, types_fine}
use Rattle.ob_types.specs.Layout.{kind_of, record_of, types_of, cells}
use Rattle.ob_types.specs.Table.{Table}
use Rattle.ob_types.specs.Trees.{DataTree, Record, FieldRow, Field, fits_byte, scalar_bytes, round_up, wide, row_wide, tree_bytes, row_end, base_row, with_fields, data_tree, record_row, fields_before}
use Rattle.ob_types.specs.declared.types.TypeKind.TheVariants.{Array as ArrayOf, Record as RecordOf}
use Rattle.ob_types.proofs.DataTrees.{cells_are, record_cells_are, place_is, row_is, array_data_tree, record_data_tree, scalar_data_tree}
use Rattle.ob_types.proofs.Tests.{none_some, some_same}
use Rattle.ob_types.proofs.TreeBytes.{up_above, bytes_few, few_words, eight, field_eight}
use Rattle.ssa_lowered.specs.Data.{Layout, in_cells, packed, rounded, IsLayout}

pub cells_by_trees : (t : Table) → IsLayout false t (in_cells t)
cells_by_trees t = record {
  bytes = λ k. let a = cells_are t k in let b = eight (data_tree t k) in omega (arith, a, b);
  record_bytes = λ r. let a = record_cells_are t r in let b = eight (Record (record_row t r)) in omega (arith, a, b);
  offset = λ r n. let a = place_is t r n in let b = field_eight (fields_before t r n) (data_tree t (slice_index (types_of (record_of t r).fields) n)) in omega (arith, a, b);
  is_small = λ kind. refl;
  character = refl;
}

pub packed_by_trees : (t : Table) → IsLayout true t (packed t)
packed_by_trees t = record { bytes = λ k. refl; record_bytes = λ r. refl; offset = λ r n. refl; is_small = λ kind. refl; character = refl }

---- Rows of fields

index_is : (ks : List ℕ) (n k : ℕ) → slice_get ks n ≡ Some k → slice_index ks n ≡ k
index_is [] n k at = none_some k at
index_is (j ∷ ks) zero k at = some_same j k at
index_is (j ∷ ks) (suc n) k at = index_is ks n k at

-- one of the first m is one of all
get_taken : (ks : List ℕ) (n m k : ℕ) → n < m → slice_get ks n ≡ Some k → slice_get (take m ks) n ≡ Some k
get_taken [] n m k lt at = none_some k at
get_taken (j ∷ ks) n zero k lt at = absurd (omega (arith, lt))
get_taken (j ∷ ks) zero (suc m) k lt at = at
get_taken (j ∷ ks) (suc n) (suc m) k lt at = get_taken ks n m k (omega (arith, lt)) at

take_taken : (ks : List ℕ) (n m : ℕ) → n < m → take n (take m ks) ≡ take n ks
take_taken ks zero m lt = refl
take_taken ks (suc n) zero lt = absurd (omega (arith, lt))
take_taken [] (suc n) (suc m) lt = refl
take_taken (j ∷ ks) (suc n) (suc m) lt = ap (λ js. j ∷ js) (take_taken ks n m (omega (arith, lt)))

-- what is before a field, that field, and what is behind it
split_at : (f : ℕ → DataTree) (row : FieldRow) (ks : List ℕ) (n k : ℕ) → slice_get ks n ≡ Some k → with_fields f row ks ≡ with_fields f (Field (with_fields f row (take n ks)) (f k)) (drop (suc n) ks)
split_at f row [] n k at = none_some k at
split_at f row (j ∷ ks) zero k at = ap (λ i. with_fields f (Field row (f i)) ks) (some_same j k at)
split_at f row (j ∷ ks) (suc n) k at = split_at f (Field row (f j)) ks n k at

module _ (w : Bool) where
  rise : (f : ℕ → DataTree) (row : FieldRow) (ks : List ℕ) → row_end w row ≤ row_end w (with_fields f row ks)
  rise f row [] = omega arith
  rise f row (k ∷ ks) =
      let a = up_above (wide w (f k)) (row_end w row) in
      let b = rise f (Field row (f k)) ks in
      omega (arith, a, b)

  -- the fields with one of them end behind it
  ends_behind : (f : ℕ → DataTree) (row : FieldRow) (ks : List ℕ) (n k : ℕ) → slice_get ks n ≡ Some k
      → round_up (wide w (f k)) (row_end w (with_fields f row (take n ks))) + tree_bytes w (f k) ≤ row_end w (with_fields f row ks)
  ends_behind f row ks n k at =
      let e = ap (λ r. row_end w r) (split_at f row ks n k at) in
      let a = rise f (Field (with_fields f row (take n ks)) (f k)) (drop (suc n) ks) in
      omega (arith, e, a)

  base_before : (o : Option ℕ) (b : ℕ) (rows : ℕ → FieldRow) → o ≡ Some b → row_end w (base_row o rows) ≡ round_up (row_wide w (rows b)) (row_end w (rows b))
  base_before o b rows e = ap (λ o. row_end w (base_row o rows)) e

---- Layouts by trees

module _ (w : Bool) (t : Table) (l : Layout) (is : IsLayout w t l) where
  offset_at : (r n k : ℕ) → slice_get (types_of (record_of t r).fields) n ≡ Some k → l.offset r n ≡ round_up (wide w (data_tree t k)) (row_end w (fields_before t r n))
  offset_at r n k at = is.offset r n ∙ ap (λ i. round_up (wide w (data_tree t i)) (row_end w (fields_before t r n))) (index_is (types_of (record_of t r).fields) n k at)

  -- the fields before one, with those of the base
  before_is : (r n : ℕ) → fields_before t r n ≡ with_fields (data_tree t) (base_row (record_of t r).base (record_row t)) (take n (types_of (record_of t r).fields))
  unfolding fields_before
  before_is r n = refl

  pub fields_apart : (r n m k : ℕ) → n < m → slice_get (types_of (record_of t r).fields) n ≡ Some k → l.offset r n + l.bytes k ≤ l.offset r m
  fields_apart r n m k lt at =
      let ks = types_of (record_of t r).fields in
      let row = base_row (record_of t r).base (record_row t) in
      let a = offset_at r n k at in
      let b = is.bytes k in
      let c = is.offset r m in
      let d = up_above (wide w (data_tree t (slice_index ks m))) (row_end w (fields_before t r m)) in
      let e = ap (λ x. row_end w x) (before_is r m) in
      let g = ap (λ x. round_up (wide w (data_tree t k)) (row_end w x)) (before_is r n ∙ ap (with_fields (data_tree t) row) (sym (take_taken ks n m lt))) in
      let h = ends_behind w (data_tree t) row (take m ks) n k (get_taken ks n m k lt at) in
      omega (arith, a, b, c, d, e, g, h)

  pub behind_base : (r b n : ℕ) → (record_of t r).base ≡ Some b → l.record_bytes b ≤ l.offset r n
  behind_base r b n at =
      let ks = types_of (record_of t r).fields in
      let a = is.record_bytes b in
      let c = is.offset r n in
      let d = up_above (wide w (data_tree t (slice_index ks n))) (row_end w (fields_before t r n)) in
      let e = ap (λ x. row_end w x) (before_is r n) in
      let g = rise w (data_tree t) (base_row (record_of t r).base (record_row t)) (take n ks) in
      let h = base_before w (record_of t r).base b (record_row t) at in
      omega (arith, a, c, d, e, g, h)

  pub few_bytes : (k : ℕ) → l.bytes k ≤ 8 * cells t k
  few_bytes k = let a = is.bytes k in let b = cells_are t k in let c = bytes_few w (data_tree t k) in omega (arith, a, b, c)

  pub rounded_few : (k : ℕ) → rounded (l.bytes k) ≤ 8 * cells t k
  rounded_few k = let a = few_bytes k in omega (arith, a)

  pub words_few : (k : ℕ) → l.bytes k / 8 + l.bytes k % 8 ≤ cells t k
  words_few k = let a = is.bytes k in let b = cells_are t k in let c = few_words w (data_tree t k) in omega (arith, a, b, c)

  module _ (fine : types_fine t ≡ true) where
    pub scalar_takes : (k : ℕ) (f : Form) → scalar_form (kind_of t k) ≡ Some f → l.bytes k ≡ scalar_bytes (l.is_small (kind_of t k))
    scalar_takes k f at =
        is.bytes k
        ∙ ap (tree_bytes w) (scalar_data_tree t fine k f at)
        ∙ ap (λ (o : Option Form). scalar_bytes (w && fits_byte (form_or_zero o))) (sym at)
        ∙ ap scalar_bytes (sym (is.is_small (kind_of t k)))

    pub array_takes : (k n e : ℕ) → kind_of t k ≡ ArrayOf (Some n) e → l.bytes k ≡ n * l.bytes e
    array_takes k n e at = is.bytes k ∙ ap (tree_bytes w) (array_data_tree t fine k n e at) ∙ ap (λ m. n * m) (sym (is.bytes e))

    pub record_takes : (k r : ℕ) → kind_of t k ≡ RecordOf r → l.bytes k ≡ l.record_bytes r
    record_takes k r at = is.bytes k ∙ ap (tree_bytes w) (record_data_tree t fine k r at) ∙ sym (is.record_bytes r)

    pub field_within : (r n k : ℕ) → slice_get (types_of (record_of t r).fields) n ≡ Some k → l.offset r n + l.bytes k ≤ l.record_bytes r
    field_within r n k at =
        let ks = types_of (record_of t r).fields in
        let row = base_row (record_of t r).base (record_row t) in
        let a = offset_at r n k at in
        let b = is.bytes k in
        let c = is.record_bytes r in
        let d = up_above (row_wide w (record_row t r)) (row_end w (record_row t r)) in
        let e = ap (λ x. row_end w x) (row_is t fine r) in
        let g = ap (λ x. round_up (wide w (data_tree t k)) (row_end w x)) (before_is r n) in
        let h = ends_behind w (data_tree t) row ks n k at in
        omega (arith, a, b, c, d, e, g, h)
