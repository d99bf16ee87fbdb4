-- What types take, and where fields stand in their records.
use Rattle.std.proofs.Common.{◌≡◌, ℕ, zero, suc, ◌+◌, ◌<◌, ◌≤◌, List, [], ◌∷◌, map, take, length, get_or, Bool, true, false, Option, Some, None, refl, sym, ap, ap₂, ◌∙◌, subst, arith, ◌⊎◌, inl, inr}
use Rattle.std.specs.Prelude.{slice_index, nat_lt, if◌then◌else◌, ◌-◌}
use Rattle.std.proofs.lemmas.List.{get_or-map, get_or_past}
use Rattle.ob_types.specs.Table.{Table}
use Rattle.ob_types.specs.Layout.{no_record_type, record_of, types_of}
use Rattle.ob_types.specs.Trees.{DataTree, Record, FieldRow, Empty, Field, round_up, wide, row_wide, tree_bytes, row_end, tree_extent, base_row, with_fields, tree_by, data_tree, record_row, record_extent, bytes, fields_before, field_offset}
use Rattle.ob_types.specs.declared.types.Extent.{Extent}
use Rattle.ob_types.specs.declared.types.RecordType.{RecordType}
use Rattle.ob_types.specs.declared.types.TypeKind.TheVariants.{Nothing}
use Rattle.ob_types.proofs.DataTrees.{cells_are, record_cells_are, tree_is, row_is}
use Rattle.ob_types.proofs.Tests.{less_or_past}
use Rattle.ob_types.proofs.TreeBytes.{up_above, bytes_few}
use Rattle.ssa_lowered.specs.Data.{within}
use Rattle.ssa_exprs.specs.Tables.{clamped, of_row}
use Rattle.ssa_tables.specs.Measured.{HasSizes}
use Rattle.ssa_tables.specs.Places.{extent_by, base_by, begins, field_starts}
use Rattle.ssa_tables.specs.Sizes.{AreFirstExtents}
use Rattle.ssa_tables.proofs.Placing.{take_all, take_nothing, clamped_inside, clamped_past, at_inside, at_past}

---- Fields in a row

up_few : (b : Bool) (n : ℕ) → round_up b n ≤ n + 7
up_few true n = omega arith
up_few false n = omega arith

-- where a part begins that is in range
begins_is : (x : Extent) (w : Bool) (at : ℕ) → x.wide ≡ w → at ≤ 16777208 → begins x at ≡ round_up w at
begins_is x w at is le =
    let a = up_few w at in
    let b : within (round_up w at) ≡ round_up w at = omega (arith, a, le) in
    ap (λ v. within (round_up v at)) is ∙ b

row_rises : (f : ℕ → DataTree) (row : FieldRow) (ks : List ℕ) → row_end true row ≤ row_end true (with_fields f row ks)
row_rises f row [] = omega arith
row_rises f row (k ∷ ks) =
    let a = up_above (wide true (f k)) (row_end true row) in
    let b = row_rises f (Field row (f k)) ks in
    omega (arith, a, b)

module _ (f : ℕ → DataTree) (extent : ℕ → Extent) (known : (k : ℕ) → extent k ≡ tree_extent (f k)) where
  pub row_at : (ks : List ℕ) (row : FieldRow) (at i : ℕ) → at ≡ row_end true row → row_end true (with_fields f row ks) ≤ 8388608 → i ≤ length ks
      → get_or (field_starts extent at ks) i 0 ≡ round_up (wide true (f (slice_index ks i))) (row_end true (with_fields f row (take i ks)))
  row_at [] row at zero is few le = begins_is (extent 0) (wide true (f 0)) at (ap (λ x. x.wide) (known 0)) (omega (arith, is, few)) ∙ ap (round_up (wide true (f 0))) is
  row_at [] row at (suc i) is few le = absurd (omega (arith, le))
  row_at (k ∷ ks) row at zero is few le =
      let a = row_rises f row (k ∷ ks) in
      begins_is (extent k) (wide true (f k)) at (ap (λ x. x.wide) (known k)) (omega (arith, is, a, few)) ∙ ap (round_up (wide true (f k))) is
  row_at (k ∷ ks) row at (suc i) is few le =
      let a = row_rises f row (k ∷ ks) in
      let b = row_rises f (Field row (f k)) ks in
      let c = begins_is (extent k) (wide true (f k)) at (ap (λ x. x.wide) (known k)) (omega (arith, is, a, few)) ∙ ap (round_up (wide true (f k))) is in
      let d = ap (λ x. x.bytes) (known k) in
      row_at ks (Field row (f k)) (within (begins (extent k) at + (extent k).bytes)) i (omega (arith, b, c, d, few)) few (omega (arith, le))

field_starts_length : (extent : ℕ → Extent) (at : ℕ) (ks : List ℕ) → length (field_starts extent at ks) ≡ suc (length ks)
field_starts_length extent at [] = refl
field_starts_length extent at (k ∷ ks) = ap suc (field_starts_length extent (within (begins (extent k) at + (extent k).bytes)) ks)

start_few : (extent : ℕ → Extent) (at : ℕ) (ks : List ℕ) (i : ℕ) → get_or (field_starts extent at ks) i 0 ≤ 16777215
start_few extent at [] zero = omega arith
start_few extent at [] (suc i) = omega arith
start_few extent at (k ∷ ks) zero = omega arith
start_few extent at (k ∷ ks) (suc i) = start_few extent (within (begins (extent k) at + (extent k).bytes)) ks i

-- all of them are in 24 bits
starts_few : (extent : ℕ → Extent) (at : ℕ) (ks : List ℕ) (i : ℕ) → clamped (field_starts extent at ks) i ≤ 16777215
starts_few extent at ks i = by (nat_lt i (length (field_starts extent at ks)))
  where
    by : (b : Bool) → (if b then slice_index (field_starts extent at ks) i else slice_index (field_starts extent at ks) (length (field_starts extent at ks) - 1)) ≤ 16777215
    by true = start_few extent at ks i
    by false = start_few extent at ks (length (field_starts extent at ks) - 1)

---- Types and record types of a table

module _ (t : Table) (has : HasSizes t) where
  -- a type that isn't in the table
  extent_past : (k : ℕ) → length t.kinds ≤ k → tree_extent (data_tree t k) ≡ record { bytes = 8; wide = true }
  extent_past k le = ap tree_extent (tree_is t has.fine k ∙ ap (tree_by (data_tree t) (record_row t)) (get_or_past t.kinds k Nothing le))

  pub extents_all : (list : List Extent) → length t.kinds ≤ length list → AreFirstExtents t list → (k : ℕ) → extent_by list k ≡ tree_extent (data_tree t k)
  extents_all list all known k = by (less_or_past k (length list))
    where
      by : (k < length list) ⊎ (length list ≤ k) → extent_by list k ≡ tree_extent (data_tree t k)
      by (inl lt) = known.at k lt
      by (inr le) = get_or_past list k (record { bytes = 8; wide = true }) le ∙ sym (extent_past k (omega (arith, all, le)))

  pub few_bytes : (k : ℕ) → k < length t.kinds → bytes t k ≤ 8388608
  few_bytes k lt = let a = bytes_few true (data_tree t k) in let b = cells_are t k in let c = has.few k lt in omega (arith, a, b, c)

  few_record_bytes : (r : ℕ) → r < length t.records → (record_extent t r).bytes ≤ 8388608
  few_record_bytes r lt = let a = bytes_few true (Record (record_row t r)) in let b = record_cells_are t r in let c = has.few_records r lt in omega (arith, a, b, c)

  -- a record type that isn't in the table has no fields
  no_fields : (r : ℕ) → length t.records ≤ r → record_row t r ≡ Empty
  no_fields r le = row_is t has.fine r ∙ ap (λ (x : RecordType). with_fields (data_tree t) (base_row x.base (record_row t)) (types_of x.fields)) (get_or_past t.records r no_record_type le)

  abbrev record_bytes : List ℕ
  record_bytes = map (λ (r : RecordType). r.extent.bytes) t.records

  map_length : {A : Type 0} (f : RecordType → A) (xs : List RecordType) → length (map f xs) ≡ length xs
  map_length f [] = refl
  map_length f (x ∷ xs) = ap suc (map_length f xs)

  pub whole_is : (r : ℕ) → get_or record_bytes r 0 ≡ (record_extent t r).bytes
  whole_is r = by (less_or_past r (length t.records))
    where
      by : (r < length t.records) ⊎ (length t.records ≤ r) → get_or record_bytes r 0 ≡ (record_extent t r).bytes
      by (inl lt) = get_or-map (λ (x : RecordType). x.extent.bytes) t.records r no_record_type 0 lt ∙ ap (λ (x : Extent). x.bytes) (has.extents r lt)
      by (inr le) = get_or_past record_bytes r 0 (subst (λ n. n ≤ r) (sym (map_length (λ (x : RecordType). x.extent.bytes) t.records)) le) ∙ sym (ap (λ row. tree_bytes true (Record row)) (no_fields r le))

  base_is : (o : Option ℕ) → base_by record_bytes o ≡ row_end true (base_row o (record_row t))
  base_is None = refl
  base_is (Some b) = whole_is b

  module _ (extents : List Extent) (known : (k : ℕ) → extent_by extents k ≡ tree_extent (data_tree t k)) where
    abbrev row_of : RecordType → List ℕ
    row_of r = field_starts (extent_by extents) (base_by record_bytes r.base) (types_of r.fields)

    -- a field's offset, and that it is in range
    inside : (r field : ℕ) → r < length t.records → field ≤ length (types_of (record_of t r).fields) → get_or (row_of (record_of t r)) field 0 ≡ field_offset t r field
    unfolding fields_before
    inside r field lt le =
        let ks = types_of (record_of t r).fields in
        let row = base_row (record_of t r).base (record_row t) in
        let few = few_record_bytes r lt in
        let a = ap (row_end true) (row_is t has.fine r) in
        let b = up_above (row_wide true (record_row t r)) (row_end true (record_row t r)) in
        row_at (data_tree t) (extent_by extents) known ks row (base_by record_bytes (record_of t r).base) field (base_is (record_of t r).base) (omega (arith, few, a, b)) le

    -- behind the last field each stands where one of the first type would
    offset_past : (r field : ℕ) → length (types_of (record_of t r).fields) ≤ field → field_offset t r (length (types_of (record_of t r).fields)) ≡ field_offset t r field
    unfolding fields_before
    offset_past r field le =
        let ks = types_of (record_of t r).fields in
        ap₂ (λ (k : ℕ) (js : List ℕ). round_up (wide true (data_tree t k)) (row_end true (with_fields (data_tree t) (base_row (record_of t r).base (record_row t)) js)))
        (get_or_past ks (length ks) 0 (omega arith) ∙ sym (get_or_past ks field 0 le))
        (take_all ks (length ks) (omega arith) ∙ sym (take_all ks field le))

    -- a record type's row of places, one more than it has fields
    abbrev own_row : ℕ → List ℕ
    own_row r = row_of (record_of t r)

    abbrev count : ℕ → ℕ
    count r = length (types_of (record_of t r).fields)

    row_length : (r : ℕ) → length (own_row r) ≡ suc (count r)
    row_length r = field_starts_length (extent_by extents) (base_by record_bytes (record_of t r).base) (types_of (record_of t r).fields)

    at_field : (r field : ℕ) → r < length t.records → clamped (own_row r) field ≡ field_offset t r field
    at_field r field lt = by (less_or_past field (suc (count r)))
      where
        one_less : (m : ℕ) → suc m - 1 ≡ m
        one_less m = omega arith

        by : (field < suc (count r)) ⊎ (suc (count r) ≤ field) → clamped (own_row r) field ≡ field_offset t r field
        by (inl below) = clamped_inside (own_row r) field (subst (λ m. field < m) (sym (row_length r)) below) ∙ inside r field lt (omega (arith, below))
        by (inr past) =
            clamped_past (own_row r) field (subst (λ m. m ≤ field) (sym (row_length r)) past)
            ∙ ap (λ m. get_or (own_row r) m 0) (ap (λ m. m - 1) (row_length r) ∙ one_less (count r))
            ∙ inside r (count r) lt (omega arith)
            ∙ offset_past r field (omega (arith, past))

    rows_length : length (map row_of t.records) ≡ length t.records
    rows_length = map_length row_of t.records

    -- a record type that isn't in the table has no fields
    none_there : (r field : ℕ) → length t.records ≤ r → field_offset t r field ≡ 0
    unfolding fields_before
    none_there r field le =
        ap (λ (x : RecordType). round_up (wide true (data_tree t (slice_index (types_of x.fields) field))) (row_end true (with_fields (data_tree t) (base_row x.base (record_row t)) (take field (types_of x.fields))))) (get_or_past t.records r no_record_type le)
        ∙ ap (λ (js : List ℕ). round_up (wide true (data_tree t 0)) (row_end true (with_fields (data_tree t) Empty js))) (take_nothing field)
        ∙ at_start (wide true (data_tree t 0))
      where
        at_start : (b : Bool) → round_up b 0 ≡ 0
        at_start true = refl
        at_start false = refl

    pub offset_is : (r field : ℕ) → of_row (map row_of t.records) r field 0 ≡ field_offset t r field
    offset_is r field = by (less_or_past r (length t.records))
      where
        by : (r < length t.records) ⊎ (length t.records ≤ r) → of_row (map row_of t.records) r field 0 ≡ field_offset t r field
        by (inl lt) =
            at_inside (map row_of t.records) r field 0 (subst (λ n. r < n) (sym rows_length) lt)
            ∙ ap (λ row. clamped row field) (get_or-map row_of t.records r no_record_type [] lt)
            ∙ at_field r field lt
        by (inr le) = at_past (map row_of t.records) r field 0 (subst (λ n. n ≤ r) (sym rows_length) le) ∙ sym (none_there r field le)

    pub offset_few : (r field : ℕ) → of_row (map row_of t.records) r field 0 ≤ 16777215
    offset_few r field = by (less_or_past r (length t.records))
      where
        by : (r < length t.records) ⊎ (length t.records ≤ r) → of_row (map row_of t.records) r field 0 ≤ 16777215
        by (inl lt) = subst (λ n. n ≤ 16777215)
            (sym (at_inside (map row_of t.records) r field 0 (subst (λ n. r < n) (sym rows_length) lt) ∙ ap (λ row. clamped row field) (get_or-map row_of t.records r no_record_type [] lt)))
            (starts_few (extent_by extents) (base_by record_bytes (record_of t r).base) (types_of (record_of t r).fields) field)
        by (inr le) = let e = at_past (map row_of t.records) r field 0 (subst (λ n. n ≤ r) (sym rows_length) le) in omega (arith, e)
