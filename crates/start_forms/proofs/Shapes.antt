-- The types of a legal table have no record type by value but the table's.
use Rattle.std.proofs.Common.{◌≡◌, ℕ, zero, suc, ◌<◌, ◌≤◌, List, [], ◌∷◌, ◌++◌, length, Bool, true, ◌&&◌, Option, Some, None, sym, subst, arith, ltb-true, ◌⊎◌, inl, inr}
use Rattle.std.specs.Prelude.{map, slice_index_or, nat_le}
use Rattle.std.proofs.lemmas.List.{get_or_past}
use Rattle.ob_types.specs.Forms.{all, all_below, if_base}
use Rattle.ob_types.specs.Layout.{kind_of, record_of, types_of, cells, no_record_type}
use Rattle.ob_types.specs.LegalTypes.{is_record_type, is_variable_type, kind_legal, type_legal, record_legal, signature_legal, types_legal, most_cells}
use Rattle.ob_types.specs.Table.{Table}
use Rattle.ob_types.specs.declared.types.TypeKind.{TypeKind}
use Rattle.ob_types.specs.declared.types.TypeKind.TheVariants as TheKind
use Rattle.ob_types.specs.declared.types.Field.{Field}
use Rattle.ob_types.specs.declared.types.RecordType.{RecordType}
use Rattle.ob_types.proofs.Tests.{and_of, below, less_or_past}
use Rattle.ob_judge.specs.Shapes.{Shape}
use Rattle.judged_tree.specs.TypeShapes.{shape_at, array_shape, kind_shape, next_pointer, shapes_after, shape_of, shape_of_kind}
use Rattle.judged_tree.specs.Plain.{plain_field, plain_record}
use Rattle.moved_lowering.specs.Within.{IsWithin, ElementWithin, FieldsWithin, BaseWithin, RecordTypeWithin, RecordsWithin}

module _ (t : Table) where
  abbrev pub many : ℕ
  many = length t.records

  -- a record type of the table, or a pointer to one
  abbrev pub KindWithin : TypeKind → Type 0
  KindWithin (TheKind.Record r) = r < many
  KindWithin (TheKind.Pointer r) = r < many
  KindWithin kind = Unit {0}

  abbrev AllWithin : List Shape → Type 0
  AllWithin shapes = (i : ℕ) → IsWithin many (shape_at shapes i)

  array_within : (o : Option ℕ) (s : Shape) → IsWithin many s → IsWithin many (array_shape o s)
  array_within None s h = tt
  array_within (Some n) s h = h

  kind_within : (shapes : List Shape) (pointer : ℕ) (kind : TypeKind) → AllWithin shapes → KindWithin kind → IsWithin many (kind_shape t shapes pointer kind)
  kind_within shapes pointer (TheKind.Array o e) all h = array_within o (shape_at shapes e) (all e)
  kind_within shapes pointer (TheKind.Record r) all h = h
  kind_within shapes pointer _ all h = tt

  one_more : (shapes : List Shape) (s : Shape) → AllWithin shapes → IsWithin many s → AllWithin (shapes ++ s ∷ [])
  one_more [] s all h zero = h
  one_more [] s all h (suc i) = tt
  one_more (x ∷ shapes) s all h zero = all zero
  one_more (x ∷ shapes) s all h (suc i) = one_more shapes s (λ j. all (suc j)) h i

  abbrev KindsWithin : List TypeKind → Type 0
  KindsWithin ks = (i : ℕ) → KindWithin (slice_index_or ks i TheKind.Nothing)

  after_within : (ks : List TypeKind) (shapes : List Shape) (pointer : ℕ) → AllWithin shapes → KindsWithin ks → AllWithin (shapes_after t shapes pointer ks)
  after_within [] shapes pointer all h = all
  after_within (k ∷ ks) shapes pointer all h =
      after_within ks (shapes ++ kind_shape t shapes pointer k ∷ []) (next_pointer t k pointer)
      (one_more shapes (kind_shape t shapes pointer k) all (kind_within shapes pointer k all (h zero)))
      (λ i. h (suc i))

  pub record_below : (r : ℕ) → is_record_type t r ≡ true → r < many
  record_below r h = ltb-true r many h

  legal_within : (kind : TypeKind) → kind_legal t kind ≡ true → KindWithin kind
  legal_within (TheKind.Record r) h = record_below r h
  legal_within (TheKind.Pointer r) h = record_below r h
  legal_within _ h = tt

  no_within : (kind : TypeKind) → kind ≡ TheKind.Nothing → KindWithin kind
  no_within kind e = subst KindWithin (sym e) tt

  module _ (legal : types_legal t ≡ true) where
    abbrev records_legal : Bool
    records_legal = all_below many (record_legal t)

    abbrev signatures_legal : Bool
    signatures_legal = all (signature_legal t) t.signatures

    pub kinds_within : (k : ℕ) → KindWithin (kind_of t k)
    kinds_within k = by (less_or_past k (length t.kinds))
      where
        by : (k < length t.kinds) ⊎ (length t.kinds ≤ k) → KindWithin (kind_of t k)
        by (inl l) =
            let all = (and_of (all_below (length t.kinds) (type_legal t)) (records_legal && signatures_legal) legal).0 in
            legal_within (kind_of t k) (and_of (kind_legal t (kind_of t k)) (nat_le (cells t k) most_cells) (below (length t.kinds) (type_legal t) all k l)).0
        by (inr l) = no_within (kind_of t k) (get_or_past t.kinds k TheKind.Nothing l)

    pub shapes_within : (k : ℕ) → IsWithin many (shape_of t k)
    shapes_within = after_within t.kinds [] 0 (λ i. tt) kinds_within

    pub elements_within : (kind : TypeKind) → ElementWithin many (shape_of_kind t kind)
    elements_within (TheKind.Array None e) = shapes_within e
    elements_within (TheKind.Array (Some n) e) = shapes_within e
    elements_within _ = tt

    fields_within : (fs : List Field) → FieldsWithin many (map (plain_field t) fs)
    fields_within [] = tt
    fields_within (f ∷ fs) = (shapes_within f.type_number, fields_within fs)

    base_within : (o : Option ℕ) → if_base o (is_record_type t) ≡ true → BaseWithin many o
    base_within None h = tt
    base_within (Some b) h = record_below b h

    one_within : (r : RecordType) → if_base r.base (is_record_type t) ≡ true → RecordTypeWithin many (plain_record t r)
    one_within r h = record { base = base_within r.base h; fields = fields_within r.fields }

    -- a record type that stands in the table names others of it
    abbrev BaseLegal : RecordType → Type 0
    BaseLegal r = if_base r.base (is_record_type t) ≡ true

    bases_legal : (r : ℕ) → r < many → BaseLegal (record_of t r)
    bases_legal r l =
        let both = and_of (all_below (length t.kinds) (type_legal t)) (records_legal && signatures_legal) legal in
        let every = (and_of records_legal signatures_legal both.1).0 in
        let types = all (is_variable_type t) (types_of (record_of t r).fields) in
        let h = and_of (nat_le (record_of t r).cells most_cells) (if_base (record_of t r).base (is_record_type t) && types) (below many (record_legal t) every r l) in
        (and_of (if_base (record_of t r).base (is_record_type t)) types h.1).0

    all_records : (rs : List RecordType) → ((r : ℕ) → r < length rs → BaseLegal (slice_index_or rs r no_record_type)) → RecordsWithin many (map (plain_record t) rs)
    all_records [] h = tt
    all_records (r ∷ rs) h = (one_within r (h zero (omega arith)), all_records rs (λ n l. h (suc n) (omega (arith, l))))

    pub records_within : RecordsWithin many (map (plain_record t) t.records)
    records_within = all_records t.records bases_legal
