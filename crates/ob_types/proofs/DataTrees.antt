-- The tree of a type has its cells, and is made of its parts' trees, where a table is fine.
use Rattle.std.proofs.Common.{◌≡◌, ℕ, zero, suc, ◌+◌, ◌*◌, ◌≤◌, List, [], ◌∷◌, map, length, take, sum, Bool, true, false, ◌&&◌, Option, Some, None, refl, sym, ap, ap₂, ◌∙◌, subst, inl, inr, eqb-true, eq-eqb, arith}
use Rattle.std.specs.Prelude.{◌==◌}
use Rattle.std.proofs.lemmas.List.{get_or_past}
use Rattle.std.proofs.lemmas.List.Sums.{sum_by-cons}
use Rattle.ob_types.specs.Layout.{kind_of, record_of, no_record_type, types_of, base_cells, cells_by, cells_within, record_within, cells, cells_of_all, record_cells, field_place}
use Rattle.ob_types.specs.declared.types.TypeKind.{TypeKind}
use Rattle.ob_types.specs.declared.types.TypeKind.TheVariants.{Int, Char, Byte, Nothing}
use Rattle.ob_types.specs.declared.types.TypeKind.TheVariants.{Bool as Boolean, Set as SetOf, Array as ArrayOf, Record as RecordOf, Pointer as PointerTo, Procedure as ProcedureOf}
use Rattle.ob_types.specs.Table.{Table}
use Rattle.ob_types.specs.Forms.{Form, Truth, Small, Number, ToRecord, Routines, scalar_form, form_or_zero, all, nests_by, if_base, nests, record_nests, rooted, all_below, types_fine}
use Rattle.ob_types.specs.Assignable.{both_or_neither}
use Rattle.ob_types.specs.declared.types.Extent.{Extent}
use Rattle.ob_types.specs.Trees.{DataTree, Scalar, Array, Record, FieldRow, Field, Extend, tree_cells, row_cells, base_row, with_fields, tree_by, tree_within, row_within, data_tree, record_row, fields_before, bytes, tree_bytes, wide, same_extent}
use Rattle.ob_types.proofs.Tests.{none_some, some_same, and_of, and_from, no, below, less_or_past}

-- what is said to be taken is what is taken

both_is : (a b : Bool) → both_or_neither a b ≡ true → a ≡ b
both_is true b h = sym h
both_is false true h = no h
both_is false false h = refl

both_from : (a : Bool) → both_or_neither a a ≡ true
both_from true = refl
both_from false = refl

pub same_extent_is : (x y : Extent) → same_extent x y ≡ true → x ≡ y
same_extent_is x y h =
    let parts = and_of (x.bytes == y.bytes) (both_or_neither x.wide y.wide) h in
    ap₂ (λ (b : ℕ) (w : Bool). record { bytes = b; wide = w }) (eqb-true x.bytes y.bytes parts.0) (both_is x.wide y.wide parts.1)

pub same_extent_from : (x y : Extent) → x ≡ y → same_extent x y ≡ true
same_extent_from x y e = ap (same_extent x) (sym e) ∙ and_from (x.bytes == x.bytes) (both_or_neither x.wide x.wide) (eq-eqb x.bytes x.bytes refl) (both_from x.wide)

-- deeper is the same

fields_same : (f g : ℕ → DataTree) (nest : ℕ → Bool) → ((k : ℕ) → nest k ≡ true → f k ≡ g k) → (ks : List ℕ) → all nest ks ≡ true → (r : FieldRow) → with_fields f r ks ≡ with_fields g r ks
fields_same f g nest e [] h r = refl
fields_same f g nest e (k ∷ ks) h r = let parts = and_of (nest k) (all nest ks) h in fields_same f g nest e ks parts.1 (Field r (f k)) ∙ ap (λ s. with_fields g (Field r s) ks) (e k parts.0)

base_same : (f g : ℕ → FieldRow) (nest : ℕ → Bool) → ((r : ℕ) → nest r ≡ true → f r ≡ g r) → (o : Option ℕ) → if_base o nest ≡ true → base_row o f ≡ base_row o g
base_same f g nest e None h = refl
base_same f g nest e (Some b) h = ap Extend (e b h)

kind_same : (f g : ℕ → DataTree) (w v : ℕ → FieldRow) (nest whole : ℕ → Bool) → ((k : ℕ) → nest k ≡ true → f k ≡ g k) → ((r : ℕ) → whole r ≡ true → w r ≡ v r) → (kind : TypeKind) → nests_by nest whole kind ≡ true → tree_by f w kind ≡ tree_by g v kind
kind_same f g w v nest whole e d (ArrayOf (Some n) element) h = ap (λ s. Array n s) (e element h)
kind_same f g w v nest whole e d (RecordOf r) h = ap Record (d r h)
kind_same f g w v nest whole e d _ h = refl

-- cells, by those of the parts

kind_cells : (f w : ℕ → ℕ) (trees : ℕ → DataTree) (rows : ℕ → FieldRow) → ((k : ℕ) → f k ≡ tree_cells (trees k)) → ((r : ℕ) → w r ≡ row_cells (rows r)) → (kind : TypeKind) → cells_by f w kind ≡ tree_cells (tree_by trees rows kind)
kind_cells f w trees rows e d (ArrayOf (Some n) k) = ap (λ m. n * m) (e k)
kind_cells f w trees rows e d (RecordOf r) = d r
kind_cells f w trees rows e d (ArrayOf None k) = refl
kind_cells f w trees rows e d kind = refl

fields_cells : (f : ℕ → ℕ) (trees : ℕ → DataTree) → ((k : ℕ) → f k ≡ tree_cells (trees k)) → (ks : List ℕ) (r : FieldRow) → row_cells (with_fields trees r ks) ≡ row_cells r + sum (map f ks)
fields_cells f trees e [] r = omega arith
fields_cells f trees e (k ∷ ks) r =
    let a = sum_by-cons (λ n. n) (f k) (map f ks) in let b = e k in let rest = fields_cells f trees e ks (Field r (trees k)) in omega (arith, a, b, rest)

base_row_cells : (w : ℕ → ℕ) (rows : ℕ → FieldRow) → ((r : ℕ) → w r ≡ row_cells (rows r)) → (o : Option ℕ) → base_cells o w ≡ row_cells (base_row o rows)
base_row_cells w rows e None = refl
base_row_cells w rows e (Some b) = e b

module _ (t : Table) where
  mutual
    pub stays : (d k : ℕ) → nests t d k ≡ true → tree_within t d k ≡ tree_within t (suc d) k
    stays zero k h = no h
    stays (suc d) k h = kind_same (tree_within t d) (tree_within t (suc d)) (row_within t d) (row_within t (suc d)) (nests t d) (record_nests t d) (stays d) (row_stays d) (kind_of t k) h

    pub row_stays : (d r : ℕ) → record_nests t d r ≡ true → row_within t d r ≡ row_within t (suc d) r
    row_stays zero r h = no h
    row_stays (suc d) r h =
        let base = (record_of t r).base in
        let fields = types_of (record_of t r).fields in
        let parts = and_of (if_base base (record_nests t d)) (all (nests t d) fields) h in
        fields_same (tree_within t d) (tree_within t (suc d)) (nests t d) (stays d) fields parts.1 (base_row base (row_within t d))
        ∙ ap (λ r. with_fields (tree_within t (suc d)) r fields) (base_same (row_within t d) (row_within t (suc d)) (record_nests t d) (row_stays d) base parts.0)

  -- a tree has as many cells as the table says

  mutual
    type_cells : (d k : ℕ) → cells_within t d k ≡ tree_cells (tree_within t d k)
    type_cells zero k = refl
    type_cells (suc d) k = kind_cells (cells_within t d) (record_within t d) (tree_within t d) (row_within t d) (type_cells d) (record_type_cells d) (kind_of t k)

    record_type_cells : (d r : ℕ) → record_within t d r ≡ row_cells (row_within t d r)
    record_type_cells zero r = refl
    record_type_cells (suc d) r =
        let base = (record_of t r).base in
        let fields = types_of (record_of t r).fields in
        ap (λ n. n + sum (map (cells_within t d) fields)) (base_row_cells (record_within t d) (row_within t d) (record_type_cells d) base)
        ∙ sym (fields_cells (cells_within t d) (tree_within t d) (type_cells d) fields (base_row base (row_within t d)))

  pub cells_are : (k : ℕ) → cells t k ≡ tree_cells (data_tree t k)
  unfolding data_tree
  cells_are k = type_cells (suc (length t.kinds + length t.records)) k

  pub record_cells_are : (r : ℕ) → record_cells t r ≡ row_cells (record_row t r)
  unfolding record_row
  record_cells_are r = record_type_cells (suc (length t.kinds + length t.records)) r

  -- a field stands as many cells on as the table says
  pub place_is : (r n : ℕ) → row_cells (fields_before t r n) ≡ field_place t r n
  unfolding fields_before
  place_is r n =
      fields_cells (cells t) (data_tree t) cells_are (take n (types_of (record_of t r).fields)) (base_row (record_of t r).base (record_row t))
      ∙ ap (λ m. m + cells_of_all t (take n (types_of (record_of t r).fields))) (sym (base_row_cells (record_cells t) (record_row t) record_cells_are (record_of t r).base))

  past_kinds : (k : ℕ) → length t.kinds ≤ k → kind_of t k ≡ Nothing
  past_kinds k l = get_or_past t.kinds k Nothing l

  past_records : (r : ℕ) → length t.records ≤ r → record_of t r ≡ no_record_type
  past_records r l = get_or_past t.records r no_record_type l

  module _ (ok : types_fine t ≡ true) where
    fine_parts : (all_below (length t.kinds) (nests t (suc (length t.kinds + length t.records))) ≡ true) × (all_below (length t.records) (record_nests t (suc (length t.kinds + length t.records))) ≡ true)
    fine_parts =
        let a = and_of (all_below (length t.kinds) (nests t (suc (length t.kinds + length t.records)))) (all_below (length t.records) (record_nests t (suc (length t.kinds + length t.records))) && all_below (length t.records) (rooted t (suc (length t.records)))) ok in
        let b = and_of (all_below (length t.records) (record_nests t (suc (length t.kinds + length t.records)))) (all_below (length t.records) (rooted t (suc (length t.records)))) a.1 in
        (a.0, b.0)

    nest : (k : ℕ) → nests t (suc (length t.kinds + length t.records)) k ≡ true
    nest k = elim (less_or_past k (length t.kinds)) [ inl l ↦ below (length t.kinds) (nests t (suc (length t.kinds + length t.records))) fine_parts.0 k l | inr p ↦ subst (λ kind. nests_by (nests t (length t.kinds + length t.records)) (record_nests t (length t.kinds + length t.records)) kind ≡ true) (sym (past_kinds k p)) refl ]

    record_nest : (r : ℕ) → record_nests t (suc (length t.kinds + length t.records)) r ≡ true
    record_nest r = elim (less_or_past r (length t.records)) [ inl l ↦ below (length t.records) (record_nests t (suc (length t.kinds + length t.records))) fine_parts.1 r l | inr p ↦ subst (λ q. (if_base q.base (record_nests t (length t.kinds + length t.records)) && all (nests t (length t.kinds + length t.records)) (types_of q.fields)) ≡ true) (sym (past_records r p)) refl ]

    pub tree_is : (k : ℕ) → data_tree t k ≡ tree_by (data_tree t) (record_row t) (kind_of t k)
    unfolding data_tree record_row
    tree_is k = kind_same (tree_within t (length t.kinds + length t.records)) (data_tree t) (row_within t (length t.kinds + length t.records)) (record_row t) (nests t (length t.kinds + length t.records)) (record_nests t (length t.kinds + length t.records)) (stays (length t.kinds + length t.records)) (row_stays (length t.kinds + length t.records)) (kind_of t k) (nest k)

    pub row_is : (r : ℕ) → record_row t r ≡ with_fields (data_tree t) (base_row (record_of t r).base (record_row t)) (types_of (record_of t r).fields)
    unfolding data_tree record_row
    row_is r =
        let base = (record_of t r).base in
        let fields = types_of (record_of t r).fields in
        let d = length t.kinds + length t.records in
        let parts = and_of (if_base base (record_nests t d)) (all (nests t d) fields) (record_nest r) in
        fields_same (tree_within t d) (data_tree t) (nests t d) (stays d) fields parts.1 (base_row base (row_within t d))
        ∙ ap (λ r. with_fields (data_tree t) r fields) (base_same (row_within t d) (record_row t) (record_nests t d) (row_stays d) base parts.0)

    pub array_data_tree : (k n e : ℕ) → kind_of t k ≡ ArrayOf (Some n) e → data_tree t k ≡ Array n (data_tree t e)
    array_data_tree k n e is = tree_is k ∙ ap (λ kind. tree_by (data_tree t) (record_row t) kind) is

    pub record_data_tree : (k r : ℕ) → kind_of t k ≡ RecordOf r → data_tree t k ≡ Record (record_row t r)
    record_data_tree k r is = tree_is k ∙ ap (λ kind. tree_by (data_tree t) (record_row t) kind) is

    scalar_by : (kind : TypeKind) (f : Form) → scalar_form kind ≡ Some f → tree_by (data_tree t) (record_row t) kind ≡ Scalar f
    scalar_by Int f is = ap Scalar (some_same Number f is)
    scalar_by Boolean f is = ap Scalar (some_same Truth f is)
    scalar_by SetOf f is = ap Scalar (some_same Number f is)
    scalar_by Char f is = ap Scalar (some_same Small f is)
    scalar_by Byte f is = ap Scalar (some_same Small f is)
    scalar_by (PointerTo r) f is = ap Scalar (some_same (ToRecord r) f is)
    scalar_by (ProcedureOf k) f is = ap Scalar (some_same (Routines k) f is)
    scalar_by _ f is = none_some f is

    pub scalar_data_tree : (k : ℕ) (f : Form) → scalar_form (kind_of t k) ≡ Some f → data_tree t k ≡ Scalar f
    scalar_data_tree k f is = tree_is k ∙ scalar_by (kind_of t k) f is

    -- what is neither a record nor an array of known length is a scalar
    pub other_data_tree : (k : ℕ) → ((r : ℕ) → kind_of t k ≡ RecordOf r → ⊥) → ((n e : ℕ) → kind_of t k ≡ ArrayOf (Some n) e → ⊥) → data_tree t k ≡ Scalar (form_or_zero (scalar_form (kind_of t k)))
    other_data_tree k whole array = tree_is k ∙ by (kind_of t k) whole array
      where
        by : (kind : TypeKind) → ((r : ℕ) → kind ≡ RecordOf r → ⊥) → ((n e : ℕ) → kind ≡ ArrayOf (Some n) e → ⊥) → tree_by (data_tree t) (record_row t) kind ≡ Scalar (form_or_zero (scalar_form kind))
        by (RecordOf r) whole array = absurd (whole r refl)
        by (ArrayOf (Some n) e) whole array = absurd (array n e refl)
        by (ArrayOf None e) whole array = refl
        by kind whole array = refl

    -- bytes, by those of the parts
    pub bytes-array : (k n e : ℕ) → kind_of t k ≡ ArrayOf (Some n) e → bytes t k ≡ n * bytes t e
    bytes-array k n e is = ap (tree_bytes true) (array_data_tree k n e is)

    pub wide-array : (k n e : ℕ) → kind_of t k ≡ ArrayOf (Some n) e → wide true (data_tree t k) ≡ wide true (data_tree t e)
    wide-array k n e is = ap (wide true) (array_data_tree k n e is)
