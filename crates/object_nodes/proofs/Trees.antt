-- The trees of a table's types have the table's forms; fields and bases are nodes of them.
use Rattle.std.proofs.Common.{◌≡◌, ℕ, zero, suc, ◌+◌, ◌*◌, List, [], ◌∷◌, ◌++◌, length, take, Bool, true, false, ◌||◌, Option, Some, None, refl, sym, ap, ap₂, ◌∙◌, subst, arith, ◌⊎◌, inl, inr, eqb-true, append_assoc}
use Rattle.std.specs.Prelude.{slice_get, ◌==◌}
use Rattle.std.proofs.lemmas.List.{length-append}
use Rattle.ob_types.specs.Layout.{kind_of, record_of, types_of, or_base, field_place, extends_within, extends}
use Rattle.ob_types.specs.declared.types.TypeKind.{TypeKind}
use Rattle.ob_types.specs.declared.types.TypeKind.TheVariants.{Array as ArrayOf, Record as RecordOf}
use Rattle.ob_types.specs.Table.{Table}
use Rattle.ob_types.specs.Forms.{Form, repeated, joined, base_forms, forms_by, forms_within, record_forms_within, forms, record_forms, types_fine}
use Rattle.ob_types.proofs.Tests.{none_some, some_same, no}
use Rattle.ob_sound.proofs.Tables.{length_repeated}
use Rattle.ob_types.specs.Trees.{DataTree, Scalar, Array, Record, FieldRow, Empty, Field, Extend, tree_cells, row_cells, tree_forms, row_forms, round_up, wide, row_end, base_row, with_fields, tree_by, tree_within, row_within, data_tree, record_row, fields_before}
use Rattle.ob_types.proofs.DataTrees.{row_is, place_is}
use Rattle.object_nodes.specs.Nodes.{Node, InFields}
use Rattle.object_nodes.proofs.Meeting.{node_self}

or_cases : (e : Bool) (o : Option ℕ) (f : ℕ → Bool) → (e || or_base o f) ≡ true → (e ≡ true) ⊎ ((a : ℕ) × (o ≡ Some a) × (f a ≡ true))
or_cases true o f h = inl refl
or_cases false None f h = no h
or_cases false (Some a) f h = inr (a, refl, h)

-- a tree has as many cells as forms
mutual
  pub cells_forms : (s : DataTree) → tree_cells s ≡ length (tree_forms s)
  cells_forms (Scalar f) = refl
  cells_forms (Array n t) = ap (λ m. n * m) (cells_forms t) ∙ sym (length_repeated n (tree_forms t))
  cells_forms (Record r) = row_cells_forms r

  pub row_cells_forms : (r : FieldRow) → row_cells r ≡ length (row_forms r)
  row_cells_forms Empty = refl
  row_cells_forms (Field r t) = ap₂ (λ a b. a + b) (row_cells_forms r) (cells_forms t) ∙ sym (length-append (row_forms r) (tree_forms t))
  row_cells_forms (Extend r) = row_cells_forms r

-- forms

fields_forms : (f : ℕ → List Form) (trees : ℕ → DataTree) → ((k : ℕ) → f k ≡ tree_forms (trees k)) → (ks : List ℕ) (r : FieldRow) → row_forms r ++ joined f ks ≡ row_forms (with_fields trees r ks)
fields_forms f trees e [] r = nil (row_forms r)
  where
    nil : (xs : List Form) → xs ++ [] ≡ xs
    nil [] = refl
    nil (x ∷ xs) = ap (λ ys. x ∷ ys) (nil xs)
fields_forms f trees e (k ∷ ks) r = ap (λ xs. row_forms r ++ (xs ++ joined f ks)) (e k) ∙ sym (append_assoc (row_forms r) (tree_forms (trees k)) (joined f ks)) ∙ fields_forms f trees e ks (Field r (trees k))

base_row_forms : (o : Option ℕ) (f : ℕ → List Form) (rows : ℕ → FieldRow) → ((r : ℕ) → f r ≡ row_forms (rows r)) → base_forms o f ≡ row_forms (base_row o rows)
base_row_forms None f rows e = refl
base_row_forms (Some b) f rows e = e b

kind_forms : (f w : ℕ → List Form) (trees : ℕ → DataTree) (rows : ℕ → FieldRow) → ((k : ℕ) → f k ≡ tree_forms (trees k)) → ((r : ℕ) → w r ≡ row_forms (rows r)) → (kind : TypeKind) → forms_by f w kind ≡ tree_forms (tree_by trees rows kind)
kind_forms f w trees rows e d (ArrayOf (Some n) k) = ap (λ xs. repeated n xs) (e k)
kind_forms f w trees rows e d (RecordOf r) = d r
kind_forms f w trees rows e d (ArrayOf None k) = refl
kind_forms f w trees rows e d kind = refl

-- a field of a row

fields_keep : (packed : Bool) (trees : ℕ → DataTree) (ks : List ℕ) (r : FieldRow) (c o : ℕ) (s : DataTree) → InFields packed r c o s → InFields packed (with_fields trees r ks) c o s
fields_keep packed trees [] r c o s h = h
fields_keep packed trees (k ∷ ks) r c o s h = fields_keep packed trees ks (Field r (trees k)) c o s (inl h)

field_inside : (packed : Bool) (trees : ℕ → DataTree) (ks : List ℕ) (r : FieldRow) (n k : ℕ) → slice_get ks n ≡ Some k
    → InFields packed (with_fields trees r ks) (row_cells (with_fields trees r (take n ks))) (round_up (wide packed (trees k)) (row_end packed (with_fields trees r (take n ks)))) (trees k)
field_inside packed trees [] r n k at = none_some k at
field_inside packed trees (l ∷ ls) r zero k at =
    subst (λ l. InFields packed (with_fields trees r (l ∷ ls)) (row_cells r) (round_up (wide packed (trees k)) (row_end packed r)) (trees k)) (sym (some_same l k at))
    (fields_keep packed trees ls (Field r (trees k)) (row_cells r) (round_up (wide packed (trees k)) (row_end packed r)) (trees k) (inr (0, 0, node_self packed (trees k), omega arith, omega arith)))
field_inside packed trees (l ∷ ls) r (suc n) k at = field_inside packed trees ls (Field r (trees l)) n k at

module _ (t : Table) where
  mutual
    type_forms_are : (d k : ℕ) → forms_within t d k ≡ tree_forms (tree_within t d k)
    type_forms_are zero k = refl
    type_forms_are (suc d) k = kind_forms (forms_within t d) (record_forms_within t d) (tree_within t d) (row_within t d) (type_forms_are d) (record_row_forms d) (kind_of t k)

    record_row_forms : (d r : ℕ) → record_forms_within t d r ≡ row_forms (row_within t d r)
    record_row_forms zero r = refl
    record_row_forms (suc d) r =
        let base = (record_of t r).base in
        let fields = types_of (record_of t r).fields in
        ap (λ xs. xs ++ joined (forms_within t d) fields) (base_row_forms base (record_forms_within t d) (row_within t d) (record_row_forms d))
        ∙ fields_forms (forms_within t d) (tree_within t d) (type_forms_are d) fields (base_row base (row_within t d))

  pub forms_are : (k : ℕ) → forms t k ≡ tree_forms (data_tree t k)
  unfolding forms data_tree
  forms_are k = type_forms_are (suc (length t.kinds + length t.records)) k

  pub record_forms_are : (r : ℕ) → record_forms t r ≡ row_forms (record_row t r)
  unfolding record_forms record_row
  record_forms_are r = record_row_forms (suc (length t.kinds + length t.records)) r

  -- where the field stands, in bytes
  unfoldable pub byte_place : Bool → ℕ → ℕ → ℕ → ℕ
  byte_place packed r n k = round_up (wide packed (data_tree t k)) (row_end packed (fields_before t r n))

  module _ (ok : types_fine t ≡ true) where
    -- a field of a record
    pub field_node : (packed : Bool) (r n k : ℕ) → slice_get (types_of (record_of t r).fields) n ≡ Some k → Node packed (Record (record_row t r)) (field_place t r n) (byte_place packed r n k) (data_tree t k)
    unfolding fields_before byte_place
    field_node packed r n k at =
        inr (subst (λ c. InFields packed (record_row t r) c (byte_place packed r n k) (data_tree t k)) (place_is t r n)
        (subst (λ z. InFields packed z (row_cells (fields_before t r n)) (byte_place packed r n k) (data_tree t k)) (sym (row_is t ok r)) (field_inside packed (data_tree t) (types_of (record_of t r).fields) (base_row (record_of t r).base (record_row t)) n k at)))

    -- a record's bases are nodes of it
    base_by : (packed : Bool) (m s r : ℕ) → extends_within t m s r ≡ true → Node packed (Record (record_row t s)) 0 0 (Record (record_row t r))
    base_by packed zero s r h = subst (λ x. Node packed (Record (record_row t s)) 0 0 (Record (record_row t x))) (eqb-true s r h) (node_self packed (Record (record_row t s)))
    base_by packed (suc m) s r h = by (or_cases (s == r) (record_of t s).base (λ a. extends_within t m a r) h) (λ a x. base_by packed m a r x)
      where
        by : ((s == r) ≡ true) ⊎ ((a : ℕ) × ((record_of t s).base ≡ Some a) × (extends_within t m a r ≡ true)) → ((a : ℕ) → extends_within t m a r ≡ true → Node packed (Record (record_row t a)) 0 0 (Record (record_row t r))) → Node packed (Record (record_row t s)) 0 0 (Record (record_row t r))
        by (inl e) go = subst (λ x. Node packed (Record (record_row t s)) 0 0 (Record (record_row t x))) (eqb-true s r e) (node_self packed (Record (record_row t s)))
        by (inr p) go =
            inr (subst (λ z. InFields packed z 0 0 (Record (record_row t r))) (sym (row_is t ok s))
            (fields_keep packed (data_tree t) (types_of (record_of t s).fields) (base_row (record_of t s).base (record_row t)) 0 0 (Record (record_row t r))
            (subst (λ o. InFields packed (base_row o (record_row t)) 0 0 (Record (record_row t r))) (sym p.1) (go p.0 p.2))))

    pub base_node : (packed : Bool) (s r : ℕ) → extends t s r ≡ true → Node packed (Record (record_row t s)) 0 0 (Record (record_row t r))
    base_node packed s r h = base_by packed (length t.records) s r h
