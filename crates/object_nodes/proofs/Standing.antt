-- From a node on stand the forms of its tree: what a name says of forms follows from the node.
use Rattle.std.proofs.Common.{◌≡◌, ℕ, zero, suc, ◌+◌, ◌*◌, List, [], ◌∷◌, ◌++◌, map, length, Bool, Option, Some, None, refl, sym, ap, ap₂, ◌∙◌, subst, arith, inl, inr}
use Rattle.std.specs.Prelude.{slice_get, slice_index_or}
use Rattle.ob_types.specs.Store.{Area, Globals, Frames, Heap, Strings, Address}
use Rattle.ob_types.specs.Meaning.{texts_of}
use Rattle.ob_types.specs.declared.program.Module.{Module}
use Rattle.ob_types.specs.declared.program.Program.{Program}
use Rattle.ob_types.specs.Forms.{Form, Small, repeated, joined, forms}
use Rattle.ob_sound.proofs.Tables.{get_left, get_right, get_repeated}
use Rattle.ob_sound.proofs.Typed.{Stands, form_at, global_forms, string_forms, object_forms}
use Rattle.ob_types.specs.Trees.{DataTree, Scalar, Array, Record, FieldRow, Empty, Field, Extend, tree_forms, row_forms, data_tree, record_row}
use Rattle.object_nodes.specs.Nodes.{Node, InFields, VariableNode}
use Rattle.object_nodes.proofs.Trees.{cells_forms, row_cells_forms, forms_are, record_forms_are}
use Rattle.object_nodes.specs.Named.{object_trees, global_trees, string_trees, heap_trees, IsNode}

abbrev all_tree_forms : List DataTree → List Form
all_tree_forms [] = []
all_tree_forms (k ∷ ks) = tree_forms k ++ all_tree_forms ks

module _ (packed : Bool) where
  whole_forms_at : (t s : DataTree) (c i : ℕ) (f : Form) → c ≡ 0 → s ≡ t → slice_get (tree_forms s) i ≡ Some f → slice_get (tree_forms t) (c + i) ≡ Some f
  whole_forms_at t s c i f z e at = let m : i ≡ c + i = omega (arith, z) in subst (λ j. slice_get (tree_forms t) j ≡ Some f) m (subst (λ s. slice_get (tree_forms s) i ≡ Some f) e at)

  mutual
    node_forms : (t : DataTree) (c o : ℕ) (s : DataTree) (i : ℕ) (f : Form) → Node packed t c o s → slice_get (tree_forms s) i ≡ Some f → slice_get (tree_forms t) (c + i) ≡ Some f
    node_forms (Scalar g) c o s i f h at = whole_forms_at (Scalar g) s c i f h.0 h.2 at
    node_forms (Array n t) c o s i f (inl h) at = whole_forms_at (Array n t) s c i f h.0 h.2 at
    node_forms (Array n t) c o s i f (inr h) at =
        let e = h.5 in let z = ap (λ m. h.0 * m) (cells_forms t) in
        get_repeated (tree_forms t) n h.0 (h.1 + i) (c + i) f h.3 (omega (arith, e, z)) (node_forms t h.1 h.2 s i f h.4 at)
    node_forms (Record r) c o s i f (inl h) at = whole_forms_at (Record r) s c i f h.0 h.2 at
    node_forms (Record r) c o s i f (inr h) at = inside_forms r c o s i f h at

    inside_forms : (r : FieldRow) (c o : ℕ) (s : DataTree) (i : ℕ) (f : Form) → InFields packed r c o s → slice_get (tree_forms s) i ≡ Some f → slice_get (row_forms r) (c + i) ≡ Some f
    inside_forms Empty c o s i f h at = absurd h
    inside_forms (Field r t) c o s i f (inl h) at = get_left (row_forms r) (tree_forms t) (c + i) f (inside_forms r c o s i f h at)
    inside_forms (Field r t) c o s i f (inr h) at = let e = h.3 in let z = row_cells_forms r in get_right (row_forms r) (tree_forms t) (h.0 + i) (c + i) f (omega (arith, e, z)) (node_forms t h.0 h.1 s i f h.2 at)
    inside_forms (Extend r) c o s i f (inl h) at = whole_forms_at (Record r) s c i f h.0 h.2 at
    inside_forms (Extend r) c o s i f (inr h) at = inside_forms r c o s i f h at

  variable_forms : (ks : List DataTree) (v c o : ℕ) (s : DataTree) (i : ℕ) (f : Form) → VariableNode packed ks v c o s → slice_get (tree_forms s) i ≡ Some f → slice_get (all_tree_forms ks) (c + i) ≡ Some f
  variable_forms [] v c o s i f h at = absurd h
  variable_forms (k ∷ ks) zero c o s i f h at = get_left (tree_forms k) (all_tree_forms ks) (c + i) f (node_forms k c o s i f h at)
  variable_forms (k ∷ ks) (suc v) c o s i f h at = let e = h.2 in let z = cells_forms k in get_right (tree_forms k) (all_tree_forms ks) (h.0 + i) (c + i) f (omega (arith, e, z)) (variable_forms ks v h.0 o s i f h.1 at)

nothing_more : {A : Type 0} (xs : List A) → xs ++ [] ≡ xs
nothing_more [] = refl
nothing_more (x ∷ xs) = ap (λ ys. x ∷ ys) (nothing_more xs)

module _ (p : Program) (packed : Bool) where
  types_forms : (ks : List ℕ) → all_tree_forms (map (data_tree p.types) ks) ≡ joined (forms p.types) ks
  types_forms [] = refl
  types_forms (k ∷ ks) = ap₂ (λ a b. a ++ b) (sym (forms_are p.types k)) (types_forms ks)

  modules_forms : (us : List Module) (m : ℕ) → all_tree_forms (slice_index_or (map (λ m. map (data_tree p.types) m.variables) us) m []) ≡ slice_index_or (map (λ m. joined (forms p.types) m.variables) us) m []
  modules_forms [] m = refl
  modules_forms (u ∷ us) zero = types_forms u.variables
  modules_forms (u ∷ us) (suc m) = modules_forms us m

  globals_forms : (o : ℕ) → all_tree_forms (slice_index_or (global_trees p) o []) ≡ slice_index_or (global_forms p) o []
  unfolding global_trees global_forms
  globals_forms zero = refl
  globals_forms (suc m) = modules_forms p.modules m

  texts_forms : (ts : List (List ℕ)) (k : ℕ) → all_tree_forms (slice_index_or (map (λ xs. Array (suc (length xs)) (Scalar Small) ∷ []) ts) k []) ≡ slice_index_or (map (λ xs. repeated (suc (length xs)) (Small ∷ [])) ts) k []
  texts_forms [] k = refl
  texts_forms (t ∷ ts) zero = nothing_more (repeated (suc (length t)) (Small ∷ []))
  texts_forms (t ∷ ts) (suc k) = texts_forms ts k

  strings_forms : (k : ℕ) → all_tree_forms (slice_index_or (string_trees p) k []) ≡ slice_index_or (string_forms p) k []
  unfolding string_trees string_forms
  strings_forms k = texts_forms (texts_of p.procedures) k

  heap_forms : (t : Option ℕ) → all_tree_forms (heap_trees p t) ≡ object_forms p t
  heap_forms None = refl
  heap_forms (Some t) = nothing_more (row_forms (record_row p.types t)) ∙ sym (record_forms_are p.types t)

  object_forms_are : (fs : List (List Form)) (vs : List (List ℕ)) (tags : List ℕ) → ((o : ℕ) → slice_index_or fs o [] ≡ joined (forms p.types) (slice_index_or vs o [])) → (area : Area) (o i : ℕ) → slice_get (all_tree_forms (object_trees p vs tags area o)) i ≡ form_at p fs tags area o i
  object_forms_are fs vs tags own Globals o i = ap (λ xs. slice_get xs i) (globals_forms o)
  object_forms_are fs vs tags own Frames o i = ap (λ xs. slice_get xs i) (types_forms (slice_index_or vs o []) ∙ sym (own o))
  object_forms_are fs vs tags own Heap o i = ap (λ xs. slice_get xs i) (heap_forms (slice_get tags o))
  object_forms_are fs vs tags own Strings o i = ap (λ xs. slice_get xs i) (strings_forms o)

  pub node_stands : (fs : List (List Form)) (vs : List (List ℕ)) (tags : List ℕ) → ((o : ℕ) → slice_index_or fs o [] ≡ joined (forms p.types) (slice_index_or vs o [])) → (a : Address) (s : DataTree) → IsNode p packed vs tags a s → Stands p fs tags a (tree_forms s)
  node_stands fs vs tags own a s h i f at = sym (object_forms_are fs vs tags own a.area a.object (a.cell + i)) ∙ variable_forms packed (object_trees p vs tags a.area a.object) h.0 a.cell h.1 s i f h.2 at

  -- a call's own variables, and the forms of the active calls, when there is one more

  pub own_is : (vs : List (List ℕ)) (own : List ℕ) → slice_index_or (vs ++ own ∷ []) (length vs) [] ≡ own
  own_is [] own = refl
  own_is (ks ∷ vs) own = own_is vs own

  pub forms_push : (fs : List (List Form)) (vs : List (List ℕ)) (own : List ℕ) → length fs ≡ length vs → ((o : ℕ) → slice_index_or fs o [] ≡ joined (forms p.types) (slice_index_or vs o []))
      → (o : ℕ) → slice_index_or (fs ++ joined (forms p.types) own ∷ []) o [] ≡ joined (forms p.types) (slice_index_or (vs ++ own ∷ []) o [])
  forms_push [] [] own e each zero = refl
  forms_push [] [] own e each (suc o) = refl
  forms_push [] (ks ∷ vs) own e each o = absurd (omega (arith, e))
  forms_push (f ∷ fs) [] own e each o = absurd (omega (arith, e))
  forms_push (f ∷ fs) (ks ∷ vs) own e each zero = each zero
  forms_push (f ∷ fs) (ks ∷ vs) own e each (suc o) = forms_push fs vs own (omega (arith, e)) (λ i. each (suc i)) o
