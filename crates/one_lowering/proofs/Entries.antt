-- What a table of types says of a number, by the number's shape.
use Rattle.std.proofs.Common.{◌≡◌, ℕ, zero, suc, ◌+◌, ◌*◌, ◌<◌, ◌≤◌, List, [], ◌∷◌, ◌++◌, length, true, Option, Some, None, refl, sym, ap, ◌∙◌, subst, arith, ◌⊎◌, inl, inr}
use Rattle.std.specs.Prelude.{slice_index_or}
use Rattle.std.proofs.lemmas.List.{length-append, get_or_past}
use Rattle.ob_types.specs.declared.types.TypeKind.{TypeKind}
use Rattle.ob_types.specs.declared.types.TypeKind.TheVariants as TheKind
use Rattle.ob_types.specs.Forms.{types_fine}
use Rattle.ob_types.specs.Layout.{kind_of, cells_by, cells_within, record_within, cells, record_cells}
use Rattle.ob_types.specs.Table.{Table}
use Rattle.ob_types.specs.Trees.{tree_extent, in_a_row, tree_by, data_tree, record_row, record_extent}
use Rattle.ob_types.specs.declared.types.Extent.{Extent}
use Rattle.ob_types.proofs.Counting.{cells-array, cells-record}
use Rattle.ob_types.proofs.DataTrees.{tree_is}
use Rattle.ob_types.proofs.Tests.{no, and_of, less_or_past}
use Rattle.ssa_lowered.specs.Data.{takes_a_byte}
use Rattle.ssa_lowered.specs.Variables.{is_structured}
use Rattle.ob_judge.specs.Shapes.{Shape, Nothing}
use Rattle.judged_tree.specs.TypeShapes.{shape_at, array_shape, kind_shape, next_pointer, shapes_after, shapes_of, shape_of}
use Rattle.one_lowering.specs.Forms.{is_type, is_closed}
use Rattle.one_lowering.proofs.Sizes.{shape_cells, small_shape, shape_extent, structured_shape}

-- ---- shapes from the front

at_left : (xs ys : List Shape) (i : ℕ) → i < length xs → shape_at (xs ++ ys) i ≡ shape_at xs i
at_left [] ys i l = absurd (omega (arith, l))
at_left (x ∷ xs) ys zero l = refl
at_left (x ∷ xs) ys (suc i) l = at_left xs ys i (omega (arith, l))

at_end : (xs : List Shape) (x : Shape) (n : ℕ) → n ≡ length xs → shape_at (xs ++ x ∷ []) n ≡ x
at_end [] x zero e = refl
at_end [] x (suc n) e = absurd (omega (arith, e))
at_end (y ∷ xs) x zero e = absurd (omega (arith, e))
at_end (y ∷ xs) x (suc n) e = at_end xs x n (omega (arith, e))

-- a shape that is a type's stands in the list
there : (xs : List Shape) (i : ℕ) → is_type (shape_at xs i) ≡ true → i < length xs
there [] i h = no h
there (x ∷ xs) zero h = omega arith
there (x ∷ xs) (suc i) h = let l = there xs i h in omega (arith, l)

module _ (t : Table) where
  after_left : (ks : List TypeKind) (shapes : List Shape) (p i : ℕ) → i < length shapes → shape_at (shapes_after t shapes p ks) i ≡ shape_at shapes i
  after_left [] shapes p i l = refl
  after_left (k ∷ ks) shapes p i l =
      after_left ks (shapes ++ kind_shape t shapes p k ∷ []) (next_pointer t k p) i (let e = length-append shapes (kind_shape t shapes p k ∷ []) in omega (arith, e, l))
      ∙ at_left shapes (kind_shape t shapes p k ∷ []) i l

  abbrev entry : List TypeKind → ℕ → TypeKind
  entry ks i = slice_index_or ks i TheKind.Nothing

  -- the shape of number n is its entry's among shapes in front of it, and what is a type's among these is the number's
  pub record Stands (all : List Shape) (n : ℕ) (kind : TypeKind) : Type 0 where
    pub front : List Shape
    pub pointer : ℕ
    pub shape : shape_at all n ≡ kind_shape t front pointer kind
    pub before : (e : ℕ) → is_type (shape_at front e) ≡ true → e < n
    pub same : (e : ℕ) → is_type (shape_at front e) ≡ true → shape_at front e ≡ shape_at all e

  past : (xs : List Shape) (i : ℕ) → shape_at xs (length xs + i) ≡ Nothing
  past xs i = get_or_past xs (length xs + i) Nothing (omega arith)

  stands : (ks : List TypeKind) (shapes : List Shape) (p i n : ℕ) → n ≡ length shapes + i → Stands (shapes_after t shapes p ks) n (entry ks i)
  stands [] shapes p i n e = record {
    front = [];
    pointer = 0;
    shape = ap (λ m. shape_at shapes m) e ∙ past shapes i;
    before = λ j h. no h;
    same = λ j h. no h;
  }
  stands (k ∷ ks) shapes p zero n e =
      let here = kind_shape t shapes p k in
      let grown = length-append shapes (here ∷ []) in
      let same_place : n ≡ length shapes = omega (arith, e) in
      record {
        front = shapes;
        pointer = p;
        shape = after_left ks (shapes ++ here ∷ []) (next_pointer t k p) n (omega (arith, grown, same_place)) ∙ at_end shapes here n same_place;
        before = λ j h. (let l = there shapes j h in omega (arith, l, same_place));
        same = λ j h. sym (after_left (k ∷ ks) shapes p j (there shapes j h));
      }
  stands (k ∷ ks) shapes p (suc i) n e =
      let here = kind_shape t shapes p k in
      let grown = length-append shapes (here ∷ []) in
      stands ks (shapes ++ here ∷ []) (next_pointer t k p) i n (omega (arith, grown, e))

  pub number_stands : (k : ℕ) → Stands (shapes_of t) k (kind_of t k)
  number_stands k = stands t.kinds [] 0 k k (omega arith)

  -- ---- what a closed shape says of elements

  -- the parts of an array's shape
  closed_array : (n : Option ℕ) (s : Shape) → is_closed (array_shape n s) ≡ true → (is_type s ≡ true) × (is_closed s ≡ true)
  closed_array (Some n) s h = and_of (is_type s) (is_closed s) h
  closed_array None s h = and_of (is_type s) (is_closed s) h

  -- an array's elements, where its shape is closed
  pub record Elements (k : ℕ) (n : Option ℕ) (e : ℕ) : Type 0 where
    pub before : e < k
    pub shape : shape_of t k ≡ array_shape n (shape_of t e)
    pub closed : is_closed (shape_of t e) ≡ true

  pub elements : (k : ℕ) (n : Option ℕ) (e : ℕ) → kind_of t k ≡ TheKind.Array n e → is_closed (shape_of t k) ≡ true → Elements k n e
  elements k n e is h =
      let s = number_stands k in
      let shape : shape_of t k ≡ array_shape n (shape_at s.front e) = s.shape ∙ ap (λ kind. kind_shape t s.front s.pointer kind) is in
      let parts = closed_array n (shape_at s.front e) (subst (λ a. is_closed a ≡ true) shape h) in
      let same = s.same e parts.0 in
      record { before = s.before e parts.0; shape = shape ∙ ap (λ a. array_shape n a) same; closed = subst (λ a. is_closed a ≡ true) same parts.1 }

  -- ---- variables that are arrays or records

  kind_structured : (front : List Shape) (p : ℕ) (kind : TypeKind) → is_structured kind ≡ structured_shape (kind_shape t front p kind)
  kind_structured front p (TheKind.Array (Some n) e) = refl
  kind_structured front p (TheKind.Array None e) = refl
  kind_structured front p _ = refl

  pub same_structured : (k : ℕ) → is_structured (kind_of t k) ≡ structured_shape (shape_of t k)
  same_structured k = let s = number_stands k in kind_structured s.front s.pointer (kind_of t k) ∙ sym (ap structured_shape s.shape)

  -- ---- variables that take a byte

  kind_small : (front : List Shape) (p : ℕ) (kind : TypeKind) → takes_a_byte kind ≡ small_shape (kind_shape t front p kind)
  kind_small front p (TheKind.Array (Some n) e) = refl
  kind_small front p (TheKind.Array None e) = refl
  kind_small front p _ = refl

  pub same_small : (k : ℕ) → takes_a_byte (kind_of t k) ≡ small_shape (shape_of t k)
  same_small k = let s = number_stands k in kind_small s.front s.pointer (kind_of t k) ∙ sym (ap small_shape s.shape)

  -- ---- cells

  -- what isn't the kind of no type stands in the table
  in_table : (k : ℕ) → (kind_of t k ≡ TheKind.Nothing → ⊥) → k < length t.kinds
  in_table k other = by (less_or_past k (length t.kinds))
    where
      by : (k < length t.kinds) ⊎ (length t.kinds ≤ k) → k < length t.kinds
      by (inl l) = l
      by (inr l) = absurd (other (get_or_past t.kinds k TheKind.Nothing l))

  module _ (fine : types_fine t ≡ true) where
    abbrev of_shape : Shape → ℕ
    of_shape s = shape_cells (record_cells t) s

    -- where elements' cells are told by their shapes
    cells_at : (k : ℕ) → is_closed (shape_of t k) ≡ true → ((e : ℕ) → e < k → is_closed (shape_of t e) ≡ true → cells t e ≡ of_shape (shape_of t e)) → cells t k ≡ of_shape (shape_of t k)
    cells_at k h before = by (kind_of t k) refl
      where
        s : Stands (shapes_of t) k (kind_of t k)
        s = number_stands k

        scalar : (kind : TypeKind) → kind_of t k ≡ kind → ((f w : ℕ → ℕ) → cells_by f w kind ≡ 1) → of_shape (kind_shape t s.front s.pointer kind) ≡ 1 → cells t k ≡ of_shape (shape_of t k)
        scalar kind is one shape =
            ap (λ q. cells_by (cells_within t (length t.kinds + length t.records)) (record_within t (length t.kinds + length t.records)) q) is
            ∙ one (cells_within t (length t.kinds + length t.records)) (record_within t (length t.kinds + length t.records))
            ∙ sym (ap of_shape (s.shape ∙ ap (λ q. kind_shape t s.front s.pointer q) is) ∙ shape)

        by : (kind : TypeKind) → kind_of t k ≡ kind → cells t k ≡ of_shape (shape_of t k)
        by (TheKind.Array (Some n) e) is =
            let x = elements k (Some n) e is h in
            cells-array t fine k n e (in_table k (λ none. absurd (let z = sym is ∙ none in cc))) is
            ∙ ap (λ m. n * m) (before e x.before x.closed)
            ∙ sym (ap of_shape x.shape)
        by (TheKind.Record r) is =
            cells-record t fine k r (in_table k (λ none. absurd (let z = sym is ∙ none in cc))) is
            ∙ sym (ap of_shape (s.shape ∙ ap (λ q. kind_shape t s.front s.pointer q) is))
        by (TheKind.Array None e) is = scalar (TheKind.Array None e) is (λ f w. refl) refl
        by kind is = scalar kind is (λ f w. refl) refl

    cells_by_shape : (b k : ℕ) → k < b → is_closed (shape_of t k) ≡ true → cells t k ≡ of_shape (shape_of t k)
    cells_by_shape zero k l h = absurd (omega (arith, l))
    cells_by_shape (suc b) k l h = cells_at k h (λ e less closed. cells_by_shape b e (omega (arith, less, l)) closed)

    pub same_cells : (k : ℕ) → is_closed (shape_of t k) ≡ true → cells t k ≡ shape_cells (record_cells t) (shape_of t k)
    same_cells k h = cells_by_shape (suc k) k (omega arith) h

    -- ---- bytes

    abbrev taken_by : Shape → Extent
    taken_by s = shape_extent (record_extent t) s

    -- where elements' bytes are told by their shapes
    extent_at : (k : ℕ) → is_closed (shape_of t k) ≡ true → ((e : ℕ) → e < k → is_closed (shape_of t e) ≡ true → tree_extent (data_tree t e) ≡ taken_by (shape_of t e))
        → tree_extent (data_tree t k) ≡ taken_by (shape_of t k)
    extent_at k h before = by (kind_of t k) refl
      where
        s : Stands (shapes_of t) k (kind_of t k)
        s = number_stands k

        tree : (kind : TypeKind) → kind_of t k ≡ kind → tree_extent (data_tree t k) ≡ tree_extent (tree_by (data_tree t) (record_row t) kind)
        tree kind is = ap tree_extent (tree_is t fine k) ∙ ap (λ q. tree_extent (tree_by (data_tree t) (record_row t) q)) is

        -- a record or a scalar
        whole : (kind : TypeKind) → kind_of t k ≡ kind → tree_extent (tree_by (data_tree t) (record_row t) kind) ≡ taken_by (kind_shape t s.front s.pointer kind)
            → tree_extent (data_tree t k) ≡ taken_by (shape_of t k)
        whole kind is e = tree kind is ∙ e ∙ sym (ap taken_by (s.shape ∙ ap (λ q. kind_shape t s.front s.pointer q) is))

        by : (kind : TypeKind) → kind_of t k ≡ kind → tree_extent (data_tree t k) ≡ taken_by (shape_of t k)
        by (TheKind.Array (Some n) e) is =
            let x = elements k (Some n) e is h in
            tree (TheKind.Array (Some n) e) is ∙ ap (in_a_row n) (before e x.before x.closed) ∙ sym (ap taken_by x.shape)
        by (TheKind.Array None e) is = whole (TheKind.Array None e) is refl
        by kind is = whole kind is refl

    extent_by_shape : (b k : ℕ) → k < b → is_closed (shape_of t k) ≡ true → tree_extent (data_tree t k) ≡ taken_by (shape_of t k)
    extent_by_shape zero k l h = absurd (omega (arith, l))
    extent_by_shape (suc b) k l h = extent_at k h (λ e less closed. extent_by_shape b e (omega (arith, less, l)) closed)

    pub extent_told : (k : ℕ) → is_closed (shape_of t k) ≡ true → tree_extent (data_tree t k) ≡ shape_extent (record_extent t) (shape_of t k)
    extent_told k h = extent_by_shape (suc k) k (omega arith) h
