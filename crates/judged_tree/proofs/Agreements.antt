-- What a table says of types by number is what the judgement says of their shapes.
use Rattle.std.proofs.Common.{◌≡◌, ℕ, zero, suc, ◌+◌, ◌*◌, ◌<◌, length, Bool, true, false, ◌&&◌, ◌||◌, Option, Some, None, refl, sym, ap, ap₂, ◌∙◌, subst, arith, eqb-true, eq-eqb}
use Rattle.std.specs.Prelude.{◌==◌, nat_eq, nat_lt, slice_get}
use Rattle.ob_types.specs.declared.types.TypeKind.{TypeKind}
use Rattle.ob_types.specs.declared.types.TypeKind.TheVariants as TheKind
use Rattle.ob_types.specs.Layout.{kind_of, record_of, or_base, extends_within, cells_by, cells_within, record_within}
use Rattle.ob_types.specs.Layout.{extends as extends_record}
use Rattle.ob_types.specs.Layout.{cells as cells_of_type}
use Rattle.ob_types.specs.Assignable.{same_kind, same_within, extends_by, assignable_by}
use Rattle.ob_types.specs.Assignable.{same as same_type, extends as extends_type, assignable as may_assign}
use Rattle.ob_types.specs.Counted.{IsCounted, HasOneNumberEach}
use Rattle.ob_types.specs.Forms.{all_below, if_base, nests, record_nests, rooted, types_fine}
use Rattle.ob_types.specs.Table.{Table}
use Rattle.ob_types.proofs.Tests.{no, and_of, below}
use Rattle.ob_types.proofs.Counting.{cells-array, cells-record}
use Rattle.ob_judge.specs.Shapes.{Shape, Char, Text, Array, Open, Record, Pointer, Known, same, contains, line_of, record_extends, based_on, base_of, target_of, extends, cells, assignable}
use Rattle.judged_tree.specs.TypeShapes.{kind_shape, shapes_of, shape_of}
use Rattle.judged_tree.specs.Tables.{HasPartsBefore, IsFromTheFront, HasOneShapeEach, base_line, Knows}
use Rattle.judged_tree.proofs.Numbers.{shape-of_kind, pointer_of, pointer-base}
use Rattle.judged_tree.proofs.SameShapes.{same-self, same-is}

alike : (x y : Bool) → (x ≡ true → y ≡ true) → (y ≡ true → x ≡ true) → x ≡ y
alike true true f g = refl
alike true false f g = no (f refl)
alike false true f g = no (g refl)
alike false false f g = refl

turned : (a b : ℕ) → (a == b) ≡ nat_eq b a
turned a b = alike (a == b) (nat_eq b a) (λ h. eq-eqb b a (sym (eqb-true a b h))) (λ h. eq-eqb a b (sym (eqb-true b a h)))

or_none : (a : Bool) → (a || false) ≡ a
or_none true = refl
or_none false = refl

or_twice : (a : Bool) → (a || a) ≡ a
or_twice true = refl
or_twice false = refl

module _ (t : Table) where
  -- ---- the same type

  itself : (d a : ℕ) → same_within t d a a ≡ true
  itself zero a = eq-eqb a a refl
  itself (suc d) a = ap (λ b. b || same_kind t (same_within t d) (kind_of t a) (kind_of t a)) (eq-eqb a a refl)

  pub same-agrees : HasOneNumberEach t → HasOneShapeEach t → (a b : ℕ) → a < length t.kinds → b < length t.kinds → same_type t a b ≡ same (shape_of t a) (shape_of t b)
  same-agrees numbers shapes a b l h = alike (same_type t a b) (same (shape_of t a) (shape_of t b))
      (λ e. subst (λ c. same (shape_of t a) (shape_of t c) ≡ true) (numbers.one a b e) (same-self (shape_of t a)))
      (λ e. subst (λ c. same_type t a c ≡ true) (shapes.one a b l h (same-is (shape_of t a) (shape_of t b) e)) (itself (length t.kinds) a))

  module _ (known : Known) (knows : Knows known t) where
    -- ---- extensions

    first_only : (r b : ℕ) (o : Option ℕ) → if_base o (rooted t 0) ≡ true → (r == b) ≡ (nat_eq b r || contains b (base_line known o))
    first_only r b None h = turned r b ∙ sym (or_none (nat_eq b r))
    first_only r b (Some c) h = no h

    one_further : (d r b : ℕ) (o : Option ℕ) → ((c : ℕ) → o ≡ Some c → extends_within t d c b ≡ contains b (line_of (slice_get known.records c)))
        → (r == b || or_base o (λ a. extends_within t d a b)) ≡ (nat_eq b r || contains b (base_line known o))
    one_further d r b None go = ap (λ x. x || false) (turned r b)
    one_further d r b (Some c) go = ap₂ (λ x y. x || y) (turned r b) (go c refl)

    in_line : (d r b : ℕ) → r < length t.records → rooted t (suc d) r ≡ true → extends_within t d r b ≡ contains b (line_of (slice_get known.records r))
    in_line zero r b l h = first_only r b (record_of t r).base h ∙ ap (λ ns. contains b ns) (sym (knows.line r l))
    in_line (suc d) r b l h =
        one_further d r b (record_of t r).base (λ c is. in_line d c b (knows.base_there r c l is) (subst (λ o. if_base o (rooted t (suc d)) ≡ true) is h))
        ∙ ap (λ ns. contains b ns) (sym (knows.line r l))

    module _ (fine : types_fine t ≡ true) where
      root : (r : ℕ) → r < length t.records → rooted t (suc (length t.records)) r ≡ true
      root r l =
          let depth = suc (length t.kinds + length t.records) in
          let parts = and_of (all_below (length t.kinds) (nests t depth)) (all_below (length t.records) (record_nests t depth) && all_below (length t.records) (rooted t (suc (length t.records)))) fine in
          below (length t.records) (rooted t (suc (length t.records))) (and_of (all_below (length t.records) (record_nests t depth)) (all_below (length t.records) (rooted t (suc (length t.records)))) parts.1).1 r l

      pub records-agree : (r b : ℕ) → r < length t.records → extends_record t r b ≡ record_extends known r b
      records-agree r b l = in_line (length t.records) r b l (root r l)

      target : (k r : ℕ) → kind_of t k ≡ TheKind.Pointer r → target_of known (Pointer (pointer_of t k)) ≡ Some r
      target k r is = ap (λ bs. base_of (slice_get bs (pointer_of t k))) knows.bases ∙ ap (λ o. base_of o) (pointer-base t k r is)

      abbrev here : ℕ → TypeKind → Shape
      here n k = kind_shape t (shapes_of t) (pointer_of t n) k

      kinds_extend : (a b : ℕ) (k f : TypeKind) → kind_of t a ≡ k → kind_of t b ≡ f → extends_by t k f ≡ extends known (here a k) (here b f)
      kinds_extend a b (TheKind.Record r) (TheKind.Record s) i j = records-agree r s (knows.record_there a r i)
      kinds_extend a b (TheKind.Pointer r) (TheKind.Pointer s) i j =
          records-agree r s (knows.target_there a r i) ∙ sym (ap₂ (λ o q. based_on known o q) (target a r i) (target b s j))
      kinds_extend a b (TheKind.Array (Some n) e) f i j = refl
      kinds_extend a b (TheKind.Array None e) f i j = refl
      kinds_extend a b k (TheKind.Array (Some n) e) i j = refl
      kinds_extend a b k (TheKind.Array None e) i j = refl
      kinds_extend a b _ _ i j = refl

      module _ (front : IsFromTheFront t) where
        is_here : (k : ℕ) → k < length t.kinds → shape_of t k ≡ here k (kind_of t k)
        is_here k l = shape-of_kind t front k l

        pub extends-agrees : (a b : ℕ) → a < length t.kinds → b < length t.kinds → extends_type t a b ≡ extends known (shape_of t a) (shape_of t b)
        extends-agrees a b l h = kinds_extend a b (kind_of t a) (kind_of t b) refl refl ∙ sym (ap₂ (λ s u. extends known s u) (is_here a l) (is_here b h))

        -- ---- what may be assigned

        array_text : (n m a e : ℕ) (k : TypeKind) → (same_kind t (same_type t) k TheKind.Char && nat_lt m n) ≡ assignable known (Array n (here e k)) (Text m)
        array_text n m a e TheKind.Char = refl
        array_text n m a e (TheKind.Array (Some i) c) = refl
        array_text n m a e (TheKind.Array None c) = refl
        array_text n m a e _ = refl

        open_text : (m a e : ℕ) (k : TypeKind) → same_kind t (same_type t) k TheKind.Char ≡ assignable known (Open (here e k)) (Text m)
        open_text m a e TheKind.Char = refl
        open_text m a e (TheKind.Array (Some i) c) = refl
        open_text m a e (TheKind.Array None c) = refl
        open_text m a e _ = refl

        abbrev is_other : TypeKind → Bool
        is_other (TheKind.Text m) = false
        is_other (TheKind.Array n e) = false
        is_other _ = true

        open_else : (s : Shape) (b : ℕ) (f : TypeKind) → is_other f ≡ true → false ≡ assignable known (Open s) (here b f)
        open_else Char b (TheKind.Text m) h = no h
        open_else Char b (TheKind.Array n e) h = no h
        open_else Char b _ h = refl
        open_else _ b (TheKind.Text m) h = no h
        open_else _ b (TheKind.Array n e) h = no h
        open_else _ b _ h = refl

        array_else : (i : ℕ) (s : Shape) (b : ℕ) (f : TypeKind) → is_other f ≡ true → false ≡ assignable known (Array i s) (here b f)
        array_else i Char b (TheKind.Text m) h = no h
        array_else i Char b (TheKind.Array n e) h = no h
        array_else i Char b _ h = refl
        array_else i _ b (TheKind.Text m) h = no h
        array_else i _ b (TheKind.Array n e) h = no h
        array_else i _ b _ h = refl

        array_array : (i n : ℕ) (s u : Shape) → ((same (Array i s) (Array n u) || false) || false) ≡ assignable known (Array i s) (Array n u)
        array_array i n Char u = refl
        array_array i n _ u = refl

        array_open : (i : ℕ) (s u : Shape) → same s u ≡ assignable known (Array i s) (Open u)
        array_open i Char u = refl
        array_open i _ u = refl

        open_array : (s u : Shape) (n : ℕ) → same s u ≡ assignable known (Open s) (Array n u)
        open_array Char u n = refl
        open_array _ u n = refl

        open_open : (s u : Shape) → ((same s u || false) || false) ≡ assignable known (Open s) (Open u)
        open_open Char u = refl
        open_open _ u = refl

        module _ (numbers : HasOneNumberEach t) (shapes : HasOneShapeEach t) where
          same_here : (a b : ℕ) → a < length t.kinds → b < length t.kinds → same_type t a b ≡ same (shape_of t a) (shape_of t b)
          same_here = same-agrees numbers shapes

          or_extends : (x e y : Bool) → e ≡ y → (x || e) ≡ ((x || y) || false)
          or_extends x e y h = ap (λ z. x || z) h ∙ sym (or_none (x || y))

          part : (k : ℕ) (n : Option ℕ) (e : ℕ) → k < length t.kinds → kind_of t k ≡ TheKind.Array n e → e < length t.kinds
          part k n e l is = let h : e < k = subst (λ q. HasPartsBefore t k q) is (front.parts k l) in omega (arith, h, l)

          kinds_assign : (a b : ℕ) (k f : TypeKind) → a < length t.kinds → b < length t.kinds → kind_of t a ≡ k → kind_of t b ≡ f
              → (same (here a k) (here b f) || assignable_by t k f) ≡ assignable known (here a k) (here b f)
          kinds_assign a b (TheKind.Array (Some n) e) (TheKind.Text m) l h i j =
              array_text n m a e (kind_of t e) ∙ ap (λ s. assignable known (Array n s) (Text m)) (sym (is_here e (part a (Some n) e l i)))
          kinds_assign a b (TheKind.Array None e) (TheKind.Text m) l h i j =
              open_text m a e (kind_of t e) ∙ ap (λ s. assignable known (Open s) (Text m)) (sym (is_here e (part a None e l i)))
          kinds_assign a b (TheKind.Array (Some n) c) (TheKind.Array (Some m) d) l h i j = or_extends (same (here a (TheKind.Array (Some n) c)) (here b (TheKind.Array (Some m) d))) false false refl ∙ array_array n m (shape_of t c) (shape_of t d)
          kinds_assign a b (TheKind.Array None c) (TheKind.Array None d) l h i j =
              let e = same_here c d (part a None c l i) (part b None d h j) in
              ap (λ x. same (shape_of t c) (shape_of t d) || x) e ∙ or_twice (same (shape_of t c) (shape_of t d)) ∙ sym (or_none (same (shape_of t c) (shape_of t d))) ∙ or_extends (same (shape_of t c) (shape_of t d)) false false refl ∙ open_open (shape_of t c) (shape_of t d)
          kinds_assign a b (TheKind.Array None c) (TheKind.Array (Some m) d) l h i j = same_here c d (part a None c l i) (part b (Some m) d h j) ∙ open_array (shape_of t c) (shape_of t d) m
          kinds_assign a b (TheKind.Array (Some n) c) (TheKind.Array None d) l h i j = same_here c d (part a (Some n) c l i) (part b None d h j) ∙ array_open n (shape_of t c) (shape_of t d)
          kinds_assign a b (TheKind.Record r) (TheKind.Record s) l h i j =
              or_extends (nat_eq r s) (extends_by t (TheKind.Record s) (TheKind.Record r)) (extends known (Record s) (Record r)) (kinds_extend b a (TheKind.Record s) (TheKind.Record r) j i)
          kinds_assign a b (TheKind.Pointer r) (TheKind.Pointer s) l h i j =
              or_extends (nat_eq (pointer_of t a) (pointer_of t b)) (extends_by t (TheKind.Pointer s) (TheKind.Pointer r)) (extends known (Pointer (pointer_of t b)) (Pointer (pointer_of t a))) (kinds_extend b a (TheKind.Pointer s) (TheKind.Pointer r) j i)
          kinds_assign a b (TheKind.Text n) (TheKind.Text m) l h i j = or_extends (nat_eq n m) false false refl
          kinds_assign a b (TheKind.Procedure f) (TheKind.Procedure g) l h i j = or_extends (same (here a (TheKind.Procedure f)) (here b (TheKind.Procedure g))) false false refl
          kinds_assign a b (TheKind.Array (Some n) e) f l h i j = array_else n (shape_of t e) b f refl
          kinds_assign a b (TheKind.Array None e) f l h i j = open_else (shape_of t e) b f refl
          kinds_assign a b k (TheKind.Array (Some n) e) l h i j = refl
          kinds_assign a b k (TheKind.Array None e) l h i j = refl
          kinds_assign a b _ _ l h i j = refl

          pub assignable-agrees : (to from : ℕ) → to < length t.kinds → from < length t.kinds → may_assign t to from ≡ assignable known (shape_of t to) (shape_of t from)
          assignable-agrees to from l h =
              ap (λ x. x || assignable_by t (kind_of t to) (kind_of t from)) (same_here to from l h ∙ ap₂ (λ s u. same s u) (is_here to l) (is_here from h))
              ∙ kinds_assign to from (kind_of t to) (kind_of t from) l h refl refl
              ∙ sym (ap₂ (λ s u. assignable known s u) (is_here to l) (is_here from h))

        -- ---- cells

        module _ (counted : IsCounted t) where
          abbrev depth : ℕ
          depth = length t.kinds + length t.records

          kind_cells : (k : ℕ) → k < length t.kinds → ((e : ℕ) → e < k → cells_of_type t e ≡ cells known (shape_of t e))
              → (kind : TypeKind) → kind_of t k ≡ kind → cells_of_type t k ≡ cells known (here k kind)
          kind_cells k l go (TheKind.Array (Some n) e) is =
              cells-array t fine k n e l is ∙ ap (λ m. n * m) (go e (counted.element k (Some n) e is))
          kind_cells k l go (TheKind.Record r) is =
              let there = knows.record_there k r is in
              cells-record t fine k r l is ∙ sym (counted.records r there) ∙ sym (knows.cells r there)
          kind_cells k l go _ is = ap (λ kind. cells_by (cells_within t depth) (record_within t depth) kind) is

          up_to : (n k : ℕ) → k < n → k < length t.kinds → cells_of_type t k ≡ cells known (shape_of t k)
          up_to zero k l h = absurd (omega (arith, l))
          up_to (suc n) k l h =
              kind_cells k h (λ e b. up_to n e (omega (arith, b, l)) (omega (arith, b, h))) (kind_of t k) refl ∙ ap (λ s. cells known s) (sym (is_here k h))

          pub cells-agree : (k : ℕ) → k < length t.kinds → cells_of_type t k ≡ cells known (shape_of t k)
          cells-agree k = up_to (suc k) k (omega arith)
