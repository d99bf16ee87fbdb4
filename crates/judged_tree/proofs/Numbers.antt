-- The shape of a number follows from its entry.
use Rattle.std.proofs.Common.{◌≡◌, ℕ, zero, suc, ◌+◌, ◌<◌, ◌≤◌, List, [], ◌∷◌, ◌++◌, length, Option, Some, None, refl, sym, ap, ap₂, ◌∙◌, subst, arith}
use Rattle.std.specs.Prelude.{slice_index_or, slice_get}
use Rattle.std.proofs.lemmas.List.{length-append}
use Rattle.ob_types.specs.declared.types.TypeKind.{TypeKind}
use Rattle.ob_types.specs.declared.types.TypeKind.TheVariants as TheKind
use Rattle.ob_types.specs.declared.types.Formal.{Formal}
use Rattle.ob_types.specs.declared.types.Signature.{Signature}
use Rattle.ob_types.specs.Layout.{kind_of}
use Rattle.ob_types.specs.Table.{Table}
use Rattle.ob_judge.specs.Shapes.{Shape, Procedure, one}
use Rattle.judged_tree.specs.TypeShapes.{shape_at, array_shape, formals_shape, signature_shape, kind_shape, next_pointer, shapes_after, shapes_of, shape_of, pointer_bases}
use Rattle.judged_tree.specs.Tables.{are_before, is_before, HasPartsBefore, IsFromTheFront}

-- ---- what was there stays

at_left : (xs ys : List Shape) (i : ℕ) → i < length xs → shape_at (xs ++ ys) i ≡ shape_at xs i
at_left [] ys i l = absurd (omega (arith, l))
at_left (x ∷ xs) ys zero l = refl
at_left (x ∷ xs) ys (suc i) l = at_left xs ys i (omega (arith, l))

at_end : (xs : List Shape) (x : Shape) (n : ℕ) → n ≡ length xs → shape_at (xs ++ x ∷ []) n ≡ x
at_end [] x zero e = refl
at_end [] x (suc n) e = absurd (omega (arith, e))
at_end (y ∷ xs) x zero e = absurd (omega (arith, e))
at_end (y ∷ xs) x (suc n) e = at_end xs x n (omega (arith, e))

module _ (t : Table) where
  after_left : (ks : List TypeKind) (shapes : List Shape) (p i : ℕ) → i < length shapes → shape_at (shapes_after t shapes p ks) i ≡ shape_at shapes i
  after_left [] shapes p i l = refl
  after_left (k ∷ ks) shapes p i l =
      after_left ks (shapes ++ kind_shape t shapes p k ∷ []) (next_pointer t k p) i (let e = length-append shapes (kind_shape t shapes p k ∷ []) in omega (arith, e, l))
      ∙ at_left shapes (kind_shape t shapes p k ∷ []) i l

  -- a kind has one shape among shapes that agree on its parts

  formals_agree : (n : ℕ) (xs ys : List Shape) → ((i : ℕ) → i < n → shape_at xs i ≡ shape_at ys i) → (fs : List Formal) → are_before n fs → formals_shape xs fs ≡ formals_shape ys fs
  formals_agree n xs ys e [] h = refl
  formals_agree n xs ys e (f ∷ fs) h = ap₂ (λ a b. one f.variable a b) (e f.type_number h.0) (formals_agree n xs ys e fs h.1)

  signatures_agree : (n : ℕ) (xs ys : List Shape) → ((i : ℕ) → i < n → shape_at xs i ≡ shape_at ys i) → (o : Option Signature) → is_before n o → signature_shape xs o ≡ signature_shape ys o
  signatures_agree n xs ys e None h = absurd h
  signatures_agree n xs ys e (Some g) h = ap₂ (λ a b. Procedure a b) (formals_agree n xs ys e g.formals h.0) (e g.result h.1)

  kind_agrees : (n : ℕ) (xs ys : List Shape) → ((i : ℕ) → i < n → shape_at xs i ≡ shape_at ys i) → (p : ℕ) (kind : TypeKind) → HasPartsBefore t n kind → kind_shape t xs p kind ≡ kind_shape t ys p kind
  kind_agrees n xs ys e p (TheKind.Array m a) h = ap (λ s. array_shape m s) (e a h)
  kind_agrees n xs ys e p (TheKind.Procedure g) h = signatures_agree n xs ys e (slice_get t.signatures g) h
  kind_agrees n xs ys e p _ h = refl

  -- the number among pointer types of an entry, where the first has this
  abbrev pub pointer_from : ℕ → List TypeKind → ℕ → ℕ
  pointer_from p [] i = p
  pointer_from p (k ∷ ks) zero = p
  pointer_from p (k ∷ ks) (suc i) = pointer_from (next_pointer t k p) ks i

  abbrev pub entry : List TypeKind → ℕ → TypeKind
  entry ks i = slice_index_or ks i TheKind.Nothing

  after_at : (ks : List TypeKind) (shapes : List Shape) (p i n : ℕ) → n ≡ length shapes + i → i < length ks
      → ((j : ℕ) → j < length ks → HasPartsBefore t (length shapes + j) (entry ks j))
      → shape_at (shapes_after t shapes p ks) n ≡ kind_shape t (shapes_after t shapes p ks) (pointer_from p ks i) (entry ks i)
  after_at [] shapes p i n at l ok = absurd (omega (arith, l))
  after_at (k ∷ ks) shapes p zero n at l ok =
      let here = kind_shape t shapes p k in
      let grown = length-append shapes (here ∷ []) in
      let same : n ≡ length shapes = omega (arith, at) in
      let parts = subst (λ m. HasPartsBefore t m k) (plus_zero (length shapes)) (ok 0 (omega arith)) in
      after_left ks (shapes ++ here ∷ []) (next_pointer t k p) n (omega (arith, grown, same))
      ∙ at_end shapes here n same
      ∙ kind_agrees (length shapes) shapes (shapes_after t shapes p (k ∷ ks)) (λ i b. sym (after_left (k ∷ ks) shapes p i b)) p k parts
    where
      plus_zero : (m : ℕ) → m + 0 ≡ m
      plus_zero m = omega arith
  after_at (k ∷ ks) shapes p (suc i) n at l ok =
      let here = kind_shape t shapes p k in
      let grown = length-append shapes (here ∷ []) in
      after_at ks (shapes ++ here ∷ []) (next_pointer t k p) i n (omega (arith, grown, at)) (omega (arith, l))
      (λ j b. subst (λ m. HasPartsBefore t m (entry ks j)) (moved (length shapes) (length (shapes ++ here ∷ [])) j grown) (ok (suc j) (omega (arith, b))))
    where
      moved : (m n j : ℕ) → n ≡ m + 1 → m + suc j ≡ n + j
      moved m n j e = omega (arith, e)

  -- the number of a type's entry among the pointer types
  abbrev pub pointer_of : ℕ → ℕ
  pointer_of k = pointer_from 0 t.kinds k

  pub shape-of_kind : IsFromTheFront t → (k : ℕ) → k < length t.kinds → shape_of t k ≡ kind_shape t (shapes_of t) (pointer_of k) (kind_of t k)
  shape-of_kind front k l = after_at t.kinds [] 0 k k (omega arith) l (λ j b. subst (λ m. HasPartsBefore t m (entry t.kinds j)) (zero_plus j) (front.parts j b))
    where
      zero_plus : (j : ℕ) → j ≡ 0 + j
      zero_plus j = omega arith

  -- the record type that a pointer type points to
  base_at : (ks : List TypeKind) (p i r : ℕ) → entry ks i ≡ TheKind.Pointer r → (m : ℕ) × (pointer_from p ks i ≡ m + p) × (slice_get (pointer_bases ks) m ≡ Some (Some r))
  base_at [] p i r is = absurd (let z : TheKind.Nothing ≡ TheKind.Pointer r = is in cc)
  base_at (k ∷ ks) p zero r is = first k is
    where
      first : (k : TypeKind) → k ≡ TheKind.Pointer r → (m : ℕ) × (p ≡ m + p) × (slice_get (pointer_bases (k ∷ ks)) m ≡ Some (Some r))
      first (TheKind.Pointer s) e = (0, omega arith, ap (λ x. Some (Some x)) (same s e))
        where
          same : (s : ℕ) → TheKind.Pointer s ≡ TheKind.Pointer r → s ≡ r
          same s e = cc
      first _ e = absurd (let z = e in cc)
  base_at (k ∷ ks) p (suc i) r is = later k (base_at ks (next_pointer t k p) i r is)
    where
      later : (k : TypeKind) → (m : ℕ) × (pointer_from (next_pointer t k p) ks i ≡ m + next_pointer t k p) × (slice_get (pointer_bases ks) m ≡ Some (Some r)) → (m : ℕ) × (pointer_from (next_pointer t k p) ks i ≡ m + p) × (slice_get (pointer_bases (k ∷ ks)) m ≡ Some (Some r))
      later (TheKind.Pointer s) h = (suc h.0, (let e = h.1 in omega (arith, e)), h.2)
      later _ h = h

  pub pointer-base : (k r : ℕ) → kind_of t k ≡ TheKind.Pointer r → slice_get (pointer_bases t.kinds) (pointer_of k) ≡ Some (Some r)
  pointer-base k r is =
      let h = base_at t.kinds 0 k r is in
      let e : h.0 ≡ pointer_of k = (let same = h.1 in omega (arith, same)) in
      subst (λ m. slice_get (pointer_bases t.kinds) m ≡ Some (Some r)) e h.2

  -- two pointer types have two numbers
  no_less : (ks : List TypeKind) (p i : ℕ) → p ≤ pointer_from p ks i
  no_less [] p i = omega arith
  no_less (k ∷ ks) p zero = omega arith
  no_less (k ∷ ks) p (suc i) = let h = no_less ks (next_pointer t k p) i in let g = next k in omega (arith, h, g)
    where
      next : (k : TypeKind) → p ≤ next_pointer t k p
      next (TheKind.Pointer r) = omega arith
      next _ = omega arith

  apart : (ks : List TypeKind) (p i j r s : ℕ) → entry ks i ≡ TheKind.Pointer r → entry ks j ≡ TheKind.Pointer s → pointer_from p ks i ≡ pointer_from p ks j → i ≡ j
  apart [] p i j r s a b e = absurd (let z : TheKind.Nothing ≡ TheKind.Pointer r = a in cc)
  apart (k ∷ ks) p zero zero r s a b e = refl
  apart (k ∷ ks) p zero (suc j) r s a b e = absurd (let more = no_less ks (suc p) j in let is = e ∙ ap (λ q. pointer_from (next_pointer t q p) ks j) a in omega (arith, more, is))
  apart (k ∷ ks) p (suc i) zero r s a b e = absurd (let more = no_less ks (suc p) i in let is = sym e ∙ ap (λ q. pointer_from (next_pointer t q p) ks i) b in omega (arith, more, is))
  apart (k ∷ ks) p (suc i) (suc j) r s a b e = ap (λ m. suc m) (apart ks (next_pointer t k p) i j r s a b e)

  pub pointers-apart : (a b r s : ℕ) → kind_of t a ≡ TheKind.Pointer r → kind_of t b ≡ TheKind.Pointer s → pointer_of a ≡ pointer_of b → a ≡ b
  pointers-apart a b r s = apart t.kinds 0 a b r s
