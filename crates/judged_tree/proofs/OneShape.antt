-- Where no two entries say the same, different numbers are different types.
use Rattle.std.proofs.Common.{◌≡◌, ℕ, zero, suc, ◌<◌, ◌≤◌, List, [], ◌∷◌, length, Bool, true, false, ◌&&◌, ◌||◌, Option, Some, None, refl, sym, ap, ap₂, ◌∙◌, subst, arith, eqb-true, eq-eqb, ◌⊎◌, inl, inr}
use Rattle.std.specs.Prelude.{◌==◌, slice_get, slice_index_or}
use Rattle.std.proofs.lemmas.List.{get_or_past}
use Rattle.ob_types.specs.declared.types.TypeKind.{TypeKind}
use Rattle.ob_types.specs.declared.types.TypeKind.TheVariants as TheKind
use Rattle.ob_types.specs.declared.types.Formal.{Formal}
use Rattle.ob_types.specs.declared.types.Signature.{Signature}
use Rattle.ob_types.specs.Layout.{kind_of, signature_of}
use Rattle.ob_types.specs.Assignable.{same_length, same_mode, both_or_neither, same_formal, same_formals, same_kind, same_within, same}
use Rattle.ob_types.specs.Counted.{HasOneNumberEach}
use Rattle.ob_types.specs.Table.{Table}
use Rattle.ob_types.proofs.Tests.{no, and_of, and_from, less_or_past, none_some, some_same}
use Rattle.ob_judge.specs.Shapes.{Shape, Formals, Array, Open, Pointer, Procedure, one}
use Rattle.judged_tree.specs.TypeShapes.{array_shape, formals_shape, signature_shape, kind_shape, shapes_of, shape_of}
use Rattle.judged_tree.specs.Tables.{are_before, is_before, HasPartsBefore, IsFromTheFront, same_parameters, same_signatures, same_entry, HasEachOnce, HasOneShapeEach}
use Rattle.judged_tree.proofs.Numbers.{shape-of_kind, pointer_of, pointers-apart}

both_self : (b : Bool) → both_or_neither b b ≡ true
both_self true = refl
both_self false = refl

length_self : (n : Option ℕ) → same_length n n ≡ true
length_self None = refl
length_self (Some n) = eq-eqb n n refl

both_is : (a b : Bool) → both_or_neither a b ≡ true → a ≡ b
both_is true b h = sym h
both_is false true h = no h
both_is false false h = refl

module _ (t : Table) (each : HasEachOnce t) (front : IsFromTheFront t) where
  -- ---- equal shapes, from what stands before

  abbrev Told : ℕ → Type 0
  Told n = (a b : ℕ) → a < n → a < length t.kinds → b < length t.kinds → shape_of t a ≡ shape_of t b → a ≡ b

  parameters : (n m : ℕ) → n < length t.kinds → m < length t.kinds → Told n → (xs ys : List Formal) → are_before n xs → are_before m ys → formals_shape (shapes_of t) xs ≡ formals_shape (shapes_of t) ys → same_parameters xs ys ≡ true
  parameters n m l k told [] [] a b e = refl
  parameters n m l k told [] (y ∷ ys) a b e = absurd (let z = e in cc)
  parameters n m l k told (x ∷ xs) [] a b e = absurd (let z = e in cc)
  parameters n m l k told (x ∷ xs) (y ∷ ys) a b e =
      and_from (both_or_neither x.variable y.variable && (x.type_number == y.type_number)) (same_parameters xs ys)
      (and_from (both_or_neither x.variable y.variable) (x.type_number == y.type_number)
      (subst (λ v. both_or_neither x.variable v ≡ true) (variables x.variable y.variable (shape_of t x.type_number) (shape_of t y.type_number) (formals_shape (shapes_of t) xs) (formals_shape (shapes_of t) ys) e) (both_self x.variable))
      (eq-eqb x.type_number y.type_number (let p = a.0 in let q = b.0 in told x.type_number y.type_number p (omega (arith, p, l)) (omega (arith, q, k)) (types x.variable y.variable (shape_of t x.type_number) (shape_of t y.type_number) (formals_shape (shapes_of t) xs) (formals_shape (shapes_of t) ys) e))))
      (parameters n m l k told xs ys a.1 b.1 (rests x.variable y.variable (shape_of t x.type_number) (shape_of t y.type_number) (formals_shape (shapes_of t) xs) (formals_shape (shapes_of t) ys) e))
    where
      variables : (v u : Bool) (s r : Shape) (ps qs : Formals) → one v s ps ≡ one u r qs → v ≡ u
      variables v u s r ps qs e = cc

      types : (v u : Bool) (s r : Shape) (ps qs : Formals) → one v s ps ≡ one u r qs → s ≡ r
      types v u s r ps qs e = cc

      rests : (v u : Bool) (s r : Shape) (ps qs : Formals) → one v s ps ≡ one u r qs → ps ≡ qs
      rests v u s r ps qs e = cc

  arrays : (n : ℕ) → n < length t.kinds → Told n → (m : ℕ) → m < length t.kinds → (j k : Option ℕ) (a b : ℕ) → a < n → b < m → array_shape j (shape_of t a) ≡ array_shape k (shape_of t b) → (same_length j k && (a == b)) ≡ true
  arrays n l told m h None None a b p q e = eq-eqb a b (told a b p (omega (arith, p, l)) (omega (arith, q, h)) (elements (shape_of t a) (shape_of t b) e))
    where
      elements : (s u : Shape) → Open s ≡ Open u → s ≡ u
      elements s u e = cc
  arrays n l told m h (Some i) (Some j) a b p q e = and_from (i == j) (a == b) (eq-eqb i j (lengths (shape_of t a) (shape_of t b) e)) (eq-eqb a b (told a b p (omega (arith, p, l)) (omega (arith, q, h)) (elements (shape_of t a) (shape_of t b) e)))
    where
      lengths : (s u : Shape) → Array i s ≡ Array j u → i ≡ j
      lengths s u e = cc

      elements : (s u : Shape) → Array i s ≡ Array j u → s ≡ u
      elements s u e = cc
  arrays n l told m h None (Some j) a b p q e = absurd (let z = e in cc)
  arrays n l told m h (Some i) None a b p q e = absurd (let z = e in cc)

  signatures : (n m : ℕ) → n < length t.kinds → m < length t.kinds → Told n → (o q : Option Signature) → is_before n o → is_before m q → signature_shape (shapes_of t) o ≡ signature_shape (shapes_of t) q → same_signatures o q ≡ true
  signatures n m l h told (Some f) (Some g) p q e =
      let below = p.1 in
      let past = q.1 in
      and_from (same_parameters f.formals g.formals) (f.result == g.result)
      (parameters n m l h told f.formals g.formals p.0 q.0 (parameters_of (formals_shape (shapes_of t) f.formals) (formals_shape (shapes_of t) g.formals) (shape_of t f.result) (shape_of t g.result) e))
      (eq-eqb f.result g.result (told f.result g.result below (omega (arith, below, l)) (omega (arith, past, h)) (result_of (formals_shape (shapes_of t) f.formals) (formals_shape (shapes_of t) g.formals) (shape_of t f.result) (shape_of t g.result) e)))
    where
      parameters_of : (ps qs : Formals) (s u : Shape) → Procedure ps s ≡ Procedure qs u → ps ≡ qs
      parameters_of ps qs s u e = cc

      result_of : (ps qs : Formals) (s u : Shape) → Procedure ps s ≡ Procedure qs u → s ≡ u
      result_of ps qs s u e = cc
  signatures n m l h told None q a b e = absurd a
  signatures n m l h told o None a b e = absurd b

  -- two entries of one shape are one
  entries : (n m : ℕ) → n < length t.kinds → m < length t.kinds → Told n → (k f : TypeKind) → kind_of t n ≡ k → kind_of t m ≡ f → HasPartsBefore t n k → HasPartsBefore t m f
      → kind_shape t (shapes_of t) (pointer_of t n) k ≡ kind_shape t (shapes_of t) (pointer_of t m) f → (same_entry t k f ≡ true) ⊎ (n ≡ m)
  entries n m l h told TheKind.Int TheKind.Int a b p q e = inl refl
  entries n m l h told TheKind.Bool TheKind.Bool a b p q e = inl refl
  entries n m l h told TheKind.Char TheKind.Char a b p q e = inl refl
  entries n m l h told TheKind.Byte TheKind.Byte a b p q e = inl refl
  entries n m l h told TheKind.Set TheKind.Set a b p q e = inl refl
  entries n m l h told TheKind.Nil TheKind.Nil a b p q e = inl refl
  entries n m l h told TheKind.Nothing TheKind.Nothing a b p q e = inl refl
  entries n m l h told (TheKind.Text i) (TheKind.Text j) a b p q e = inl (eq-eqb i j (let z = e in cc))
  entries n m l h told (TheKind.Array i c) (TheKind.Array j d) a b p q e = inl (arrays n l told m h i j c d p q e)
  entries n m l h told (TheKind.Record r) (TheKind.Record s) a b p q e = inl (eq-eqb r s (let z = e in cc))
  entries n m l h told (TheKind.Pointer r) (TheKind.Pointer s) a b p q e = inr (pointers-apart t n m r s a b (numbers (pointer_of t n) (pointer_of t m) e))
    where
      numbers : (i j : ℕ) → Pointer i ≡ Pointer j → i ≡ j
      numbers i j e = cc
  entries n m l h told (TheKind.Procedure f) (TheKind.Procedure g) a b p q e = inl (signatures n m l h told (slice_get t.signatures f) (slice_get t.signatures g) p q e)
  entries n m l h told (TheKind.Array (Some i) c) f a b p q e = absurd (let z = e in cc)
  entries n m l h told (TheKind.Array None c) f a b p q e = absurd (let z = e in cc)
  entries n m l h told k (TheKind.Array (Some i) c) a b p q e = absurd (let z = e in cc)
  entries n m l h told k (TheKind.Array None c) a b p q e = absurd (let z = e in cc)
  entries n m l h told k f a b p q e = absurd (let z = e in cc)

  told_up_to : (n : ℕ) → Told n
  told_up_to zero a b l h k e = absurd (omega (arith, l))
  told_up_to (suc n) a b l h k e =
      settled (entries a b h k (λ c d m i j f. told_up_to n c d (omega (arith, l, m)) i j f) (kind_of t a) (kind_of t b) refl refl (front.parts a h) (front.parts b k)
      (sym (shape-of_kind t front a h) ∙ e ∙ shape-of_kind t front b k))
    where
      settled : (same_entry t (kind_of t a) (kind_of t b) ≡ true) ⊎ (a ≡ b) → a ≡ b
      settled (inl same) = each.once a b h k same
      settled (inr is) = is

  pub one-shape : HasOneShapeEach t
  one-shape = record { one = λ a b h k e. told_up_to (suc a) a b (omega arith) h k e }

module _ (t : Table) (each : HasEachOnce t) (front : IsFromTheFront t) where
  -- ---- the same by their numbers

  abbrev AreOne : (ℕ → ℕ → Bool) → Type 0
  AreOne test = (a b : ℕ) → test a b ≡ true → a ≡ b

  formals_one : (test : ℕ → ℕ → Bool) → AreOne test → (xs ys : List Formal) → same_formals test xs ys ≡ true → same_parameters xs ys ≡ true
  formals_one test o [] [] h = refl
  formals_one test o (x ∷ xs) (y ∷ ys) h =
      let g = and_of (same_formal test x y) (same_formals test xs ys) h in
      let f = and_of (same_mode x.mode y.mode) (both_or_neither x.variable y.variable && test x.type_number y.type_number) g.0 in
      let e = and_of (both_or_neither x.variable y.variable) (test x.type_number y.type_number) f.1 in
      and_from (both_or_neither x.variable y.variable && (x.type_number == y.type_number)) (same_parameters xs ys)
      (and_from (both_or_neither x.variable y.variable) (x.type_number == y.type_number) e.0 (eq-eqb x.type_number y.type_number (o x.type_number y.type_number e.1)))
      (formals_one test o xs ys g.1)
  formals_one test o _ _ h = no h

  signature_at : (o : Option Signature) (n : ℕ) → is_before n o → (g : ℕ) → slice_get t.signatures g ≡ o → o ≡ Some (signature_of t g)
  signature_at None n h g is = absurd h
  signature_at (Some x) n h g is = ap (λ y. Some y) (found t.signatures g is)
    where
      found : (xs : List Signature) (g : ℕ) → slice_get xs g ≡ Some x → x ≡ slice_index_or xs g (record { formals = []; result = 0 })
      found [] g is = none_some x is
      found (y ∷ ys) zero is = sym (some_same y x is)
      found (y ∷ ys) (suc g) is = found ys g is

  entry_one : (test : ℕ → ℕ → Bool) → AreOne test → (n m : ℕ) (k f : TypeKind) → HasPartsBefore t n k → HasPartsBefore t m f → same_kind t test k f ≡ true → same_entry t k f ≡ true
  entry_one test o n m TheKind.Int TheKind.Int p q h = refl
  entry_one test o n m TheKind.Bool TheKind.Bool p q h = refl
  entry_one test o n m TheKind.Char TheKind.Char p q h = refl
  entry_one test o n m TheKind.Byte TheKind.Byte p q h = refl
  entry_one test o n m TheKind.Set TheKind.Set p q h = refl
  entry_one test o n m TheKind.Nil TheKind.Nil p q h = refl
  entry_one test o n m (TheKind.Text i) (TheKind.Text j) p q h = h
  entry_one test o n m (TheKind.Array i a) (TheKind.Array j b) p q h = let g = and_of (same_length i j) (test a b) h in and_from (same_length i j) (a == b) g.0 (eq-eqb a b (o a b g.1))
  entry_one test o n m (TheKind.Procedure f) (TheKind.Procedure g) p q h =
      let x = signature_of t f in
      let y = signature_of t g in
      let parts = and_of (same_formals test x.formals y.formals) (test x.result y.result) h in
      ap₂ (λ u v. same_signatures u v) (signature_at (slice_get t.signatures f) n p f refl) (signature_at (slice_get t.signatures g) m q g refl)
      ∙ and_from (same_parameters x.formals y.formals) (x.result == y.result) (formals_one test o x.formals y.formals parts.0) (eq-eqb x.result y.result (o x.result y.result parts.1))
  entry_one test o n m _ _ p q h = no h

  -- what isn't in the table is the same as nothing else
  there : (test : ℕ → ℕ → Bool) (a b : ℕ) → same_kind t test (kind_of t a) (kind_of t b) ≡ true → (a < length t.kinds) × (b < length t.kinds)
  there test a b h = (left (less_or_past a (length t.kinds)), right (less_or_past b (length t.kinds)))
    where
      never : (k : TypeKind) → same_kind t test k TheKind.Nothing ≡ true → ⊥
      never TheKind.Int h = no h
      never (TheKind.Procedure f) h = no h
      never _ h = no h

      left : (a < length t.kinds) ⊎ (length t.kinds ≤ a) → a < length t.kinds
      left (inl l) = l
      left (inr p) = no (subst (λ k. same_kind t test k (kind_of t b) ≡ true) (get_or_past t.kinds a TheKind.Nothing p) h)

      right : (b < length t.kinds) ⊎ (length t.kinds ≤ b) → b < length t.kinds
      right (inl l) = l
      right (inr p) = absurd (never (kind_of t a) (subst (λ k. same_kind t test (kind_of t a) k ≡ true) (get_or_past t.kinds b TheKind.Nothing p) h))

  within_one : (d : ℕ) → AreOne (same_within t d)
  within_one zero a b h = eqb-true a b h
  within_one (suc d) a b h = by (within_one d) (a == b) refl h
    where
      by : AreOne (same_within t d) → (e : Bool) → (a == b) ≡ e → (e || same_kind t (same_within t d) (kind_of t a) (kind_of t b)) ≡ true → a ≡ b
      by told true is h = eqb-true a b is
      by told false is h = let l = there (same_within t d) a b h in each.once a b l.0 l.1 (entry_one (same_within t d) told a b (kind_of t a) (kind_of t b) (front.parts a l.0) (front.parts b l.1) h)

  pub one-number : HasOneNumberEach t
  one-number = record { one = within_one (length t.kinds) }
