-- Elements of sets, bytes, and relations of values.
use Rattle.std.proofs.Common.{◌≡◌, ◌≢◌, ℕ, zero, suc, ◌<◌, ◌⊎◌, List, [], ◌∷◌, Bool, false, not, ⊎_elim, inl, inr, refl, sym, ap, ap₂, ◌∙◌, subst, arith, Some, None, eq-eqb, ne_eqb}
use Rattle.std.specs.Prelude.{option_map, nat_eq, bit_or}
use Rattle.std.proofs.lemmas.Bool.{cases_eq}
use Rattle.run_laws.specs.Turns.{Ending, Gives, Fails, Spent, after, give, ◌>>=◌}
use Rattle.run_laws.specs.Turns.{State as At}
use Rattle.a64_memory.specs.Memory.{Area}
use Rattle.wrapping_numbers.specs.Sets.{has, bit_words, span_words, has_words}
use Rattle.wrapping_numbers.proofs.Bounds.{or64_lt}
use Rattle.block_runs.specs.declared.code.Code.TheVariants.{Or, Set, Bit, Span, Has, Elem, Byte}
use Rattle.block_runs.specs.Compares.{compares}
use Rattle.ob_types.specs.Store.{Cell, Bits, Pointer, Store, Trap, Act, bits, given, unless}
use Rattle.ob_types.specs.Store.{Code as Procedure}
use Rattle.ob_types.specs.Operators.{truth, inside, elements, relation_of, related, same_cell}
use Rattle.ob_types.specs.Expressions.{compared, contained, with_element, with_range, as_byte}
use Rattle.ob_types.specs.declared.tree.Relation.{Relation}
use Rattle.ob_types.specs.declared.tree.Relation.TheVariants.{Equal, Unequal, Less, LessEqual, Greater, GreaterEqual}
use Rattle.ob_sound.proofs.Numbers.{truth_lt, elements_lt}
use Rattle.ssa_lowered.specs.Pieces.{Low, Mask, emits}
use Rattle.ssa_lowered.specs.Pieces.{◌>>=◌ as ◌>>>◌}
use Rattle.ssa_lowered.specs.Values.{condition, member}
use Rattle.ssa_lowered.specs.Values.{compared as lower_compared, contained as lower_contained, with_element as lower_element, with_range as lower_range, as_byte as lower_byte}
use Rattle.object_nodes.specs.Addresses.{Sides}
use Rattle.held_stores.specs.Places.{place, Thing, TagOf}
use Rattle.held_stores.proofs.Pieces.{place_above}
use Rattle.lowered_runs.specs.Words.{Whole, Level, Right, ground, ValueIs, Held}
use Rattle.lowered_runs.proofs.Stores.{some_same, code_is}
use Rattle.lowered_runs.proofs.Ready.{Goes}
use Rattle.lowered_runs.proofs.Numbers.{has_same, span_same, bit_same}
use Rattle.lowered_runs.proofs.Follows.{Done, Fact, And as Both, Steady, steady_and, Grows, grows_bind, grows_give, grows_emits, grows_does, Follows, follows_bind, follows_give, follows_known, follows_emits, acts_give, acts_senseless}
use Rattle.lowered_runs.proofs.Exprs.{CellIs, NumberIs, steady_cell, steady_number, made_bits, follows_bits, follows_number, follows_elem, follows_byte_test}

-- a value, and a test of it
abbrev pub checked : {A : Type 0} → Act A → (A → Act (Unit {0})) → Act A
checked m test = m >>= λ a. test a >>= λ _. give a

module _ {A B : Type 0} (test : A → Act (Unit {0})) (go : A → Act B) where
  inner : (a : A) (e : Ending Store Trap (Unit {0})) → after (after e (λ _ u. Gives a u)) go ≡ after e (λ _ u. go a u)
  inner a (Gives u t) = refl
  inner a (Fails trap out) = refl
  inner a (Spent out) = refl

  pub regroup : (e : Ending Store Trap A) → after (after e (λ a t. after (test a t) (λ _ u. Gives a u))) go ≡ after e (λ a t. after (test a t) (λ _ u. go a u))
  regroup (Gives a t) = inner a (test a t)
  regroup (Fails trap out) = refl
  regroup (Spent out) = refl

module _ (w : Whole) (l : Level) where
  -- two acts that come out the same
  pub follows_same : {A B : Type 0} {need fuel : ℕ} {mask : Mask} {K : Fact} {R : A → B → Fact} {low : Low B} (m n : Act A) → ((s : At Store) → m s ≡ n s) → Follows w l need fuel mask K R m low → Follows w l need fuel mask K R n low
  follows_same {mask = mask} {R = R} {low = low} m n same one = record {
    grows = one.grows;
    by = λ most g c f s room free le needs few stands fits within known typed r. subst (λ e. Goes w e (Done w l R mask most g c (low c) s.store f free)) (same s) (one.by most g c f s room free le needs few stands fits within known typed r);
  }

  -- an element of a set, tested
  abbrev pub Element : ℕ → ℕ → Fact
  Element a i = Both (NumberIs w l a i) (λ n f s. a < 64)

  pub steady_element : (a i : ℕ) → Steady w l (Element a i)
  steady_element a i = steady_and w l (steady_number w l a i) (record { by = λ n m f g s t le same later h. h })

  abbrev pub tested : Act Cell → Act ℕ
  tested x = checked (bits x) (λ a. unless l.proc 7 (inside a 64))

  pub follows_member : {need fuel : ℕ} {mask : Mask} {K : Fact} {x : Act Cell} {q : Low ℕ} → Steady w l K → Follows w l need fuel mask K (CellIs w l) x q → Follows w l need fuel mask K Element (tested x) (member q)
  follows_member {K = K} steady one = follows_bind w l steady (follows_bits w l steady one) (λ i. grows_bind w l (grows_does w l Elem (i ∷ [])) (λ u. grows_give w l i))
      (λ a i. record {
        grows = grows_bind w l (grows_does w l Elem (i ∷ [])) (λ u. grows_give w l i);
        by = λ most g c f s room free le needs few stands fits within known typed r.
            (follows_bind w l (steady_and w l steady (steady_number w l a i)) (follows_elem w l a i known.1.1.1) (λ u. grows_give w l i)
            (λ u v. follows_give w l a i (λ n f s h. (h.1.0.1, h.1.1)))).by most g c f s room free le needs few stands fits within known typed r;
      })

  pub grows_member : {q : Low ℕ} → Grows w l q → Grows w l (member q)
  grows_member one = grows_bind w l one (λ i. grows_bind w l (grows_does w l Elem (i ∷ [])) (λ u. grows_give w l i))

  -- IN
  pub follows_contained : {need fuel : ℕ} {mask : Mask} {K : Fact} {x y : Act Cell} {q r : Low ℕ} → Steady w l K → Follows w l need fuel mask K (CellIs w l) x q → Follows w l need fuel mask K (CellIs w l) y r → Follows w l need fuel mask K (CellIs w l) (contained l.proc x y) (lower_contained q r)
  follows_contained {x = x} {y = y} steady one two = follows_same (tested x >>= λ a. bits y >>= λ b. give (Bits (truth (has b a)))) (contained l.proc x y)
      (λ s. regroup (λ a. unless l.proc 7 (inside a 64)) (λ a. bits y >>= λ b. give (Bits (truth (has b a)))) (bits x s))
      (follows_bind w l steady (follows_member steady one) (λ i. grows_bind w l two.grows (λ j. grows_emits w l Has (i ∷ j ∷ [])))
      (λ a i. follows_bind w l (steady_and w l steady (steady_element a i)) (follows_known w l (λ n f s h. h.0) (follows_bits w l steady two)) (λ j. grows_emits w l Has (i ∷ j ∷ []))
      (λ b j. follows_emits w l Has (i ∷ j ∷ []) (λ n f m s held known.
      acts_give w l (Bits (truth (has b a))) (has_words (f i) (f j)) held refl refl
      (made_bits w l n (has_words (f i) (f j)) (truth (has b a)) f s.store (ap₂ has_words known.0.1.0.1.0 known.1.1.0 ∙ has_same a b known.0.1.1) (truth_lt (has b a)))))))

  -- a set with one more element
  or_bits : {need fuel : ℕ} {mask : Mask} {K : Fact} (b i e j : ℕ) → Follows w l need fuel mask (Both (Both K (NumberIs w l b i)) (NumberIs w l e j)) (CellIs w l) (give (Bits (bit_or b e))) (emits Or (i ∷ j ∷ []))
  or_bits b i e j = follows_emits w l Or (i ∷ j ∷ []) (λ n f m s held known. acts_give w l (Bits (bit_or b e)) (bit_or (f i) (f j)) held refl refl
      (made_bits w l n (bit_or (f i) (f j)) (bit_or b e) f s.store (ap₂ bit_or known.0.1.1.0 known.1.1.0) (or64_lt b e known.0.1.1.1 known.1.1.1)))

  pub element_bits : {need fuel : ℕ} {mask : Mask} {K : Fact} (a i : ℕ) → Follows w l need fuel mask (Both K (Element a i)) (λ (u : Unit {0}) j. NumberIs w l (elements a a) j) (give tt) (emits Bit (i ∷ []))
  element_bits {K = K} a i = record {
    grows = grows_emits w l Bit (i ∷ []);
    by = λ most g c f s room free le needs few stands fits within known typed r.
        (follows_number w l {K = Both K (Element a i)} (elements a a) Bit (i ∷ []) (elements_lt a a known.1.1 known.1.1) (λ n f m s held h. (bit_words (f i), refl, ap bit_words h.1.0.1.0 ∙ bit_same a h.1.1))).by most g c f s room free le needs few stands fits within known typed r;
  }

  span_bits : {need fuel : ℕ} {mask : Mask} {K : Fact} (a i b j : ℕ) → Follows w l need fuel mask (Both (Both K (Element a i)) (Element b j)) (λ (u : Unit {0}) k. NumberIs w l (elements a b) k) (give tt) (emits Span (i ∷ j ∷ []))
  span_bits {K = K} a i b j = record {
    grows = grows_emits w l Span (i ∷ j ∷ []);
    by = λ most g c f s room free le needs few stands fits within known typed r.
        (follows_number w l {K = Both (Both K (Element a i)) (Element b j)} (elements a b) Span (i ∷ j ∷ []) (elements_lt a b known.0.1.1 known.1.1) (λ n f m s held h. (span_words (f i) (f j), refl, ap₂ span_words h.0.1.0.1.0 h.1.0.1.0 ∙ span_same a b h.0.1.1 h.1.1))).by most g c f s room free le needs few stands fits within known typed r;
  }

  pub follows_element : {need fuel : ℕ} {mask : Mask} {K : Fact} {x y : Act Cell} {q r : Low ℕ} → Steady w l K → Follows w l need fuel mask K (CellIs w l) x q → Follows w l need fuel mask K (CellIs w l) y r → Follows w l need fuel mask K (CellIs w l) (with_element l.proc x y) (lower_element q r)
  follows_element {y = y} steady one two = follows_bind w l steady (follows_bits w l steady one) (λ i. grows_bind w l (grows_member two.grows) (λ j. grows_bind w l (grows_emits w l Bit (j ∷ [])) (λ e. grows_emits w l Or (i ∷ e ∷ []))))
      (λ b i. follows_same (tested y >>= λ a. give (Bits (bit_or b (elements a a)))) (bits y >>= λ a. unless l.proc 7 (inside a 64) >>= λ _. give (Bits (bit_or b (elements a a))))
      (λ s. regroup (λ a. unless l.proc 7 (inside a 64)) (λ a. give (Bits (bit_or b (elements a a)))) (bits y s))
      (follows_bind w l (steady_and w l steady (steady_number w l b i)) (follows_known w l (λ n f s h. h.0) (follows_member steady two)) (λ j. grows_bind w l (grows_emits w l Bit (j ∷ [])) (λ e. grows_emits w l Or (i ∷ e ∷ [])))
      (λ a j. follows_bind w l {m = give tt} {h = λ u. give (Bits (bit_or b (elements a a)))} (steady_and w l (steady_and w l steady (steady_number w l b i)) (steady_element a j)) (element_bits a j) (λ e. grows_emits w l Or (i ∷ e ∷ []))
      (λ u e. follows_known w l (λ n f s h. ((h.0.1, h.0.0.1), h.1)) (or_bits b i (elements a a) e)))))

  grows_span : (i j k : ℕ) → Grows w l (emits Span (j ∷ k ∷ []) >>> λ e. emits Or (i ∷ e ∷ []))
  grows_span i j k = grows_bind w l (grows_emits w l Span (j ∷ k ∷ [])) (λ e. grows_emits w l Or (i ∷ e ∷ []))

  grows_second : {t : Low ℕ} → Grows w l t → (i j : ℕ) → Grows w l (member t >>> λ k. emits Span (j ∷ k ∷ []) >>> λ e. emits Or (i ∷ e ∷ []))
  grows_second three i j = grows_bind w l (grows_member three) (λ k. grows_span i j k)

  -- with those of a range
  pub follows_range : {need fuel : ℕ} {mask : Mask} {K : Fact} {x y z : Act Cell} {q r t : Low ℕ} → Steady w l K → Follows w l need fuel mask K (CellIs w l) x q → Follows w l need fuel mask K (CellIs w l) y r → Follows w l need fuel mask K (CellIs w l) z t → Follows w l need fuel mask K (CellIs w l) (with_range l.proc x y z) (lower_range q r t)
  follows_range {y = y} {z = z} steady one two three = follows_bind w l steady (follows_bits w l steady one) (λ i. grows_bind w l (grows_member two.grows) (λ j. grows_second three.grows i j))
      (λ b i. follows_same (tested y >>= λ a. bits z >>= λ c. unless l.proc 7 (inside c 64) >>= λ _. give (Bits (bit_or b (elements a c)))) (bits y >>= λ a. unless l.proc 7 (inside a 64) >>= λ _. bits z >>= λ c. unless l.proc 7 (inside c 64) >>= λ _. give (Bits (bit_or b (elements a c))))
      (λ s. regroup (λ a. unless l.proc 7 (inside a 64)) (λ a. bits z >>= λ c. unless l.proc 7 (inside c 64) >>= λ _. give (Bits (bit_or b (elements a c)))) (bits y s))
      (follows_bind w l (steady_and w l steady (steady_number w l b i)) (follows_known w l (λ n f s h. h.0) (follows_member steady two)) (λ j. grows_second three.grows i j)
      (λ a j. follows_same (tested z >>= λ c. give (Bits (bit_or b (elements a c)))) (bits z >>= λ c. unless l.proc 7 (inside c 64) >>= λ _. give (Bits (bit_or b (elements a c))))
      (λ s. regroup (λ c. unless l.proc 7 (inside c 64)) (λ c. give (Bits (bit_or b (elements a c)))) (bits z s))
      (follows_bind w l (steady_and w l (steady_and w l steady (steady_number w l b i)) (steady_element a j)) (follows_known w l (λ n f s h. h.0.0) (follows_member steady three)) (λ k. grows_span i j k)
      (λ c k. follows_bind w l {m = give tt} {h = λ u. give (Bits (bit_or b (elements a c)))} (steady_and w l (steady_and w l (steady_and w l steady (steady_number w l b i)) (steady_element a j)) (steady_element c k)) (span_bits a j c k) (λ e. grows_emits w l Or (i ∷ e ∷ []))
      (λ u e. follows_known w l (λ n f s h. ((h.0.1, h.0.0.0.1), h.1)) (or_bits b i (elements a c) e)))))))

  -- a BYTE
  pub follows_byte : {need fuel : ℕ} {mask : Mask} {K : Fact} {x : Act Cell} {q : Low ℕ} → Steady w l K → Follows w l need fuel mask K (CellIs w l) x q → Follows w l need fuel mask K (CellIs w l) (as_byte l.proc x) (lower_byte q)
  follows_byte {K = K} steady one = follows_bind w l steady (follows_bits w l steady one) (λ i. grows_bind w l (grows_does w l Byte (i ∷ [])) (λ u. grows_give w l i))
      (λ a i. record {
        grows = grows_bind w l (grows_does w l Byte (i ∷ [])) (λ u. grows_give w l i);
        by = λ most g c f s room free le needs few stands fits within known typed r.
            (follows_bind w l (steady_and w l steady (steady_number w l a i)) (follows_byte_test w l a i known.1.1.1) (λ u. grows_give w l i)
            (λ u v. follows_give w l (Bits a) i (λ n f s h. h.1.0.1))).by most g c f s room free le needs few stands fits within known typed r;
      })

  ---- Relations

  alike : (x y a b : ℕ) → (a ≡ b → x ≡ y) → (x ≡ y → a ≡ b) → nat_eq x y ≡ nat_eq a b
  alike x y a b to from = ⊎_elim
      (λ (e : a ≡ b). eq-eqb x y (to e) ∙ sym (eq-eqb a b e))
      (λ (ne : a ≢ b). ne_eqb x y (λ e. ne (from e)) ∙ sym (ne_eqb a b ne))
      (cases_eq a b)

  apart_zero : (x y : ℕ) → x ≡ 0 → 0 < y → nat_eq x y ≡ false
  apart_zero x y e lt = ne_eqb x y (λ z. absurd (omega (arith, e, lt, z)))

  zero_apart : (x y : ℕ) → 0 < x → y ≡ 0 → nat_eq x y ≡ false
  zero_apart x y lt e = ne_eqb x y (λ z. absurd (omega (arith, e, lt, z)))

  abbrev pub Answers : Relation → Cell → Cell → ℕ → ℕ → Type 0
  Answers r c d x y = ((b : Bool) × (relation_of r c d ≡ Some b) × (compares (condition r) x y ≡ b)) ⊎ (relation_of r c d ≡ None)

  abbrev Same_cells : Cell → Cell → ℕ → ℕ → Type 0
  Same_cells c d x y = ((b : Bool) × (same_cell c d ≡ Some b) × (nat_eq x y ≡ b)) ⊎ (same_cell c d ≡ None)

  of_numbers : (r : Relation) (x y : ℕ) → compares (condition r) x y ≡ related r x y
  of_numbers Equal x y = refl
  of_numbers Unequal x y = refl
  of_numbers Less x y = refl
  of_numbers LessEqual x y = refl
  of_numbers Greater x y = refl
  of_numbers GreaterEqual x y = refl

  module _ (right : Right w) (s : Store) (m : List Area) (held : Held w l s m) where
    abbrev Is : Cell → ℕ → Type 0
    Is c x = ValueIs w s.tags c x

    -- two objects at one place are one
    object_one : (a b x : ℕ) → place (ground w) s.tags a ≡ Some x → place (ground w) s.tags b ≡ Some x → a ≡ b
    object_one a b x e g = elim (held.room.apart (TagOf a) (TagOf b) x 8 x 8 (e, refl) (g, refl)) [
      | inl same ↦ ap number same
      | inr far ↦ absurd (beside far)
    ]
      where
        number : Thing → ℕ
        number (TagOf o) = o
        number _ = 0

        beside : Sides x 8 x 8 → ⊥
        beside (inl le) = omega (arith, le)
        beside (inr le) = omega (arith, le)

    above : (a x : ℕ) → place (ground w) s.tags a ≡ Some x → 0 < x
    above a x e = let h = place_above (ground w) s.tags a x e in omega (arith, h)

    code_some : (g x : ℕ) → (ground w).code g ≡ Some x → 0 < x
    code_some g x e = let c = code_is w g x e in positive x (λ z. right.codes.nowhere g c.0 (sym c.1 ∙ z))
      where
        positive : (x : ℕ) → x ≢ 0 → 0 < x
        positive zero ne = absurd (ne refl)
        positive (suc x) ne = omega arith

    same_cells : (c d : Cell) (x y : ℕ) → Is c x → Is d y → Same_cells c d x y
    same_cells (Bits a) (Bits b) x y h g = inl (nat_eq a b, refl, ap₂ nat_eq h.0 g.0)
    same_cells (Pointer a) (Pointer b) x y h g = inl (
      nat_eq a b,
      refl,
      alike x y a b
          (λ e. some_same (ap (place (ground w) s.tags) (sym e) ∙ h) g)
          (λ e. object_one a b x h (g ∙ ap (λ n. Some n) (sym e))),
    )
    same_cells (Procedure a) (Procedure b) x y h g = inl (
      nat_eq a b,
      refl,
      alike x y a b
          (λ e. some_same (ap (ground w).code (sym e) ∙ h) g)
          (λ e. let i = code_is w a x h in let j = code_is w b y g in right.codes.apart a b i.0 j.0 (sym i.1 ∙ e ∙ j.1)),
    )
    same_cells (Bits zero) (Pointer b) x y h g = inl (false, refl, apart_zero x y h.0 (above b y g))
    same_cells (Bits zero) (Procedure b) x y h g = inl (false, refl, apart_zero x y h.0 (code_some b y g))
    same_cells (Pointer a) (Bits zero) x y h g = inl (false, refl, zero_apart x y (above a x h) g.0)
    same_cells (Procedure a) (Bits zero) x y h g = inl (false, refl, zero_apart x y (code_some a x h) g.0)
    same_cells (Bits (suc n)) (Pointer b) x y h g = inr refl
    same_cells (Bits (suc n)) (Procedure b) x y h g = inr refl
    same_cells (Pointer a) (Bits (suc n)) x y h g = inr refl
    same_cells (Procedure a) (Bits (suc n)) x y h g = inr refl
    same_cells (Pointer a) (Procedure b) x y h g = inr refl
    same_cells (Procedure a) (Pointer b) x y h g = inr refl

    not_same : (c d : Cell) (x y : ℕ) → Same_cells c d x y → ((b : Bool) × (option_map not (same_cell c d) ≡ Some b) × (not (nat_eq x y) ≡ b)) ⊎ (option_map not (same_cell c d) ≡ None)
    not_same c d x y = ⊎_elim (λ h. inl (not h.0, ap (option_map not) h.1, ap not h.2)) (λ h. inr (ap (option_map not) h))

    -- what the condition says of the numbers is what the relation says of the values
    pub answers : (r : Relation) (c d : Cell) (x y : ℕ) → Is c x → Is d y → Answers r c d x y
    answers r (Bits a) (Bits b) x y h g = inl (related r a b, refl, ap₂ (λ x y. compares (condition r) x y) h.0 g.0 ∙ of_numbers r a b)
    answers Equal (Bits a) (Pointer b) x y h g = same_cells (Bits a) (Pointer b) x y h g
    answers Equal (Bits a) (Procedure b) x y h g = same_cells (Bits a) (Procedure b) x y h g
    answers Equal (Pointer a) d x y h g = same_cells (Pointer a) d x y h g
    answers Equal (Procedure a) d x y h g = same_cells (Procedure a) d x y h g
    answers Unequal (Bits a) (Pointer b) x y h g = not_same (Bits a) (Pointer b) x y (same_cells (Bits a) (Pointer b) x y h g)
    answers Unequal (Bits a) (Procedure b) x y h g = not_same (Bits a) (Procedure b) x y (same_cells (Bits a) (Procedure b) x y h g)
    answers Unequal (Pointer a) d x y h g = not_same (Pointer a) d x y (same_cells (Pointer a) d x y h g)
    answers Unequal (Procedure a) d x y h g = not_same (Procedure a) d x y (same_cells (Procedure a) d x y h g)
    answers Less (Bits a) (Pointer b) x y h g = inr refl
    answers Less (Bits a) (Procedure b) x y h g = inr refl
    answers Less (Pointer a) d x y h g = inr refl
    answers Less (Procedure a) d x y h g = inr refl
    answers LessEqual (Bits a) (Pointer b) x y h g = inr refl
    answers LessEqual (Bits a) (Procedure b) x y h g = inr refl
    answers LessEqual (Pointer a) d x y h g = inr refl
    answers LessEqual (Procedure a) d x y h g = inr refl
    answers Greater (Bits a) (Pointer b) x y h g = inr refl
    answers Greater (Bits a) (Procedure b) x y h g = inr refl
    answers Greater (Pointer a) d x y h g = inr refl
    answers Greater (Procedure a) d x y h g = inr refl
    answers GreaterEqual (Bits a) (Pointer b) x y h g = inr refl
    answers GreaterEqual (Bits a) (Procedure b) x y h g = inr refl
    answers GreaterEqual (Pointer a) d x y h g = inr refl
    answers GreaterEqual (Procedure a) d x y h g = inr refl

  pub follows_compared : {need fuel : ℕ} {mask : Mask} {K : Fact} {x y : Act Cell} {q r : Low ℕ} (right : Right w) (rel : Relation) → Steady w l K → Follows w l need fuel mask K (CellIs w l) x q → Follows w l need fuel mask K (CellIs w l) y r → Follows w l need fuel mask K (CellIs w l) (compared rel x y) (lower_compared rel q r)
  follows_compared {K = K} right rel steady one two = follows_bind w l steady one
      (λ i. grows_bind w l two.grows (λ j. grows_emits w l (Set (condition rel)) (i ∷ j ∷ [])))
      (λ c i. follows_bind w l (steady_and w l steady (steady_cell w l c i)) (follows_known w l (λ n f s h. h.0) two)
      (λ j. grows_emits w l (Set (condition rel)) (i ∷ j ∷ []))
      (λ d j. follows_emits w l (Set (condition rel)) (i ∷ j ∷ []) (λ n f m s held known. ⊎_elim
      (λ (z : (t : Bool) × (relation_of rel c d ≡ Some t) × (compares (condition rel) (f i) (f j) ≡ t)). acts_give w l (Bits (truth z.0)) (truth (compares (condition rel) (f i) (f j))) held
      (ap (λ o. after (given o s) (λ answer. give (Bits (truth answer)))) z.1) refl
      (made_bits w l n (truth (compares (condition rel) (f i) (f j))) (truth z.0) f s.store (ap truth z.2) (truth_lt z.0)))
      (λ (z : relation_of rel c d ≡ None). acts_senseless w l (ap (λ o. after (given o s) (λ answer. give (Bits (truth answer)))) z))
      (answers right s.store m held rel c d (f i) (f j) known.0.1.1 known.1.1))))
