-- Sets of values.
use Rattle.std.proofs.Common.{◌≡◌, ℕ, suc, ◌<◌, Bool, true, false, not, cond, List, [], ◌∷◌, ◌++◌, filter, refl, sym, ap, ap₂, subst, ◌∙◌, append_assoc, append-nil, arith}
use Rattle.std.specs.Prelude.{◌==◌, nat_lt, slice_get, insert, remove}
use Rattle.std.proofs.lemmas.Bool.{eqb-true}
use Rattle.std.proofs.lemmas.Bool.Decides.{nat_tests}
use Rattle.block_runs.specs.Live.{has}
use Rattle.lir_core.specs.Spots.{IsRising}
use Rattle.rising_lists.specs.Rising.{rank, is_number}
use Rattle.rising_lists.proofs.Ranks.{has_at_rank, not_in}
use Rattle.rising_lists.proofs.Ranks.{rising_tail as rising_tail_of}
use Rattle.loc_state.specs.Homed.{inserted, all_inserted, others}

---- Lists that rise, with a value and without

-- a value that isn't where it would stand is put there
pub insert_is : (v : ℕ) (xs : List ℕ) → is_number (slice_get xs (rank v xs)) v ≡ false → insert xs (rank v xs) v ≡ inserted v xs
insert_is v [] e = refl
insert_is v (x ∷ xs) e = at_test (nat_lt x v) refl (insert_is v xs) e
  where
    not_less : nat_lt x v ≡ true → nat_lt v x ≡ false
    not_less e = grind (arith, nat_tests)

    not_same : nat_lt x v ≡ true → (v == x) ≡ false
    not_same e = grind (arith, nat_tests)

    less : nat_lt x v ≡ false → (x == v) ≡ false → nat_lt v x ≡ true
    less e f = grind (arith, nat_tests)

    at_test : (t : Bool) → nat_lt x v ≡ t → (is_number (slice_get xs (rank v xs)) v ≡ false → insert xs (rank v xs) v ≡ inserted v xs)
        → is_number (slice_get (x ∷ xs) (cond t (suc (rank v xs)) 0)) v ≡ false → insert (x ∷ xs) (cond t (suc (rank v xs)) 0) v ≡ inserted v (x ∷ xs)
    at_test true t on e =
        ap (λ ys. x ∷ ys) (on e) ∙ sym (ap (λ b. cond b (v ∷ (x ∷ xs)) (cond (v == x) (x ∷ xs) (x ∷ inserted v xs))) (not_less t) ∙ ap (λ b. cond b (x ∷ xs) (x ∷ inserted v xs)) (not_same t))
    at_test false t on e = sym (ap (λ b. cond b (v ∷ (x ∷ xs)) (cond (v == x) (x ∷ xs) (x ∷ inserted v xs))) (less t e))

-- and one that is there stays alone
pub insert_there : (v : ℕ) (xs : List ℕ) → is_number (slice_get xs (rank v xs)) v ≡ true → xs ≡ inserted v xs
insert_there v [] e = cc
insert_there v (x ∷ xs) e = at_test (nat_lt x v) refl (insert_there v xs) e
  where
    not_less : nat_lt x v ≡ true → nat_lt v x ≡ false
    not_less e = grind (arith, nat_tests)

    not_same : nat_lt x v ≡ true → (v == x) ≡ false
    not_same e = grind (arith, nat_tests)

    none_less : (x == v) ≡ true → nat_lt v x ≡ false
    none_less e = grind (arith, nat_tests)

    turned : (x == v) ≡ true → (v == x) ≡ true
    turned e = grind (arith, nat_tests)

    at_test : (t : Bool) → nat_lt x v ≡ t → (is_number (slice_get xs (rank v xs)) v ≡ true → xs ≡ inserted v xs)
        → is_number (slice_get (x ∷ xs) (cond t (suc (rank v xs)) 0)) v ≡ true → (x ∷ xs) ≡ inserted v (x ∷ xs)
    at_test true t on e =
        ap (λ ys. x ∷ ys) (on e) ∙ sym (ap (λ b. cond b (v ∷ (x ∷ xs)) (cond (v == x) (x ∷ xs) (x ∷ inserted v xs))) (not_less t) ∙ ap (λ b. cond b (x ∷ xs) (x ∷ inserted v xs)) (not_same t))
    at_test false t on e = sym (ap (λ b. cond b (v ∷ (x ∷ xs)) (cond (v == x) (x ∷ xs) (x ∷ inserted v xs))) (none_less e) ∙ ap (λ b. cond b (x ∷ xs) (x ∷ inserted v xs)) (turned e))

-- nothing is taken from a list that lacks the value
keeps : (v : ℕ) (xs : List ℕ) → has xs v ≡ false → xs ≡ others v xs
keeps v [] e = refl
keeps v (x ∷ xs) e = at_test (x == v) e (keeps v xs)
  where
    at_test : (t : Bool) → cond t true (has xs v) ≡ false → (has xs v ≡ false → xs ≡ others v xs) → (x ∷ xs) ≡ cond (not t) (x ∷ others v xs) (others v xs)
    at_test true e on = cc
    at_test false e on = ap (λ ys. x ∷ ys) (on e)

pub remove_none : (v : ℕ) (xs : List ℕ) → IsRising xs → is_number (slice_get xs (rank v xs)) v ≡ false → xs ≡ others v xs
remove_none v xs r e = keeps v xs (has_at_rank xs v r ∙ e)

pub remove_is : (v : ℕ) (xs : List ℕ) → IsRising xs → is_number (slice_get xs (rank v xs)) v ≡ true → remove xs (rank v xs) ≡ others v xs
remove_is v [] r e = cc
remove_is v (x ∷ xs) r e = at_test (nat_lt x v) refl (remove_is v xs (rising_tail_of x xs r)) e
  where
    other : nat_lt x v ≡ true → (x == v) ≡ false
    other e = grind (arith, nat_tests)

    rest : (x == v) ≡ true → has xs v ≡ false
    rest e = not_in x xs v r (let s = eqb-true x v e in omega (arith, s))

    at_test : (t : Bool) → nat_lt x v ≡ t → (is_number (slice_get xs (rank v xs)) v ≡ true → remove xs (rank v xs) ≡ others v xs)
        → is_number (slice_get (x ∷ xs) (cond t (suc (rank v xs)) 0)) v ≡ true → remove (x ∷ xs) (cond t (suc (rank v xs)) 0) ≡ others v (x ∷ xs)
    at_test true t on e = ap (λ ys. x ∷ ys) (on e) ∙ sym (ap (λ b. cond (not b) (x ∷ others v xs) (others v xs)) (other t))
    at_test false t on e = keeps v xs (rest e) ∙ sym (ap (λ b. cond (not b) (x ∷ others v xs) (others v xs)) e)

-- where a value was sought and what was found there
pub found_at : (v : ℕ) (xs s t : List ℕ) (at : ℕ) (b : Bool) → s ≡ xs → t ≡ xs → (IsRising s → at ≡ rank v s) → b ≡ is_number (slice_get t at) v → IsRising xs
    → (at ≡ rank v xs) × (is_number (slice_get xs (rank v xs)) v ≡ b)
found_at v xs s t at b e f sought found r =
    let is : at ≡ rank v xs = sought (subst IsRising (sym e) r) ∙ ap (rank v) e in
    (is, sym (found ∙ ap₂ (λ (ys : List ℕ) (k : ℕ). is_number (slice_get ys k) v) f is))

pub removed_at : (v : ℕ) (xs s t new : List ℕ) (at : ℕ) → s ≡ xs → t ≡ xs → (IsRising s → at ≡ rank v s) → true ≡ is_number (slice_get t at) v → IsRising xs → new ≡ remove xs at → new ≡ others v xs
removed_at v xs s t new at e f sought found r is =
    let at_rank = found_at v xs s t at true e f sought found r in
    is ∙ ap (remove xs) at_rank.0 ∙ remove_is v xs r at_rank.1

-- a list that rises is the set of its values
inserted_last : (v : ℕ) (xs ys : List ℕ) → IsRising (xs ++ v ∷ ys) → inserted v xs ≡ xs ++ v ∷ []
inserted_last v [] ys r = refl
inserted_last v (x ∷ xs) ys r =
    let below : x < v = last_above x xs v ys r in
    ap (λ b. cond b (v ∷ (x ∷ xs)) (cond (v == x) (x ∷ xs) (x ∷ inserted v xs))) (not_less x v below)
    ∙ ap (λ b. cond b (x ∷ xs) (x ∷ inserted v xs)) (not_same x v below)
    ∙ ap (λ zs. x ∷ zs) (inserted_last v xs ys (rising_tail_of x (xs ++ v ∷ ys) r))
  where
    not_less : (x v : ℕ) → x < v → nat_lt v x ≡ false
    not_less x v l = grind (arith, nat_tests)

    not_same : (x v : ℕ) → x < v → (v == x) ≡ false
    not_same x v l = grind (arith, nat_tests)

    last_above : (x : ℕ) (xs : List ℕ) (v : ℕ) (ys : List ℕ) → IsRising (x ∷ (xs ++ v ∷ ys)) → x < v
    last_above x [] v ys r = r.0
    last_above x (z ∷ zs) v ys r = let a = r.0 in let b = last_above z zs v ys r.1 in omega (arith, a, b)

all_last : (vs xs : List ℕ) → IsRising (xs ++ vs) → all_inserted vs xs ≡ xs ++ vs
all_last [] xs r = sym (append-nil xs)
all_last (v ∷ vs) xs r =
    let more : (xs ++ v ∷ []) ++ vs ≡ xs ++ v ∷ vs = append_assoc xs (v ∷ []) vs in
    ap (all_inserted vs) (inserted_last v xs vs r) ∙ all_last vs (xs ++ v ∷ []) (subst IsRising (sym more) r) ∙ more

pub all_inserted_is : (vs : List ℕ) → IsRising vs → all_inserted vs [] ≡ vs
all_inserted_is vs r = all_last vs [] r

pub inserted_append : (xs ys homed : List ℕ) → all_inserted (xs ++ ys) homed ≡ all_inserted ys (all_inserted xs homed)
inserted_append [] ys homed = refl
inserted_append (x ∷ xs) ys homed = inserted_append xs ys (inserted x homed)

---- What is in them

pub has_inserted : (v : ℕ) (xs : List ℕ) (w : ℕ) → has (inserted v xs) w ≡ cond (v == w) true (has xs w)
has_inserted v [] w = refl
has_inserted v (x ∷ xs) w = at_tests (nat_lt v x) (v == x) refl (has_inserted v xs w)
  where
    swap : (a b c : Bool) → cond a true (cond b true c) ≡ cond b true (cond a true c)
    swap true true c = refl
    swap true false c = refl
    swap false true c = refl
    swap false false c = refl

    twice : (a c : Bool) → cond a true c ≡ cond a true (cond a true c)
    twice true c = refl
    twice false c = refl

    at_tests : (b c : Bool) → (v == x) ≡ c → has (inserted v xs) w ≡ cond (v == w) true (has xs w) → has (cond b (v ∷ (x ∷ xs)) (cond c (x ∷ xs) (x ∷ inserted v xs))) w ≡ cond (v == w) true (cond (x == w) true (has xs w))
    at_tests true c e on = refl
    at_tests false true e on = twice (x == w) (has xs w) ∙ ap (λ y. cond (y == w) true (cond (x == w) true (has xs w))) (sym (eqb-true v x e))
    at_tests false false e on = ap (cond (x == w) true) on ∙ swap (x == w) (v == w) (has xs w)

pub has_all_inserted : (vs xs : List ℕ) (w : ℕ) → has (all_inserted vs xs) w ≡ cond (has vs w) true (has xs w)
has_all_inserted [] xs w = refl
has_all_inserted (v ∷ vs) xs w = has_all_inserted vs (inserted v xs) w ∙ ap (cond (has vs w) true) (has_inserted v xs w) ∙ by (has vs w) (v == w) (has xs w)
  where
    by : (a b c : Bool) → cond a true (cond b true c) ≡ cond (cond b true a) true c
    by true true c = refl
    by true false c = refl
    by false true c = refl
    by false false c = refl

pub has_others : (xs : List ℕ) (v x : ℕ) → has (others v xs) x ≡ true → has xs x ≡ true
has_others [] v x e = e
has_others (y ∷ xs) v x e = at_test (y == v) e (has_others xs v x)
  where
    or_rest : (b c : Bool) → c ≡ true → cond b true c ≡ true
    or_rest true c e = refl
    or_rest false c e = e

    at_head : (xs ys : List ℕ) → (has ys x ≡ true → has xs x ≡ true) → (b : Bool) → cond b true (has ys x) ≡ true → cond b true (has xs x) ≡ true
    at_head xs ys on true e = refl
    at_head xs ys on false e = on e

    at_test : (b : Bool) → has (cond (not b) (y ∷ others v xs) (others v xs)) x ≡ true → (has (others v xs) x ≡ true → has xs x ≡ true) → cond (y == x) true (has xs x) ≡ true
    at_test true e on = or_rest (y == x) (has xs x) (on e)
    at_test false e on = at_head xs (others v xs) on (y == x) e

---- They rise

-- all numbers of a rising list are above one
pub Above : ℕ → List ℕ → Type 0
Above p [] = Unit {0}
Above p (x ∷ xs) = (p < x) × Above x xs

rising_tail : (x : ℕ) (xs : List ℕ) → IsRising (x ∷ xs) → Above x xs
unfolding Above
rising_tail x [] h = tt
rising_tail x (y ∷ xs) h = (h.0, rising_tail y xs h.1)

tail_rising : (x : ℕ) (xs : List ℕ) → Above x xs → IsRising (x ∷ xs)
unfolding Above
tail_rising x [] h = tt
tail_rising x (y ∷ xs) h = (h.0, tail_rising y xs h.1)

above_inserted : (p v : ℕ) (xs : List ℕ) → p < v → Above p xs → Above p (inserted v xs)
unfolding Above
above_inserted p v [] l h = (l, tt)
above_inserted p v (x ∷ xs) l h = at_tests (nat_lt v x) refl (v == x) refl (λ q. above_inserted x v xs q h.1)
  where
    at_tests : (b : Bool) → nat_lt v x ≡ b → (c : Bool) → (v == x) ≡ c → (x < v → Above x (inserted v xs)) → Above p (cond b (v ∷ (x ∷ xs)) (cond c (x ∷ xs) (x ∷ inserted v xs)))
    at_tests true e c f on = (l, (Rattle.std.proofs.lemmas.Bool.ltb-true v x e, h.1))
    at_tests false e true f on = h
    at_tests false e false f on = (h.0, on (grind (arith, nat_tests)))

pub inserted_rises : (v : ℕ) (xs : List ℕ) → IsRising xs → IsRising (inserted v xs)
unfolding Above
inserted_rises v [] h = tt
inserted_rises v (x ∷ xs) h = at_tests (nat_lt v x) refl (v == x) refl
  where
    at_tests : (b : Bool) → nat_lt v x ≡ b → (c : Bool) → (v == x) ≡ c → IsRising (cond b (v ∷ (x ∷ xs)) (cond c (x ∷ xs) (x ∷ inserted v xs)))
    at_tests true e c f = (Rattle.std.proofs.lemmas.Bool.ltb-true v x e, h)
    at_tests false e true f = h
    at_tests false e false f = tail_rising x (inserted v xs) (above_inserted x v xs (grind (arith, nat_tests)) (rising_tail x xs h))

pub all_inserted_rises : (vs xs : List ℕ) → IsRising xs → IsRising (all_inserted vs xs)
all_inserted_rises [] xs h = h
all_inserted_rises (v ∷ vs) xs h = all_inserted_rises vs (inserted v xs) (inserted_rises v xs h)

lower : (p q : ℕ) (xs : List ℕ) → p < q → Above q xs → Above p xs
unfolding Above
lower p q [] l h = tt
lower p q (x ∷ xs) l h = (let a = h.0 in omega (arith, l, a), h.1)

above_filter : (t : ℕ → Bool) (p : ℕ) (xs : List ℕ) → Above p xs → Above p (filter t xs)
unfolding Above
above_filter t p [] h = tt
above_filter t p (x ∷ xs) h = at_test (t x) (above_filter t x xs h.1)
  where
    at_test : (b : Bool) → Above x (filter t xs) → Above p (cond b (x ∷ filter t xs) (filter t xs))
    at_test true on = (h.0, on)
    at_test false on = lower p x (filter t xs) h.0 on

pub filter_rises : (t : ℕ → Bool) (xs : List ℕ) → IsRising xs → IsRising (filter t xs)
unfolding Above
filter_rises t [] h = tt
filter_rises t (x ∷ xs) h = at_test (t x) (above_filter t x xs (rising_tail x xs h))
  where
    rest : (x : ℕ) (xs : List ℕ) → Above x xs → IsRising xs
    rest x [] h = tt
    rest x (y ∷ xs) h = tail_rising y xs h.1

    at_test : (b : Bool) → Above x (filter t xs) → IsRising (cond b (x ∷ filter t xs) (filter t xs))
    at_test true on = tail_rising x (filter t xs) on
    at_test false on = rest x (filter t xs) on

pub others_rise : (v : ℕ) (xs : List ℕ) → IsRising xs → IsRising (others v xs)
others_rise v xs r = filter_rises (λ x. not (x == v)) xs r
