-- Where numbers stand in lists that rise.
use Rattle.std.proofs.Common.{◌≡◌, ℕ, zero, suc, ◌-◌, ◌<◌, ◌≤◌, Bool, true, false, cond, List, [], ◌∷◌, length, get_or, Option, Some, None, refl, ap, ◌∙◌, arith}
use Rattle.std.specs.Prelude.{◌==◌, nat_lt, slice_get}
use Rattle.std.specs.List.Sorted.{IsPartitionPoint, IsPartitionedBy}
use Rattle.std.proofs.lemmas.Bool.{ltb-true, ltb-false, lt-ltb, eqb-true, and_parts, and_from}
use Rattle.std.proofs.lemmas.Option.{slice_get_within, get_or_from_slice_get}
use Rattle.std.proofs.lemmas.Bool.Decides.{nat_tests}
use Rattle.block_runs.specs.Live.{has}
use Rattle.lir_core.specs.Spots.{IsRising}
use Rattle.rising_lists.specs.Rising.{is_behind, rises_behind, rank, is_number}

---- What rises

pub rises : (xs : List ℕ) (p : Option ℕ) → rises_behind p xs ≡ true → IsRising xs
rises [] p e = tt
rises (x ∷ []) p e = tt
rises (x ∷ (y ∷ ys)) p e =
    let on = (and_parts (is_behind p x) (rises_behind (Some x) (y ∷ ys)) e).1 in
    (ltb-true x y (and_parts (nat_lt x y) (rises_behind (Some y) ys) on).0, rises (y ∷ ys) (Some x) on)

risen_behind : (x : ℕ) (xs : List ℕ) → IsRising (x ∷ xs) → rises_behind (Some x) xs ≡ true
risen_behind x [] r = refl
risen_behind x (y ∷ ys) r = and_from (nat_lt x y) (rises_behind (Some y) ys) (lt-ltb x y r.0) (risen_behind y ys r.1)

pub risen : (xs : List ℕ) → IsRising xs → rises_behind None xs ≡ true
risen [] r = refl
risen (x ∷ xs) r = risen_behind x xs r

pub rising_tail : (x : ℕ) (xs : List ℕ) → IsRising (x ∷ xs) → IsRising xs
rising_tail x [] r = tt
rising_tail x (y ∷ ys) r = r.1

pub head_below : (x : ℕ) (xs : List ℕ) (k d : ℕ) → IsRising (x ∷ xs) → k < length xs → x < get_or xs k d
head_below x [] k d r l = absurd (omega (arith, l))
head_below x (y ∷ ys) zero d r l = r.0
head_below x (y ∷ ys) (suc k) d r l =
    let a = r.0 in
    let b = head_below y ys k d r.1 (omega (arith, l)) in
    omega (arith, a, b)

pub rises_on : (xs : List ℕ) (i j d : ℕ) → IsRising xs → i ≤ j → j < length xs → get_or xs i d ≤ get_or xs j d
rises_on [] i j d r l m = absurd (omega (arith, m))
rises_on (x ∷ xs) zero zero d r l m = omega arith
rises_on (x ∷ xs) zero (suc j) d r l m = let a = head_below x xs j d r (omega (arith, m)) in omega (arith, a)
rises_on (x ∷ xs) (suc i) zero d r l m = absurd (omega (arith, l))
rises_on (x ∷ xs) (suc i) (suc j) d r l m = rises_on xs i j d (rising_tail x xs r) (omega (arith, l)) (omega (arith, m))

pub parted : (v : ℕ) (xs : List ℕ) → IsRising xs → IsPartitionedBy (λ x. nat_lt x v) xs
parted v xs r i j d l m e =
    let a = rises_on xs i j d r l m in
    let b = ltb-true (get_or xs j d) v e in
    lt-ltb (get_or xs i d) v (omega (arith, a, b))

---- Ranks

pub rank_bound : (v : ℕ) (xs : List ℕ) → rank v xs ≤ length xs
rank_bound v [] = omega arith
rank_bound v (x ∷ xs) = at_test (nat_lt x v) (rank_bound v xs)
  where
    at_test : (b : Bool) → rank v xs ≤ length xs → cond b (suc (rank v xs)) 0 ≤ suc (length xs)
    at_test true h = omega (arith, h)
    at_test false h = omega arith

-- the number at an index below the rank is below, and where it is below in a rising list, the index is below the rank
pub below_rank : (v : ℕ) (xs : List ℕ) (k d : ℕ) → IsRising xs → k < length xs → get_or xs k d < v → k < rank v xs
below_rank v [] k d r l b = absurd (omega (arith, l))
below_rank v (x ∷ xs) zero d r l b = at_test (nat_lt x v) (lt-ltb x v b)
  where
    at_test : (t : Bool) → t ≡ true → 0 < cond t (suc (rank v xs)) 0
    at_test true e = omega arith
    at_test false e = cc
below_rank v (x ∷ xs) (suc k) d r l b = at_test (nat_lt x v) (lt-ltb x v (let a = head_below x xs k d r (omega (arith, l)) in omega (arith, a, b))) (below_rank v xs k d (rising_tail x xs r) (omega (arith, l)) b)
  where
    at_test : (t : Bool) → t ≡ true → k < rank v xs → suc k < cond t (suc (rank v xs)) 0
    at_test true e h = omega (arith, h)
    at_test false e h = cc

not_lt : (v x : ℕ) → v ≤ x → nat_lt x v ≡ false
not_lt v x l = grind (arith, nat_tests)

pub not_below : (v : ℕ) (xs : List ℕ) (k d : ℕ) → k < length xs → v ≤ get_or xs k d → rank v xs ≤ k
not_below v [] k d l b = absurd (omega (arith, l))
not_below v (x ∷ xs) zero d l b = at_test (nat_lt x v) (not_lt v x b)
  where
    at_test : (t : Bool) → t ≡ false → cond t (suc (rank v xs)) 0 ≤ 0
    at_test true e = cc
    at_test false e = omega arith
not_below v (x ∷ xs) (suc k) d l b = at_test (nat_lt x v) (not_below v xs k d (omega (arith, l)) b)
  where
    at_test : (t : Bool) → rank v xs ≤ k → cond t (suc (rank v xs)) 0 ≤ suc k
    at_test true h = omega (arith, h)
    at_test false h = omega arith

pub rank_is : (v : ℕ) (xs : List ℕ) (k : ℕ) → IsPartitionPoint (λ x. nat_lt x v ≡ true) (λ x. nat_lt x v ≡ false) xs k → k ≤ length xs → k ≡ rank v xs
rank_is v [] k point l = omega (arith, l)
rank_is v (x ∷ xs) zero point l = at_test (nat_lt x v) (point.1 0 0 (omega arith) (omega arith))
  where
    at_test : (t : Bool) → t ≡ false → 0 ≡ cond t (suc (rank v xs)) 0
    at_test true e = cc
    at_test false e = refl
rank_is v (x ∷ xs) (suc k) point l =
    at_test (nat_lt x v) (point.0 0 0 (omega arith) (omega arith))
    (rank_is v xs k ((λ i d a b. point.0 (suc i) d (omega arith) (omega (arith, b))), (λ i d a b. point.1 (suc i) d (omega (arith, a)) (omega (arith, b)))) (omega (arith, l)))
  where
    at_test : (t : Bool) → t ≡ true → k ≡ rank v xs → suc k ≡ cond t (suc (rank v xs)) 0
    at_test true e h = ap suc h
    at_test false e h = cc

pub all_below : (v : ℕ) (xs : List ℕ) (d : ℕ) → IsRising xs → 0 < length xs → get_or xs (length xs - 1) d < v → rank v xs ≡ length xs
all_below v xs d r l b =
    let below = below_rank v xs (length xs - 1) d r (omega (arith, l)) b in
    let bound = rank_bound v xs in
    omega (arith, below, bound, l)

---- What is in a rising list

pub not_in : (x : ℕ) (xs : List ℕ) (v : ℕ) → IsRising (x ∷ xs) → v ≤ x → has xs v ≡ false
not_in x [] v r l = refl
not_in x (y ∷ ys) v r l = at_test (y == v) refl (not_in y ys v r.1 (let a = r.0 in omega (arith, a, l)))
  where
    at_test : (t : Bool) → (y == v) ≡ t → has ys v ≡ false → cond t true (has ys v) ≡ false
    at_test true e on = let a = r.0 in let b = eqb-true y v e in absurd (omega (arith, a, b, l))
    at_test false e on = on

pub has_at_rank : (xs : List ℕ) (v : ℕ) → IsRising xs → has xs v ≡ is_number (slice_get xs (rank v xs)) v
has_at_rank [] v r = refl
has_at_rank (x ∷ xs) v r = at_test (nat_lt x v) refl (has_at_rank xs v (rising_tail x xs r))
  where
    or_no : (b c : Bool) → c ≡ false → cond b true c ≡ b
    or_no true c e = refl
    or_no false c e = e

    other : (b c : Bool) → b ≡ false → cond b true c ≡ c
    other true c e = cc
    other false c e = refl

    at_test : (t : Bool) → nat_lt x v ≡ t → has xs v ≡ is_number (slice_get xs (rank v xs)) v → cond (x == v) true (has xs v) ≡ is_number (slice_get (x ∷ xs) (cond t (suc (rank v xs)) 0)) v
    at_test true e on = other (x == v) (has xs v) (grind (arith, nat_tests)) ∙ on
    at_test false e on = or_no (x == v) (has xs v) (not_in x xs v r (ltb-false x v e))

pub found_below : (xs : List ℕ) (k x v : ℕ) → slice_get xs k ≡ Some x → x < v → IsRising xs → k < rank v xs
found_below xs k x v e l r =
    let is = get_or_from_slice_get xs k x 0 e in
    below_rank v xs k 0 r (slice_get_within xs k x e) (omega (arith, is, l))

pub last_below : (xs : List ℕ) (x v : ℕ) → slice_get xs (length xs - 1) ≡ Some x → x < v → IsRising xs → rank v xs ≡ length xs
last_below xs x v e l r =
    let below = found_below xs (length xs - 1) x v e l r in
    let bound = rank_bound v xs in
    omega (arith, below, bound)
