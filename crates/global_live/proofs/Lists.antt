-- What is in a list of numbers, and how often.
use Rattle.std.proofs.Common.{◌≡◌, ℕ, suc, ◌+◌, ◌<◌, ◌==◌, Bool, true, false, ◌||◌, ◌&&◌, cond, List, [], ◌∷◌, ◌++◌, refl, sym, ap, ◌∙◌, arith, inl, inr, ◌⊎◌}
use Rattle.std.specs.Prelude.{nat_lt, filter}
use Rattle.std.specs.List.{list_all}
use Rattle.std.proofs.lemmas.Bool.{eqb-true, eq-eqb, ltb-true, and_parts}
use Rattle.block_runs.specs.Live.{has}
use Rattle.block_runs.specs.Valid.{times}

pub has-append : (xs ys : List ℕ) (v : ℕ) → has (xs ++ ys) v ≡ (has xs v || has ys v)
has-append [] ys v = refl
has-append (x ∷ xs) ys v = at_test (x == v) (has-append xs ys v)
  where
    at_test : (b : Bool) → has (xs ++ ys) v ≡ (has xs v || has ys v) → cond b true (has (xs ++ ys) v) ≡ (cond b true (has xs v) || has ys v)
    at_test true on = refl
    at_test false on = on

pub has_front : (xs ys : List ℕ) (v : ℕ) → has xs v ≡ true → has (xs ++ ys) v ≡ true
has_front xs ys v h = has-append xs ys v ∙ ap (λ b. b || has ys v) h

pub has_back : (xs ys : List ℕ) (v : ℕ) → has ys v ≡ true → has (xs ++ ys) v ≡ true
has_back xs ys v h = has-append xs ys v ∙ or_true (has xs v) h
  where
    or_true : (a : Bool) → has ys v ≡ true → (a || has ys v) ≡ true
    or_true true h = refl
    or_true false h = h

pub not_in_front : (xs ys : List ℕ) (v : ℕ) → has (xs ++ ys) v ≡ false → has xs v ≡ false
not_in_front xs ys v h = at_test (has xs v) refl
  where
    at_test : (b : Bool) → has xs v ≡ b → has xs v ≡ false
    at_test true e = let a = has_front xs ys v e in cc
    at_test false e = e

pub not_in_back : (xs ys : List ℕ) (v : ℕ) → has (xs ++ ys) v ≡ false → has ys v ≡ false
not_in_back xs ys v h = at_test (has ys v) refl
  where
    at_test : (b : Bool) → has ys v ≡ b → has ys v ≡ false
    at_test true e = let a = has_back xs ys v e in cc
    at_test false e = e

pub in_parts : (xs ys : List ℕ) (v : ℕ) → has (xs ++ ys) v ≡ true → ◌⊎◌ (has xs v ≡ true) (has ys v ≡ true)
in_parts xs ys v h = at_test (has xs v) refl (sym (has-append xs ys v) ∙ h)
  where
    at_test : (b : Bool) → has xs v ≡ b → (has xs v || has ys v) ≡ true → ◌⊎◌ (has xs v ≡ true) (has ys v ≡ true)
    at_test true e h' = inl e
    at_test false e h' = inr (sym (ap (λ b. b || has ys v) e) ∙ h')

same : (v : ℕ) → (v == v) ≡ true
same v = eq-eqb v v refl

pub has_one : (x v : ℕ) → has (x ∷ []) v ≡ true → x ≡ v
has_one x v h = eqb-true x v (at_test (x == v) refl h)
  where
    at_test : (b : Bool) → (x == v) ≡ b → cond b true false ≡ true → (x == v) ≡ true
    at_test true e h = e
    at_test false e h = cc

pub has_head : (x : ℕ) (xs : List ℕ) → has (x ∷ xs) x ≡ true
has_head x xs = ap (λ b. cond b true (has xs x)) (same x)

pub has_last : (x : ℕ) (xs : List ℕ) → has (xs ++ x ∷ []) x ≡ true
has_last x xs = has_back xs (x ∷ []) x (has_head x [])

-- the last element first
pub has_turned : (xs : List ℕ) (x v : ℕ) → has (x ∷ xs) v ≡ has (xs ++ x ∷ []) v
has_turned xs x v = at_test (x == v) (has xs v) ∙ sym (has-append xs (x ∷ []) v)
  where
    at_test : (a b : Bool) → cond a true b ≡ (b || cond a true false)
    at_test true true = refl
    at_test true false = refl
    at_test false true = refl
    at_test false false = refl

pub times-append : (xs ys : List ℕ) (v : ℕ) → times (xs ++ ys) v ≡ times xs v + times ys v
times-append [] ys v = omega arith
times-append (x ∷ xs) ys v = at_test (x == v) (times-append xs ys v)
  where
    at_test : (b : Bool) → times (xs ++ ys) v ≡ times xs v + times ys v → cond b (suc (times (xs ++ ys) v)) (times (xs ++ ys) v) ≡ cond b (suc (times xs v)) (times xs v) + times ys v
    at_test true on = omega (arith, on)
    at_test false on = on

pub times_of_in : (xs : List ℕ) (v : ℕ) → has xs v ≡ true → 0 < times xs v
times_of_in [] v h = cc
times_of_in (x ∷ xs) v h = at_test (x == v) (times_of_in xs v) h
  where
    at_test : (b : Bool) → (has xs v ≡ true → 0 < times xs v) → cond b true (has xs v) ≡ true → 0 < cond b (suc (times xs v)) (times xs v)
    at_test true on h = omega arith
    at_test false on h = on h

pub times_of_out : (xs : List ℕ) (v : ℕ) → has xs v ≡ false → times xs v ≡ 0
times_of_out [] v h = refl
times_of_out (x ∷ xs) v h = at_test (x == v) (times_of_out xs v) h
  where
    at_test : (b : Bool) → (has xs v ≡ false → times xs v ≡ 0) → cond b true (has xs v) ≡ false → cond b (suc (times xs v)) (times xs v) ≡ 0
    at_test true on h = cc
    at_test false on h = on h

pub has-filter : (p : ℕ → Bool) (xs : List ℕ) (v : ℕ) → has (filter p xs) v ≡ (has xs v && p v)
has-filter p [] v = refl
has-filter p (x ∷ xs) v = at_test (p x) refl (x == v) refl (has-filter p xs v)
  where
    and_false : (a : Bool) → (a && false) ≡ false
    and_false true = refl
    and_false false = refl

    at_test : (b : Bool) → p x ≡ b → (c : Bool) → (x == v) ≡ c → has (filter p xs) v ≡ (has xs v && p v) → has (cond b (x ∷ filter p xs) (filter p xs)) v ≡ (cond c true (has xs v) && p v)
    at_test true e true f ih = let a : p v ≡ true = ap p (sym (eqb-true x v f)) ∙ e in ap (λ c. cond c true (has (filter p xs) v)) f ∙ sym a
    at_test true e false f ih = ap (λ c. cond c true (has (filter p xs) v)) f ∙ ih
    at_test false e true f ih = let a : p v ≡ false = ap p (sym (eqb-true x v f)) ∙ e in ih ∙ ap (λ c. has xs v && c) a ∙ and_false (has xs v) ∙ sym a
    at_test false e false f ih = ih

pub all_below_in : (n : ℕ) (xs : List ℕ) (v : ℕ) → list_all (λ x. nat_lt x n) xs ≡ true → has xs v ≡ true → v < n
all_below_in n [] v a h = cc
all_below_in n (x ∷ xs) v a h = at_test (x == v) refl (all_below_in n xs v) h
  where
    parts : (nat_lt x n ≡ true) × (list_all (λ x. nat_lt x n) xs ≡ true)
    parts = and_parts (nat_lt x n) _ a

    at_test : (b : Bool) → (x == v) ≡ b → (list_all (λ x. nat_lt x n) xs ≡ true → has xs v ≡ true → v < n) → cond b true (has xs v) ≡ true → v < n
    at_test true e on h = let a = eqb-true x v e in let b = ltb-true x n parts.0 in omega arith
    at_test false e on h = on parts.1 h
