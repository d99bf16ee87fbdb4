-- What tests say that came out true.
use Rattle.std.proofs.Common.{◌≡◌, ℕ, zero, suc, ◌<◌, ◌≤◌, List, [], ◌∷◌, Bool, true, false, ◌&&◌, Some, None, refl, sym, subst, arith, ◌⊎◌, inl, inr}
use Rattle.std.specs.Prelude.{slice_get}
use Rattle.ob_types.specs.Forms.{all, all_below}

pub none_some : {A X : Type 0} (x : A) → None ≡ Some x → X
none_some {A = A} x e = absurd (bad e)
  where
    bad : None ≡ Some x → ⊥
    bad e = cc

pub some_same : {A : Type 0} (a b : A) → Some a ≡ Some b → a ≡ b
some_same a b e = cc

pub no : {A : Type 0} → false ≡ true → A
no e = absurd (bad e)
  where
    bad : false ≡ true → ⊥
    bad e = cc

pub and_of : (a b : Bool) → (a && b) ≡ true → (a ≡ true) × (b ≡ true)
and_of true b h = (refl, h)
and_of false b h = no h

pub and_from : (a b : Bool) → a ≡ true → b ≡ true → (a && b) ≡ true
and_from true b h g = g
and_from false b h g = no h

pub less_or_past : (i n : ℕ) → (i < n) ⊎ (n ≤ i)
less_or_past i n = grind arith

-- a test of all numbers below one
pub below : (n : ℕ) (test : ℕ → Bool) → all_below n test ≡ true → (i : ℕ) → i < n → test i ≡ true
below zero test h i l = absurd (omega (arith, l))
below (suc n) test h i l = by_eq (eq_or_less i n l) (λ less. below n test (and_of (test n) (all_below n test) h).1 i less)
  where
    eq_or_less : (i n : ℕ) → i < suc n → (i ≡ n) ⊎ (i < n)
    eq_or_less i n l = grind arith

    by_eq : (i ≡ n) ⊎ (i < n) → (i < n → test i ≡ true) → test i ≡ true
    by_eq (inl e) go = subst (λ k. test k ≡ true) (sym e) (and_of (test n) (all_below n test) h).0
    by_eq (inr less) go = go less

pub below_from : (n : ℕ) (test : ℕ → Bool) → ((i : ℕ) → i < n → test i ≡ true) → all_below n test ≡ true
below_from zero test f = refl
below_from (suc n) test f = and_from (test n) (all_below n test) (f n (omega arith)) (below_from n test (λ i l. f i (omega (arith, l))))

-- a test of all items of a list
pub all_at : {A : Type 0} (test : A → Bool) (xs : List A) → all test xs ≡ true → (i : ℕ) (x : A) → slice_get xs i ≡ Some x → test x ≡ true
all_at test [] h i x at = none_some x at
all_at test (y ∷ ys) h zero x at = subst (λ z. test z ≡ true) (some_same y x at) (and_of (test y) (all test ys) h).0
all_at test (y ∷ ys) h (suc i) x at = all_at test ys (and_of (test y) (all test ys) h).1 i x at
