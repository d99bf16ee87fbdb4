-- Sums over lists that change at one place.
use Rattle.std.proofs.Common.{◌≡◌, ℕ, zero, suc, ◌+◌, ◌<◌, ◌≤◌, ◌≢◌, ◌⊎◌, List, [], ◌∷◌, ◌++◌, length, get_or, set, take, sym, refl, ap, ◌∙◌, inl, inr, ⊎_elim, arith, cond, eqb, eq-eqb, ne_eqb, lt-ltb, le-ltb}
use mathlib.Core.Logic.{dite}
use native.Mathlib.Decide.{ℕ_discrete, dec_lt}
use mathlib.Core.Option.{some, some-injective, some-ne-none}
use lib.ListN.{get_elem?}
use Rattle.pool_core.specs.Sums.{total, hit, under, times}

pub hit_same : (x y : ℕ) → x ≡ y → hit x y ≡ 1
unfolding hit
hit_same x y e = ap (λ b. cond b 1 0) (eq-eqb y x (sym e))

pub hit_else : (x y : ℕ) → x ≢ y → hit x y ≡ 0
unfolding hit
hit_else x y n = ap (λ b. cond b 1 0) (ne_eqb y x (λ e. n (sym e)))

pub hit-sym : (x y : ℕ) → hit x y ≡ hit y x
hit-sym x y = dite (ℕ_discrete x y) (λ e. hit_same x y e ∙ sym (hit_same y x (sym e))) (λ n. hit_else x y n ∙ sym (hit_else y x (λ e. n (sym e))))

pub hit-le : (x y : ℕ) → hit x y ≤ 1
hit-le x y = dite (ℕ_discrete x y) (λ e. let h = hit_same x y e in omega arith) (λ n. let h = hit_else x y n in omega arith)

pub under_in : (c n : ℕ) → c < n → under c n ≡ 1
unfolding under
under_in c n h = ap (λ b. cond b 1 0) (lt-ltb c n h)

pub under_out : (c n : ℕ) → n ≤ c → under c n ≡ 0
unfolding under
under_out c n h = ap (λ b. cond b 1 0) (le-ltb c n h)

pub under-le : (c n : ℕ) → under c n ≤ 1
under-le c n = dite (dec_lt c n) (λ h. let u = under_in c n h in omega arith) (λ h. let u = under_out c n (omega arith) in omega arith)

-- one more number below
pub under-suc : (c n : ℕ) → under c (n + 1) ≡ under c n + hit c n
under-suc c n = dite (ℕ_discrete c n)
    (λ e. let a = under_in c (n + 1) (omega arith) in let b = under_out c n (omega arith) in let h = hit_same c n e in omega arith)
    (λ ne. let h = hit_else c n ne in dite (dec_lt c n)
    (λ lt. let a = under_in c (n + 1) (omega arith) in let b = under_in c n lt in omega arith)
    (λ ge. let a = under_out c (n + 1) (omega arith) in let b = under_out c n (omega arith) in omega arith))

module _ {A : Type 0} where
  pub at_set : (l : List A) (i j : ℕ) (a b : A) → get_elem? (set l i a) j ≡ some b → ((j ≡ i) × (a ≡ b)) ⊎ ((j ≢ i) × (get_elem? l j ≡ some b))
  at_set [] i j a b e = absurd (some-ne-none b (sym e))
  at_set (x ∷ xs) zero zero a b e = inl (refl, some-injective a b e)
  at_set (x ∷ xs) zero (suc j) a b e = inr ((λ h. omega arith), e)
  at_set (x ∷ xs) (suc i) zero a b e = inr ((λ h. omega arith), e)
  at_set (x ∷ xs) (suc i) (suc j) a b e = ⊎_elim (λ t. inl (ap suc t.0, t.1)) (λ t. let n = t.0 in inr ((λ h. n (omega arith)), t.1)) (at_set xs i j a b e)

  pub at_index : (l : List A) (i : ℕ) (d : A) → i < length l → get_elem? l i ≡ some (get_or l i d)
  at_index [] i d h = absurd (omega arith)
  at_index (x ∷ xs) zero d h = refl
  at_index (x ∷ xs) (suc i) d h = at_index xs i d (omega arith)

  pub set_again : (l : List A) (i : ℕ) (a : A) → get_elem? l i ≡ some a → set l i a ≡ l
  set_again [] i a e = refl
  set_again (x ∷ xs) zero a e = λ k. sym (some-injective x a e) k ∷ xs
  set_again (x ∷ xs) (suc i) a e = λ k. x ∷ set_again xs i a e k

  pub get_or_at : (l : List A) (i : ℕ) (a d : A) → get_elem? l i ≡ some a → get_or l i d ≡ a
  get_or_at [] i a d e = absurd (some-ne-none a (sym e))
  get_or_at (x ∷ xs) zero a d e = some-injective x a e
  get_or_at (x ∷ xs) (suc i) a d e = get_or_at xs i a d e

  pub total-add : (f g : A → ℕ) (l : List A) → total (λ a. f a + g a) l ≡ total f l + total g l
  total-add f g [] = refl
  total-add f g (x ∷ xs) = omega (arith, total-add f g xs)

  pub take_whole : (l : List A) → take (length l) l ≡ l
  take_whole [] = refl
  take_whole (x ∷ xs) = ap (λ (l : List A). x ∷ l) (take_whole xs)

  pub get_or_past : (l : List A) (i : ℕ) (d : A) → length l ≤ i → get_or l i d ≡ d
  get_or_past [] i d h = refl
  get_or_past (x ∷ xs) zero d h = absurd (omega arith)
  get_or_past (x ∷ xs) (suc i) d h = get_or_past xs i d (omega arith)

  pub at_snoc : (l : List A) (a b : A) (j : ℕ) → get_elem? (l ++ a ∷ []) j ≡ some b → (get_elem? l j ≡ some b) ⊎ (a ≡ b)
  at_snoc [] a b zero e = inr (some-injective a b e)
  at_snoc [] a b (suc j) e = absurd (some-ne-none b (sym e))
  at_snoc (x ∷ xs) a b zero e = inl e
  at_snoc (x ∷ xs) a b (suc j) e = at_snoc xs a b j e

  module _ (g : A → ℕ) where
    pub total-append : (l m : List A) → total g (l ++ m) ≡ total g l + total g m
    total-append [] m = omega arith
    total-append (x ∷ xs) m = omega (arith, total-append xs m)

    pub total-set : (l : List A) (j : ℕ) (v w : A) → get_elem? l j ≡ some v → total g (set l j w) + g v ≡ total g l + g w
    total-set [] j v w e = absurd (some-ne-none v (sym e))
    total-set (x ∷ xs) zero v w e = omega (arith, ap g (some-injective x v e))
    total-set (x ∷ xs) (suc j) v w e = omega (arith, total-set xs j v w e)

    pub term_le : (l : List A) (j : ℕ) (v : A) → get_elem? l j ≡ some v → g v ≤ total g l
    term_le [] j v e = absurd (some-ne-none v (sym e))
    term_le (x ∷ xs) zero v e = omega (arith, ap g (some-injective x v e))
    term_le (x ∷ xs) (suc j) v e = omega (arith, term_le xs j v e)

    pub terms_le : (l : List A) (j k : ℕ) (v u : A) → k ≢ j → get_elem? l j ≡ some v → get_elem? l k ≡ some u → g v + g u ≤ total g l
    terms_le [] j k v u n e d = absurd (some-ne-none v (sym e))
    terms_le (x ∷ xs) zero zero v u n e d = absurd (n refl)
    terms_le (x ∷ xs) zero (suc k) v u n e d = omega (arith, ap g (some-injective x v e), term_le xs k u d)
    terms_le (x ∷ xs) (suc j) zero v u n e d = omega (arith, ap g (some-injective x u d), term_le xs j v e)
    terms_le (x ∷ xs) (suc j) (suc k) v u n e d = omega (arith, terms_le xs j k v u (λ h. n (ap suc h)) e d)

    pub total-take-le : (k : ℕ) (l : List A) → total g (take k l) ≤ total g l
    total-take-le zero l = omega arith
    total-take-le (suc k) [] = omega arith
    total-take-le (suc k) (x ∷ xs) = omega (arith, total-take-le k xs)

    pub total-take-suc : (k : ℕ) (l : List A) (a : A) → get_elem? l k ≡ some a → total g (take (suc k) l) ≡ total g (take k l) + g a
    total-take-suc k [] a e = absurd (some-ne-none a (sym e))
    total-take-suc zero (x ∷ xs) a e = omega (arith, ap g (some-injective x a e))
    total-take-suc (suc k) (x ∷ xs) a e = omega (arith, total-take-suc k xs a e)

    -- a positive sum has a positive term
    pub total-find : (l : List A) → 0 < total g l → (i : ℕ) × (a : A) × (get_elem? l i ≡ some a) × (0 < g a)
    total-find [] h = absurd (omega arith)
    total-find (x ∷ xs) h = dite (dec_lt 0 (g x)) (λ p. (0, x, refl, p)) (λ n. let r = total-find xs (omega arith) in (suc r.0, r.1, r.2, r.3))

  pub total_le : (f g : A → ℕ) (l : List A) → ((i : ℕ) (a : A) → get_elem? l i ≡ some a → f a ≤ g a) → total f l ≤ total g l
  total_le f g [] h = omega arith
  total_le f g (x ∷ xs) h = omega (arith, h 0 x refl, total_le f g xs (λ i a e. h (suc i) a e))

  pub total_le_all : (f g : A → ℕ) (l : List A) → ((a : A) → f a ≤ g a) → total f l ≤ total g l
  total_le_all f g [] h = omega arith
  total_le_all f g (x ∷ xs) h = omega (arith, h x, total_le_all f g xs h)

  pub total-zero : (l : List A) → total (λ _. 0) l ≡ 0
  total-zero [] = refl
  total-zero (x ∷ xs) = omega (arith, total-zero xs)

  -- the same where one term is smaller
  pub total_less : (f g : A → ℕ) (l : List A) (j : ℕ) (v : A) → get_elem? l j ≡ some v → f v + 1 ≤ g v → ((i : ℕ) (a : A) → get_elem? l i ≡ some a → f a ≤ g a) → total f l + 1 ≤ total g l
  total_less f g [] j v e s h = absurd (some-ne-none v (sym e))
  total_less f g (x ∷ xs) zero v e s h = omega (arith, ap f (some-injective x v e), ap g (some-injective x v e), total_le f g xs (λ i a d. h (suc i) a d))
  total_less f g (x ∷ xs) (suc j) v e s h = omega (arith, h 0 x refl, total_less f g xs j v e s (λ i a d. h (suc i) a d))

-- the sum of g over the numbers below n
abbrev pub below : (ℕ → ℕ) → ℕ → ℕ
below g zero = 0
below g (suc n) = below g n + g n

pub below_add : (f g : ℕ → ℕ) (n : ℕ) → below (λ t. f t + g t) n ≡ below f n + below g n
below_add f g zero = refl
below_add f g (suc n) = omega (arith, below_add f g n)

pub below_le : (f g : ℕ → ℕ) (n : ℕ) → ((t : ℕ) → f t ≤ g t) → below f n ≤ below g n
below_le f g zero h = omega arith
below_le f g (suc n) h = omega (arith, h n, below_le f g n h)

-- k where the number is x
abbrev pub only : ℕ → ℕ → ℕ → ℕ
only k x t = cond (eqb t x) k 0

pub only_same : (k x t : ℕ) → t ≡ x → only k x t ≡ k
only_same k x t e = ap (λ b. cond b k 0) (eq-eqb t x e)

only_else : (k x t : ℕ) → t ≢ x → only k x t ≡ 0
only_else k x t n = ap (λ b. cond b k 0) (ne_eqb t x n)

below-only_out : (k x n : ℕ) → n ≤ x → below (only k x) n ≡ 0
below-only_out k x zero h = refl
below-only_out k x (suc n) h = omega (arith, below-only_out k x n (omega arith), only_else k x n (λ e. omega arith))

pub below-only : (k x n : ℕ) → x < n → below (only k x) n ≡ k
below-only k x zero h = absurd (omega arith)
below-only k x (suc n) h = dite (ℕ_discrete n x)
    (λ e. omega (arith, below-only_out k x n (omega arith), only_same k x n e))
    (λ ne. omega (arith, below-only k x n (omega arith), only_else k x n ne))

pub below-only-le : (k x n : ℕ) → below (only k x) n ≤ k
below-only-le k x n = dite (dec_lt x n) (λ h. omega (arith, below-only k x n h)) (λ h. omega (arith, below-only_out k x n (omega arith)))

module _ (g : ℕ → ℕ) where
  -- the weight of t in the list
  abbrev weight_at : List ℕ → ℕ → ℕ
  weight_at [] t = 0
  weight_at (x ∷ xs) t = only (g x) x t + weight_at xs t

  weight_at-le : (xs : List ℕ) (t : ℕ) → (times t xs ≡ 0 → weight_at xs t ≡ 0) × (times t xs ≤ 1 → weight_at xs t ≤ g t)
  weight_at-le [] t = ((λ h. refl), λ h. omega arith)
  weight_at-le (x ∷ xs) t = let r = weight_at-le xs t in dite (ℕ_discrete t x)
      (λ e. let a = hit_same t x e in let b = only_same (g x) x t e in ((λ h. absurd (omega arith)), λ h. omega (arith, r.0 (omega arith), ap g e)))
      (λ n. let a = hit_else t x n in let b = only_else (g x) x t n in ((λ h. omega (arith, r.0 (omega arith))), λ h. omega (arith, r.1 (omega arith))))

  summed : (xs : List ℕ) (n : ℕ) → ((t : ℕ) → n ≤ t → times t xs ≡ 0) → total g xs ≡ below (weight_at xs) n
  summed [] n h = sym (zeros n)
    where
      zeros : (n : ℕ) → below (λ t. 0) n ≡ 0
      zeros zero = refl
      zeros (suc n) = omega (arith, zeros n)
  summed (x ∷ xs) n h = dite (dec_lt x n)
      (λ lt. omega (arith, below_add (only (g x) x) (weight_at xs) n, below-only (g x) x n lt, summed xs n (λ t le. omega (arith, h t le))))
      (λ ge. absurd (omega (arith, h x (omega arith), hit_same x x refl)))

  -- different numbers below n weigh at most what all numbers below n weigh
  pub distinct_le : (xs : List ℕ) (n : ℕ) → ((t : ℕ) → times t xs ≤ 1) → ((t : ℕ) → n ≤ t → times t xs ≡ 0) → total g xs ≤ below g n
  distinct_le xs n once out = omega (arith, summed xs n out, below_le (weight_at xs) g n (λ t. (weight_at-le xs t).1 (once t)))
