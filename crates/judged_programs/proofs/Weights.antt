-- An order without bounds, made narrow: each place is how many are before it.
use Rattle.std.proofs.Common.{◌≡◌, ℕ, zero, suc, ◌+◌, ◌<◌, ◌≤◌, Bool, true, false, refl, sym, ap, ◌∙◌, arith, ◌⊎◌, inl, inr}
use Rattle.std.proofs.lemmas.Bool.Decides.{nat_tests}
use Rattle.std.specs.Prelude.{nat_lt, if◌then◌else◌}
use Rattle.ob_types.proofs.Tests.{no}

-- how many numbers below n pass
abbrev pub count : (ℕ → Bool) → ℕ → ℕ
count test zero = 0
count test (suc n) = if test n then suc (count test n) else count test n

pub count_most : (test : ℕ → Bool) (n : ℕ) → count test n ≤ n
count_most test zero = omega arith
count_most test (suc n) = by (test n) (count_most test n)
  where
    by : (b : Bool) → count test n ≤ n → (if b then suc (count test n) else count test n) ≤ suc n
    by true h = omega (arith, h)
    by false h = omega (arith, h)

pub count_more : (test wider : ℕ → Bool) (n : ℕ) → ((j : ℕ) → test j ≡ true → wider j ≡ true) → count test n ≤ count wider n
count_more test wider zero h = omega arith
count_more test wider (suc n) h = by (test n) (wider n) (h n) (count_more test wider n h)
  where
    by : (a b : Bool) → (a ≡ true → b ≡ true) → count test n ≤ count wider n → (if a then suc (count test n) else count test n) ≤ (if b then suc (count wider n) else count wider n)
    by true true i g = omega (arith, g)
    by true false i g = no (i refl)
    by false true i g = omega (arith, g)
    by false false i g = g

-- one that passes in one test alone
pub count_less : (test wider : ℕ → Bool) (n : ℕ) → ((j : ℕ) → test j ≡ true → wider j ≡ true) → (j : ℕ) → j < n → test j ≡ false → wider j ≡ true → count test n < count wider n
count_less test wider zero h j l out is = absurd (omega (arith, l))
count_less test wider (suc n) h j l out is = last (last_or_less j n l) (λ less. count_less test wider n h j less out is)
  where
    last_or_less : (j n : ℕ) → j < suc n → (j ≡ n) ⊎ (j < n)
    last_or_less j n l = grind arith

    by : (a b : Bool) → a ≡ false → b ≡ true → count test n ≤ count wider n → (if a then suc (count test n) else count test n) < (if b then suc (count wider n) else count wider n)
    by false true i k g = omega (arith, g)
    by true b i k g = no (sym i)
    by false false i k g = no k

    further : (a b : Bool) → (a ≡ true → b ≡ true) → count test n < count wider n → (if a then suc (count test n) else count test n) < (if b then suc (count wider n) else count wider n)
    further true true i g = omega (arith, g)
    further true false i g = no (i refl)
    further false true i g = omega (arith, g)
    further false false i g = g

    last : (j ≡ n) ⊎ (j < n) → (j < n → count test n < count wider n) → (if test n then suc (count test n) else count test n) < (if wider n then suc (count wider n) else count wider n)
    last (inl e) go = by (test n) (wider n) (ap test (sym e) ∙ out) (ap wider (sym e) ∙ is) (count_more test wider n h)
    last (inr less) go = further (test n) (wider n) (h n) (go less)

less_is : (a b : ℕ) → nat_lt a b ≡ true → a < b
less_is a b h = grind (arith, nat_tests, h)

is_less : (a b : ℕ) → a < b → nat_lt a b ≡ true
is_less a b h = grind (arith, nat_tests, h)

not_itself : (a : ℕ) → nat_lt a a ≡ false
not_itself a = grind (arith, nat_tests)

-- how many of n things with such keys are before this key
abbrev pub weight : (ℕ → ℕ) → ℕ → ℕ → ℕ
weight key n v = count (λ j. nat_lt (key j) v) n

widened : (key : ℕ → ℕ) (v u j : ℕ) → v ≤ u → nat_lt (key j) v ≡ true → nat_lt (key j) u ≡ true
widened key v u j l h = let k = less_is (key j) v h in is_less (key j) u (omega (arith, k, l))

pub weight_most : (key : ℕ → ℕ) (n v : ℕ) → weight key n v ≤ n
weight_most key n v = count_most (λ j. nat_lt (key j) v) n

pub weight_more : (key : ℕ → ℕ) (n v u : ℕ) → v ≤ u → weight key n v ≤ weight key n u
weight_more key n v u l = count_more (λ j. nat_lt (key j) v) (λ j. nat_lt (key j) u) n (λ j h. widened key v u j l h)

pub weight_less : (key : ℕ → ℕ) (n u j : ℕ) → j < n → key j < u → weight key n (key j) < weight key n u
weight_less key n u j l less = count_less (λ k. nat_lt (key k) (key j)) (λ k. nat_lt (key k) u) n (λ k h. widened key (key j) u k (omega (arith, less)) h) j l (not_itself (key j)) (is_less (key j) u less)

-- ---- pairs as numbers

abbrev pub scaled : ℕ → ℕ → ℕ
scaled m zero = 0
scaled m (suc a) = m + scaled m a

scaled_more : (m a b : ℕ) → a ≤ b → scaled m a ≤ scaled m b
scaled_more m zero b l = omega arith
scaled_more m (suc a) zero l = absurd (omega (arith, l))
scaled_more m (suc a) (suc b) l = let h = scaled_more m a b (omega (arith, l)) in omega (arith, h)

-- by the first part, and then by the second
pub before_first : (m a b x y : ℕ) → a < b → x < m → scaled m a + x < scaled m b + y
before_first m a b x y l k = let h = scaled_more m (suc a) b (omega (arith, l)) in omega (arith, h, k)
