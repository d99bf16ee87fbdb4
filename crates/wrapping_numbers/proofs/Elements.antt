-- Sets: what the operations on their numbers do to their elements.
use Rattle.std.proofs.Common.{◌≡◌, ℕ, ◌-◌, ◌*◌, ◌/◌, ◌%◌, ◌^◌, ◌<◌, ◌≤◌, not, ◌&&◌, ◌||◌, nat_le, ◌==◌, bit_and, bit_or, bit_xor, mod-eq_of_lt, arith, suc, ap, ap₂, ◌∙◌, ⊎_elim, w64, Decides, eqb-true, eq-eqb, pow_mono}
use Rattle.std.proofs.lemmas.Bool.{cases_lt}
use Rattle.std.proofs.lemmas.Bool.Decides.{nat_tests}
use Rattle.std.proofs.lemmas.Nat.{and_le_l, one_shl, pow_pos}
use Rattle.std.proofs.lemmas.Nat.Bits.{bit_at_and, bit_at_or, bit_at_xor, bit_at-lt, bit_at_not, bit_at-pow_same, bit_at-pow_other, shr_and_one, ones_shl, ones_shr, bit_at_mask_inside, bit_at_mask_below, bit_at_mask_above, bit_at_ones, bit_at_ones_above, same_from_bits_below, bit_at-zero}
use Rattle.std.specs.Int.{bit_at}
use Rattle.wrapping_numbers.specs.Numbers.{not64, sub64, bic64}
use Rattle.wrapping_numbers.specs.Sets.{has, bit_words, span_words, has_words, subset, IsSubset}

-- union, intersection, complement, difference and symmetric difference, element by element
pub has-union : (s t x : ℕ) → has (bit_or s t) x ≡ (has s x || has t x)
has-union s t x = grind (arith, nat_tests, bit_at_or, bit_at-lt)

pub has-meet : (s t x : ℕ) → has (bit_and s t) x ≡ (has s x && has t x)
has-meet s t x = grind (arith, nat_tests, bit_at_and, bit_at-lt)

pub has-not : (s x : ℕ) → s < 2 ^ 64 → x < 64 → has (not64 s) x ≡ not (has s x)
has-not s x p q = grind (arith, nat_tests, bit_at_not w64, bit_at-lt)

pub has-bic : (s t x : ℕ) → t < 2 ^ 64 → x < 64 → has (bic64 s t) x ≡ (has s x && not (has t x))
has-bic s t x p q = grind (arith, nat_tests, bit_at_and, bit_at_not w64, bit_at-lt)

pub has-xor : (s t x : ℕ) → has (bit_xor s t) x ≡ (not (has s x) && has t x || has s x && not (has t x))
has-xor s t x = grind (arith, nat_tests, bit_at_xor, bit_at-lt)

-- the set of one element
pub bit_is : (a : ℕ) → a < 64 → bit_words a ≡ 2 ^ a
bit_is a p = ap (λ k. 1 * 2 ^ k % 2 ^ 64) (mod-eq_of_lt p) ∙ one_shl a 64 p

pub has-bit : (a x : ℕ) → a < 64 → has (bit_words a) x ≡ (x == a)
has-bit a x p = grind (arith, nat_tests, bit_is, bit_at-pow_same, bit_at-pow_other)

-- the test of an element, as 1 or 0
pub has_is : (a s : ℕ) → a < 64 → has_words a s ≡ bit_at s a
has_is a s p = rw mod-eq_of_lt (shr_and_one s a)

-- the elements from a to b; none where b < a
pub span_is : (a b : ℕ) → a < 64 → b < 64 → span_words a b ≡ bit_and (2 ^ suc b - 1) (2 ^ 64 - 2 ^ a)
span_is a b p q =
    let n : sub64 63 b ≡ 63 - b = omega arith in
    let m : sub64 63 b % 64 ≡ 63 - b = omega arith in
    let hi : 64 - (63 - b) ≡ suc b = omega arith in
    let le : 63 - b ≤ 64 = omega arith in
    ap₂ bit_and (ap (λ k. (2 ^ 64 - 1) / 2 ^ k) m ∙ ones_shr 64 (63 - b) le ∙ ap (λ k. 2 ^ k - 1) hi) (ap (λ k. (2 ^ 64 - 1) * 2 ^ k % 2 ^ 64) (mod-eq_of_lt p) ∙ ones_shl 64 a (omega arith))

pub has-span : (a b x : ℕ) → a < 64 → b < 64 → x < 64 → has (span_words a b) x ≡ (nat_le a x && nat_le x b)
has-span a b x p q r = rw (span_is a b p q) (grind (arith, nat_tests, bit_at_and, bit_at-lt, bit_at_ones (suc b) x, bit_at_ones_above (suc b) x, bit_at_mask_inside a 64 x, bit_at_mask_below a 64 x))

-- inclusion is the test that nothing of s is left without t
bic-zero : (s t : ℕ) → s < 2 ^ 64 → t < 2 ^ 64 → ((x : ℕ) → x < 64 → bit_at s x ≤ bit_at t x) → bic64 s t ≡ 0
bic-zero s t p q h = same_from_bits_below 64 (bic64 s t) 0 (omega (arith, and_le_l s (not64 t))) (omega arith) (λ x r. grind (arith, bit_at_and, bit_at_not w64, bit_at-lt, bit_at-zero, h))

zero-bic : (s t : ℕ) → s < 2 ^ 64 → t < 2 ^ 64 → bic64 s t ≡ 0 → (x : ℕ) → x < 64 → bit_at s x ≤ bit_at t x
zero-bic s t p q e x r =
    let z : bit_at (bic64 s t) x ≡ 0 = ap (λ n. bit_at n x) e ∙ bit_at-zero x in
    grind (arith, bit_at_and s (not64 t) x, bit_at_not w64 t x, bit_at-lt)

-- the bits below 64, as elements
subset_bits : (s t : ℕ) → IsSubset s t → (x : ℕ) → x < 64 → bit_at s x ≤ bit_at t x
subset_bits s t h x r = let k = h x r in grind (arith, nat_tests, bit_at-lt)

bits_subset : (s t : ℕ) → ((x : ℕ) → x < 64 → bit_at s x ≤ bit_at t x) → IsSubset s t
bits_subset s t h x r e = let k = h x r in grind (arith, nat_tests, bit_at-lt)

pub Decides-subset : (s t : ℕ) → s < 2 ^ 64 → t < 2 ^ 64 → Decides (subset s t) (IsSubset s t)
Decides-subset s t p q =
    (λ e. bits_subset s t (zero-bic s t p q (eqb-true _ 0 e)), λ h. eq-eqb _ 0 (bic-zero s t p q (subset_bits s t h)))

-- two sets with the same elements are one
pub same_set : (s t : ℕ) → s < 2 ^ 64 → t < 2 ^ 64 → ((x : ℕ) → x < 64 → has s x ≡ has t x) → s ≡ t
same_set s t p q h = same_from_bits_below 64 s t p q (λ x r. let k = h x r in grind (arith, nat_tests, bit_at-lt))

-- the span as one number
pub span_closed : (a b : ℕ) → a < 64 → b < 64 → a ≤ b → span_words a b ≡ 2 ^ suc b - 2 ^ a
span_closed a b p q l = span_is a b p q ∙ same_from_bits_below 64 (bit_and (2 ^ suc b - 1) (2 ^ 64 - 2 ^ a)) (2 ^ suc b - 2 ^ a) low high (λ x r. ⊎_elim (below x r) (λ g. ⊎_elim (inside x r g) (above x r) (cases_lt x (suc b))) (cases_lt x a))
  where
    big : 2 ^ suc b ≤ 2 ^ 64
    big = pow_mono (the (omega arith))
      where
        the : suc b ≤ 64 → suc b ≤ 64
        the h = h

    low : bit_and (2 ^ suc b - 1) (2 ^ 64 - 2 ^ a) < 2 ^ 64
    low = let m = and_le_l (2 ^ suc b - 1) (2 ^ 64 - 2 ^ a) in let k = pow_pos (suc b) in omega (arith, big)

    high : 2 ^ suc b - 2 ^ a < 2 ^ 64
    high = let k = pow_pos a in omega (arith, big, pow_pos (suc b))

    below : (x : ℕ) → x < 64 → x < a → bit_at (bit_and (2 ^ suc b - 1) (2 ^ 64 - 2 ^ a)) x ≡ bit_at (2 ^ suc b - 2 ^ a) x
    below x r g = grind (arith, bit_at_and, bit_at-lt, bit_at_mask_below a 64 x, bit_at_mask_below a (suc b) x)

    inside : (x : ℕ) → x < 64 → a ≤ x → x < suc b → bit_at (bit_and (2 ^ suc b - 1) (2 ^ 64 - 2 ^ a)) x ≡ bit_at (2 ^ suc b - 2 ^ a) x
    inside x r g h = grind (arith, bit_at_and, bit_at-lt, bit_at_ones (suc b) x, bit_at_mask_inside a 64 x, bit_at_mask_inside a (suc b) x)

    above : (x : ℕ) → x < 64 → suc b ≤ x → bit_at (bit_and (2 ^ suc b - 1) (2 ^ 64 - 2 ^ a)) x ≡ bit_at (2 ^ suc b - 2 ^ a) x
    above x r h = grind (arith, bit_at_and, bit_at-lt, bit_at_ones_above (suc b) x, bit_at_mask_above a (suc b) x)
