-- DIV and MOD by a positive divisor in steps of 64-bit arithmetic: the quotient rounded down, and its remainder.
use Rattle.std.proofs.Common.{◌≡◌, ℕ, zero, suc, ◌+◌, ◌-◌, ◌*◌, ◌/◌, ◌%◌, ◌^◌, ◌<◌, ◌≤◌, ℤ, pos, negsuc, ◌+ℤ◌, ◌*ℤ◌, SFits, w64, to_z-of_z, le_of_eq, lt_of_le_of_lt, div-add-mod', arith, sym, ap, ap₂, ◌∙◌, ⊎_elim, bit_and, eq-zero-or-pos, mod-eq_of_lt, mul-le-mul_right}
use Rattle.std.proofs.lemmas.Bool.{cases_lt}
use Rattle.std.proofs.lemmas.Bool.Decides.{nat_tests}
use Rattle.std.proofs.lemmas.Int.{ints}
use Rattle.std.proofs.lemmas.Nat.{and_mask, and_comm, mod_low, div-mul-add, mod-mul-add}
use Rattle.std.specs.Int.{int_div_euclid, int_rem_euclid}
use Rattle.wrapping_numbers.specs.Numbers.{signed, add64, sub64, mul64, sdiv64, msub64}
use Rattle.wrapping_numbers.specs.Shifts.{asr64}
use Rattle.wrapping_numbers.specs.Division.{div_of, mod_of, div_words, mod_words}
use Rattle.wrapping_numbers.proofs.Wrapping.{signed_low}
use Rattle.wrapping_numbers.proofs.Amounts.{asr_low, asr_high}

-- the quotient toward 0 of x that is not negative
sdiv_low : (x y : ℕ) → x < 2 ^ 63 → 0 < y → y < 2 ^ 63 → sdiv64 x y ≡ x / y
sdiv_low x y p q r = grind (arith, nat_tests)

-- the quotient toward 0 of x that is negative
sdiv_high : (x y : ℕ) → 2 ^ 63 ≤ x → x < 2 ^ 64 → 0 < y → y < 2 ^ 63 → sdiv64 x y ≡ (2 ^ 64 - (2 ^ 64 - x) / y) % 2 ^ 64
sdiv_high x y p q r s = grind (arith, nat_tests)

msub_low : (x y : ℕ) → x < 2 ^ 63 → 0 < y → y < 2 ^ 63 → msub64 (x / y) y x ≡ x % y
msub_low x y p q r = grind (arith, nat_tests)

-- with m = 2 ^ 64 - x the magnitude, k = m / y
msub_of : (x y k s : ℕ) → x < 2 ^ 64 → 0 < y → y < 2 ^ 63 → x + (y * k + s) ≡ 2 ^ 64 → y * k + s ≤ 2 ^ 63 → s < y → msub64 ((2 ^ 64 - k) % 2 ^ 64) y x ≡ (2 ^ 64 - s) % 2 ^ 64
msub_of x y zero s p q r e l d = omega arith
msub_of x y (suc k) s p q r e l d =
    let le : suc k ≤ y * suc k = mul-le' k in
    let b : (2 ^ 64 - suc k) % 2 ^ 64 * y ≡ (y - 1) * 2 ^ 64 + (2 ^ 64 - y * suc k) = prod (omega arith) in
    let c : mul64 ((2 ^ 64 - suc k) % 2 ^ 64) y ≡ 2 ^ 64 - y * suc k = ap (λ n. n % 2 ^ 64) b ∙ omega (arith, mod_low (y - 1) 64 (2 ^ 64 - y * suc k) (omega arith)) in
    ap (sub64 x) c ∙ omega arith
  where
    mul-le' : (k : ℕ) → suc k ≤ y * suc k
    mul-le' k = omega (arith, mul-le-mul_right (suc k) q)

    prod : suc k ≤ 2 ^ 63 → (2 ^ 64 - suc k) % 2 ^ 64 * y ≡ (y - 1) * 2 ^ 64 + (2 ^ 64 - y * suc k)
    prod h =
        let d : (2 ^ 64 - suc k) % 2 ^ 64 ≡ 2 ^ 64 - suc k = omega arith in
        let t : (2 ^ 64 - suc k) + suc k ≡ 2 ^ 64 = omega arith in
        ap (λ n. n * y) d ∙ omega (arith, ap (λ n. n * y) t)

msub_high : (x y : ℕ) → 2 ^ 63 ≤ x → x < 2 ^ 64 → 0 < y → y < 2 ^ 63 → msub64 ((2 ^ 64 - (2 ^ 64 - x) / y) % 2 ^ 64) y x ≡ (2 ^ 64 - (2 ^ 64 - x) % y) % 2 ^ 64
msub_high x y p q r s =
    let m = 2 ^ 64 - x in
    msub_of x y (m / y) (m % y) q r s (omega arith) (omega arith) (omega arith)

-- Oberon's DIV and MOD of a negative x
div_high : (x y : ℕ) → 2 ^ 63 ≤ x → x < 2 ^ 64 → 0 < y → y < 2 ^ 63 → div_of x y ≡ 2 ^ 64 - suc ((2 ^ 64 - suc x) / y)
div_high x y p q r s = grind (arith, nat_tests)

mod_high : (x y : ℕ) → 2 ^ 63 ≤ x → x < 2 ^ 64 → 0 < y → y < 2 ^ 63 → mod_of x y ≡ y - 1 - (2 ^ 64 - suc x) % y
mod_high x y p q r s = grind (arith, nat_tests)

-- one below a number k * y + s
below_more' : (n y k s : ℕ) → n + 1 ≡ y * k + s → 0 < s → s < y → (n / y ≡ k) × (n % y ≡ s - 1)
below_more' n y k s e p q =
    let is : n ≡ k * y + (s - 1) = omega arith in
    (ap (λ n. n / y) is ∙ div-mul-add k y (s - 1) (omega arith), ap (λ n. n % y) is ∙ mod-mul-add k y (s - 1) (omega arith))

below_whole : (n y k : ℕ) → n + 1 ≡ y * k → 0 < y → (n / y + 1 ≡ k) × (n % y ≡ y - 1)
below_whole n y zero e p = omega arith
below_whole n y (suc k) e p =
    let is : n ≡ k * y + (y - 1) = omega arith in
    let d : n / y ≡ k = ap (λ n. n / y) is ∙ div-mul-add k y (y - 1) (omega arith) in
    (omega arith, ap (λ n. n % y) is ∙ mod-mul-add k y (y - 1) (omega arith))

module _ (x y : ℕ) (p : x < 2 ^ 64) (q : 0 < y) (r : y < 2 ^ 63) where
  low_div : x < 2 ^ 63 → div_words x y ≡ div_of x y
  low_div l =
      let a = sdiv_low x y l q r in
      let b : msub64 (sdiv64 x y) y x ≡ x % y = ap (λ n. msub64 n y x) a ∙ msub_low x y l q r in
      let c : asr64 (msub64 (sdiv64 x y) y x) 63 ≡ 0 = ap (λ n. asr64 n 63) b ∙ asr_low (x % y) (omega arith) in
      ap₂ add64 a c ∙ grind (arith, nat_tests)

  low_mod : x < 2 ^ 63 → mod_words x y ≡ mod_of x y
  low_mod l =
      let a = sdiv_low x y l q r in
      let b : msub64 (sdiv64 x y) y x ≡ x % y = ap (λ n. msub64 n y x) a ∙ msub_low x y l q r in
      let c : asr64 (msub64 (sdiv64 x y) y x) 63 ≡ 0 = ap (λ n. asr64 n 63) b ∙ asr_low (x % y) (omega arith) in
      let d : bit_and y (asr64 (msub64 (sdiv64 x y) y x) 63) ≡ 0 = ap (bit_and y) c ∙ and_comm y 0 in
      ap₂ add64 b d ∙ grind (arith, nat_tests)

  -- the quotient and remainder of the magnitude
  k : ℕ
  k = (2 ^ 64 - x) / y

  s : ℕ
  s = (2 ^ 64 - x) % y

  quot : 2 ^ 63 ≤ x → sdiv64 x y ≡ (2 ^ 64 - k) % 2 ^ 64
  unfolding k
  quot l = sdiv_high x y l p q r

  rest : 2 ^ 63 ≤ x → msub64 (sdiv64 x y) y x ≡ (2 ^ 64 - s) % 2 ^ 64
  unfolding s
  rest l = ap (λ n. msub64 n y x) (sdiv_high x y l p q r) ∙ msub_high x y l p q r

  parts : (2 ^ 64 - x ≡ y * k + s) × (s < y)
  unfolding k s
  parts = omega arith

  at : 2 ^ 63 ≤ x → 0 < s → asr64 (msub64 (sdiv64 x y) y x) 63 ≡ 2 ^ 64 - 1
  at l h = let g = parts in ap (λ n. asr64 n 63) (rest l) ∙ asr_high ((2 ^ 64 - s) % 2 ^ 64) (omega arith) (omega arith)

  at_whole : 2 ^ 63 ≤ x → s ≡ 0 → asr64 (msub64 (sdiv64 x y) y x) 63 ≡ 0
  at_whole l h = ap (λ n. asr64 n 63) (rest l) ∙ asr_low ((2 ^ 64 - s) % 2 ^ 64) (omega arith)

  high_div : 2 ^ 63 ≤ x → div_words x y ≡ div_of x y
  high_div l = let g = parts in ⊎_elim
      (λ z. let w = below_whole (2 ^ 64 - suc x) y k (omega arith) q in ap₂ add64 (quot l) (at_whole l z) ∙ omega arith ∙ sym (div_high x y l p q r))
      (λ h. let w = below_more' (2 ^ 64 - suc x) y k s (omega arith) h (omega arith) in ap₂ add64 (quot l) (at l h) ∙ omega arith ∙ sym (div_high x y l p q r))
      (eq-zero-or-pos s)

  high_mod : 2 ^ 63 ≤ x → mod_words x y ≡ mod_of x y
  high_mod l = let g = parts in ⊎_elim
      (λ z. let w = below_whole (2 ^ 64 - suc x) y k (omega arith) q in
      ap₂ add64 (rest l) (ap (bit_and y) (at_whole l z) ∙ and_comm y 0) ∙ omega arith ∙ sym (mod_high x y l p q r))
      (λ h. let w = below_more' (2 ^ 64 - suc x) y k s (omega arith) h (omega arith) in
      ap₂ add64 (rest l) (ap (bit_and y) (at l h) ∙ and_mask y 64 ∙ mod-eq_of_lt (the (omega arith))) ∙ omega arith ∙ sym (mod_high x y l p q r))
      (eq-zero-or-pos s)
    where
      the : y < 2 ^ 64 → y < 2 ^ 64
      the h = h

  pub div_words_is : div_words x y ≡ div_of x y
  div_words_is = ⊎_elim low_div high_div (cases_lt x (2 ^ 63))

  pub mod_words_is : mod_words x y ≡ mod_of x y
  mod_words_is = ⊎_elim low_mod high_mod (cases_lt x (2 ^ 63))

-- the law, over the integers
pub euclid : (a : ℤ) (b : ℕ) → 0 < b → int_div_euclid a (pos b) *ℤ pos b +ℤ int_rem_euclid a (pos b) ≡ a
euclid (pos a) b p = ap pos (div-add-mod' a b)
euclid (negsuc a) b p = let e = div-add-mod' a b in omega (arith, ints)

div_fits : (x y : ℕ) → x < 2 ^ 64 → 0 < y → y < 2 ^ 63 → SFits w64 (int_div_euclid (signed x) (signed y))
div_fits x y p q r = grind (arith, nat_tests)

mod_fits : (x y : ℕ) → x < 2 ^ 64 → 0 < y → y < 2 ^ 63 → SFits w64 (int_rem_euclid (signed x) (signed y))
mod_fits x y p q r = grind (arith, nat_tests)

pub signed-div : (x y : ℕ) → x < 2 ^ 64 → 0 < y → y < 2 ^ 63 → signed (div_words x y) ≡ int_div_euclid (signed x) (signed y)
signed-div x y p q r = ap signed (div_words_is x y p q r) ∙ to_z-of_z (div_fits x y p q r)

pub signed-mod : (x y : ℕ) → x < 2 ^ 64 → 0 < y → y < 2 ^ 63 → signed (mod_words x y) ≡ int_rem_euclid (signed x) (signed y)
signed-mod x y p q r = ap signed (mod_words_is x y p q r) ∙ to_z-of_z (mod_fits x y p q r)

pub law : (x y : ℕ) → x < 2 ^ 64 → 0 < y → y < 2 ^ 63 → signed (div_words x y) *ℤ signed y +ℤ signed (mod_words x y) ≡ signed x
law x y p q r =
    let e = signed_low y r in
    ap₂ (λ a b. a *ℤ signed y +ℤ b) (signed-div x y p q r) (signed-mod x y p q r)
    ∙ ap (λ z. int_div_euclid (signed x) z *ℤ z +ℤ int_rem_euclid (signed x) z) e ∙ euclid (signed x) y q

below : (x y : ℕ) → x < 2 ^ 64 → 0 < y → y < 2 ^ 63 → mod_of x y < y
below x y p q r = grind (arith, nat_tests)

pub rest_in : (x y : ℕ) → x < 2 ^ 64 → 0 < y → y < 2 ^ 63 → mod_words x y < y
rest_in x y p q r = lt_of_le_of_lt (le_of_eq (mod_words_is x y p q r)) (below x y p q r)
