-- Shifts by the amount modulo 64.
use Rattle.std.proofs.Common.{◌≡◌, ℕ, ◌-◌, ◌*◌, ◌/◌, ◌%◌, ◌^◌, ◌<◌, ◌≤◌, ℤ, pos, negsuc, SFits, w64, to_z-of_z, arith, ap, lt_of_le_of_lt, mod-eq_of_lt, div-le_self}
use Rattle.std.proofs.lemmas.Bool.Decides.{nat_tests}
use Rattle.std.specs.Int.{int_shr, rotate_right}
use Rattle.wrapping_numbers.specs.Numbers.{signed, unsigned}
use Rattle.wrapping_numbers.specs.Shifts.{lsl64, lsr64, asr64, ror64}
use Rattle.wrapping_numbers.proofs.Wrapping.{signed_fits}

shr_fits : (z : ℤ) (k : ℕ) → SFits w64 z → SFits w64 (int_shr z k)
shr_fits (pos a) k h = record { sfits = lt_of_le_of_lt (div-le_self a (2 ^ k)) h.sfits }
shr_fits (negsuc a) k h = record { sfits = lt_of_le_of_lt (div-le_self a (2 ^ k)) h.sfits }

-- a shift with signs in reads as the integer divided by a power of two, rounded down
pub signed-asr : (a n : ℕ) → a < 2 ^ 64 → signed (asr64 a n) ≡ int_shr (signed a) (n % 64)
signed-asr a n p = to_z-of_z (shr_fits (signed a) (n % 64) (signed_fits a p))

-- each result is below 2 ^ 64
pub lsl64_lt : (a n : ℕ) → lsl64 a n < 2 ^ 64
lsl64_lt a n = omega arith

pub lsr64_lt : (a n : ℕ) → a < 2 ^ 64 → lsr64 a n < 2 ^ 64
lsr64_lt a n p = lt_of_le_of_lt (div-le_self a (2 ^ (n % 64))) p

pub asr64_lt : (a n : ℕ) → a < 2 ^ 64 → asr64 a n < 2 ^ 64
asr64_lt a n p = grind (arith, nat_tests, signed_fits, shr_fits)

-- 64 more is the same amount
twice : (n : ℕ) → n % 64 % 64 ≡ n % 64
twice n = omega arith

pub lsl64_mod : (a n : ℕ) → lsl64 a (n % 64) ≡ lsl64 a n
lsl64_mod a n = ap (λ k. a * 2 ^ k % 2 ^ 64) (twice n)

pub lsr64_mod : (a n : ℕ) → lsr64 a (n % 64) ≡ lsr64 a n
lsr64_mod a n = ap (λ k. a / 2 ^ k) (twice n)

pub asr64_mod : (a n : ℕ) → asr64 a (n % 64) ≡ asr64 a n
asr64_mod a n = ap (λ k. unsigned (int_shr (signed a) k)) (twice n)

pub ror64_mod : (a n : ℕ) → ror64 a (n % 64) ≡ ror64 a n
ror64_mod a n = ap (rotate_right w64 a) (twice n)

-- an amount below 64 is itself
pub lsl64_is : (a n : ℕ) → n < 64 → lsl64 a n ≡ a * 2 ^ n % 2 ^ 64
lsl64_is a n p = ap (λ k. a * 2 ^ k % 2 ^ 64) (mod-eq_of_lt p)

pub lsr64_is : (a n : ℕ) → n < 64 → lsr64 a n ≡ a / 2 ^ n
lsr64_is a n p = ap (λ k. a / 2 ^ k) (mod-eq_of_lt p)

pub asr64_is : (a n : ℕ) → n < 64 → asr64 a n ≡ unsigned (int_shr (signed a) n)
asr64_is a n p = ap (λ k. unsigned (int_shr (signed a) k)) (mod-eq_of_lt p)

-- a shift by 0 changes nothing
pub lsl64_zero : (a : ℕ) → a < 2 ^ 64 → lsl64 a 0 ≡ a
lsl64_zero a p = omega arith

-- by 63, signs in: all ones for a negative number, else 0
pub asr_low : (a : ℕ) → a < 2 ^ 63 → asr64 a 63 ≡ 0
asr_low a p = grind (arith, nat_tests)

pub asr_high : (a : ℕ) → 2 ^ 63 ≤ a → a < 2 ^ 64 → asr64 a 63 ≡ 2 ^ 64 - 1
asr_high a p q = grind (arith, nat_tests)
