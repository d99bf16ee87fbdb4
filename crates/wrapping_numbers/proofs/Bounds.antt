-- Each result is below 2 ^ 64.
use Rattle.std.proofs.Common.{ℕ, ◌/◌, ◌%◌, ◌^◌, ◌<◌, bit_and, bit_or, bit_xor, int_div, lt_of_le_of_lt, div-le_self, arith}
use Rattle.std.proofs.lemmas.Nat.{and_le_l, or_lt, xor_lt}
use Rattle.wrapping_numbers.specs.Numbers.{signed, unsigned, mul64, not64, bic64, orn64, madd64, msub64, sdiv64}
use Rattle.wrapping_numbers.specs.Shifts.{ror64}
use Rattle.wrapping_numbers.proofs.Wrapping.{add64_lt, sub64_lt, not64_lt}

pub and64_lt : (a b : ℕ) → a < 2 ^ 64 → bit_and a b < 2 ^ 64
and64_lt a b p = lt_of_le_of_lt (and_le_l a b) p

pub or64_lt : (a b : ℕ) → a < 2 ^ 64 → b < 2 ^ 64 → bit_or a b < 2 ^ 64
or64_lt a b p q = or_lt 64 a b p q

pub xor64_lt : (a b : ℕ) → a < 2 ^ 64 → b < 2 ^ 64 → bit_xor a b < 2 ^ 64
xor64_lt a b p q = xor_lt 64 a b p q

pub bic64_lt : (a b : ℕ) → a < 2 ^ 64 → bic64 a b < 2 ^ 64
bic64_lt a b p = and64_lt a (not64 b) p

pub orn64_lt : (a b : ℕ) → a < 2 ^ 64 → orn64 a b < 2 ^ 64
orn64_lt a b p = or64_lt a (not64 b) p (not64_lt b)

pub madd64_lt : (a b c : ℕ) → madd64 a b c < 2 ^ 64
madd64_lt a b c = add64_lt c (mul64 a b)

pub msub64_lt : (a b c : ℕ) → msub64 a b c < 2 ^ 64
msub64_lt a b c = sub64_lt c (mul64 a b)

pub sdiv64_lt : (a b : ℕ) → sdiv64 a b < 2 ^ 64
sdiv64_lt a b = reduced (unsigned (int_div (signed a) (signed b)))
  where
    reduced : (n : ℕ) → n % 2 ^ 64 < 2 ^ 64
    reduced n = omega arith

pub ror64_lt : (a n : ℕ) → a < 2 ^ 64 → ror64 a n < 2 ^ 64
ror64_lt a n p = or64_lt (a / 2 ^ (n % 64 % 64)) _ (lt_of_le_of_lt (div-le_self a (2 ^ (n % 64 % 64))) p) (reduced _)
  where
    reduced : (m : ℕ) → m % 2 ^ 64 < 2 ^ 64
    reduced m = omega arith
