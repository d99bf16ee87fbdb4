-- Sums, differences and products of 64 bits against the integers.
use Rattle.std.proofs.Common.{◌≡◌, ℕ, ◌+◌, ◌-◌, ◌%◌, ◌^◌, ◌<◌, ◌≤◌, ℤ, ◌-ℤ◌, ◌+ℤ◌, ◌*ℤ◌, pos, SFits, w64, bit_and, to_z-of_z, arith, ap, sym, ◌∙◌}
use Rattle.std.proofs.lemmas.Bool.Decides.{nat_tests}
use Rattle.std.proofs.lemmas.Nat.{and_mask}
use Rattle.std.proofs.lemmas.Int.{wrapping_add-bits, wrapping_sub-bits, wrapping_mul-bits}
use Rattle.std.specs.Int.{int_wrap}
use Rattle.wrapping_numbers.specs.Numbers.{signed, unsigned, add64, sub64, mul64, neg64, not64, madd64}

-- the signed reading wraps
pub signed-add : (a b : ℕ) → a < 2 ^ 64 → b < 2 ^ 64 → signed (add64 a b) ≡ int_wrap w64 (signed a +ℤ signed b)
signed-add a b p q = wrapping_add-bits w64 a b p q

pub signed-sub : (a b : ℕ) → a < 2 ^ 64 → b < 2 ^ 64 → signed (sub64 a b) ≡ int_wrap w64 (signed a -ℤ signed b)
signed-sub a b p q = wrapping_sub-bits w64 a b p q

pub signed-mul : (a b : ℕ) → a < 2 ^ 64 → b < 2 ^ 64 → signed (mul64 a b) ≡ int_wrap w64 (signed a *ℤ signed b)
signed-mul a b p q = wrapping_mul-bits w64 a b p q

-- the reading fits 64 bits, and the number is that of its reading
pub signed_fits : (a : ℕ) → a < 2 ^ 64 → SFits w64 (signed a)
signed_fits a p = grind (arith, nat_tests)

pub unsigned-signed : (a : ℕ) → a < 2 ^ 64 → unsigned (signed a) ≡ a
unsigned-signed a p = grind (arith, nat_tests)

pub signed-unsigned : (z : ℤ) → SFits w64 z → signed (unsigned z) ≡ z
signed-unsigned z h = to_z-of_z h

pub same_reading : (a b : ℕ) → a < 2 ^ 64 → b < 2 ^ 64 → signed a ≡ signed b → a ≡ b
same_reading a b p q e = sym (unsigned-signed a p) ∙ ap unsigned e ∙ unsigned-signed b q

pub signed_low : (a : ℕ) → a < 2 ^ 63 → signed a ≡ pos a
signed_low a p = grind (arith, nat_tests)

-- each result is below 2 ^ 64
pub add64_lt : (a b : ℕ) → add64 a b < 2 ^ 64
add64_lt a b = omega arith

pub sub64_lt : (a b : ℕ) → sub64 a b < 2 ^ 64
sub64_lt a b = omega arith

pub mul64_lt : (a b : ℕ) → mul64 a b < 2 ^ 64
mul64_lt a b = omega arith

pub neg64_lt : (a : ℕ) → neg64 a < 2 ^ 64
neg64_lt a = omega arith

pub not64_lt : (a : ℕ) → not64 a < 2 ^ 64
not64_lt a = omega arith

-- nothing added, and the negation
pub madd_zero : (a b : ℕ) → madd64 a b 0 ≡ mul64 a b
madd_zero a b = omega arith

pub neg64_is : (a : ℕ) → sub64 0 a ≡ neg64 a
neg64_is a = omega arith

pub add64_zero : (a : ℕ) → a < 2 ^ 64 → add64 a 0 ≡ a
add64_zero a p = omega arith

pub sub64_zero : (a : ℕ) → a < 2 ^ 64 → sub64 a 0 ≡ a
sub64_zero a p = omega arith

pub sub64-add64 : (a b : ℕ) → a < 2 ^ 64 → b < 2 ^ 64 → sub64 (add64 a b) b ≡ a
sub64-add64 a b p q = omega arith

pub add64-sub64 : (a b : ℕ) → a < 2 ^ 64 → b < 2 ^ 64 → add64 (sub64 a b) b ≡ a
add64-sub64 a b p q = omega arith

pub add64_comm : (a b : ℕ) → add64 a b ≡ add64 b a
add64_comm a b = omega arith

pub add64_assoc : (a b c : ℕ) → add64 (add64 a b) c ≡ add64 a (add64 b c)
add64_assoc a b c = omega arith

-- where nothing wraps
pub add64_plain : (a b : ℕ) → a + b < 2 ^ 64 → add64 a b ≡ a + b
add64_plain a b p = omega arith

pub sub64_plain : (a b : ℕ) → a < 2 ^ 64 → b ≤ a → sub64 a b ≡ a - b
sub64_plain a b p q = omega arith

-- the lowest bit: whether the number is odd
pub odd_is : (a : ℕ) → bit_and a 1 ≡ a % 2
odd_is a = and_mask a 1
