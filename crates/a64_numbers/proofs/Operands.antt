-- Two words add or subtract 24 bits, the upper twelve and the lower twelve.
use Rattle.std.proofs.Common.{◌≡◌, ℕ, ◌*◌, ◌/◌, ◌%◌, ◌^◌, ◌<◌, arith}
use Rattle.wrapping_numbers.specs.Numbers.{add64, sub64}

pub plus_is : (a n : ℕ) → a < 2 ^ 64 → n < 2 ^ 24 → add64 (add64 a (n / 4096 * 2 ^ 12)) (n % 4096) ≡ add64 a n
plus_is a n p q = omega arith

pub minus_is : (a n : ℕ) → a < 2 ^ 64 → n < 2 ^ 24 → sub64 (sub64 a (n / 4096 * 2 ^ 12)) (n % 4096) ≡ sub64 a n
minus_is a n p q = omega arith
