-- The lowest four bytes of a number.
use Rattle.std.proofs.Common.{◌≡◌, ℕ, ◌%◌, ◌/◌, arith}
use Rattle.plain_form.specs.Spelling.{number}

-- they are those of the number modulo 2^32
pub lowest : (n : ℕ) → number (n % 4294967296) ≡ number n
unfolding number
lowest n =
    let a : n % 4294967296 % 256 ≡ n % 256 = omega arith in
    let b : n % 4294967296 / 256 % 256 ≡ n / 256 % 256 = omega arith in
    let c : n % 4294967296 / 65536 % 256 ≡ n / 65536 % 256 = omega arith in
    let d : n % 4294967296 / 16777216 % 256 ≡ n / 16777216 % 256 = omega arith in
    cc
