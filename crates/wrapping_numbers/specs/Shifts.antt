-- Shifts and turns, by an amount modulo 64.
use Rattle.std.specs.Prelude.{ℕ, ◌*◌, ◌/◌, ◌%◌, ◌^◌}
use Rattle.std.specs.Int.{int_shr, rotate_right, w64}
use Rattle.wrapping_numbers.specs.Numbers.{signed, unsigned}

-- to the left
abbrev pub lsl64 : ℕ → ℕ → ℕ
lsl64 a n = a * 2 ^ (n % 64) % 2 ^ 64

-- to the right, zeros in
abbrev pub lsr64 : ℕ → ℕ → ℕ
lsr64 a n = a / 2 ^ (n % 64)

-- to the right, signs in
abbrev pub asr64 : ℕ → ℕ → ℕ
asr64 a n = unsigned (int_shr (signed a) (n % 64))

-- turned to the right
abbrev pub ror64 : ℕ → ℕ → ℕ
ror64 a n = rotate_right w64 a (n % 64)
