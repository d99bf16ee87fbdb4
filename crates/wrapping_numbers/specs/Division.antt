-- DIV and MOD, as Oberon-07 has them (report, "Arithmetic operators"), and in steps of 64-bit arithmetic.
use Rattle.std.specs.Prelude.{ℕ, bit_and}
use Rattle.std.specs.Int.{int_div_euclid, int_rem_euclid}
use Rattle.wrapping_numbers.specs.Numbers.{signed, unsigned, add64, sdiv64, msub64}
use Rattle.wrapping_numbers.specs.Shifts.{asr64}

-- x DIV y and x MOD y for y > 0: the quotient rounded down, and the remainder from 0 up to y
abbrev pub div_of : ℕ → ℕ → ℕ
div_of x y = unsigned (int_div_euclid (signed x) (signed y))

abbrev pub mod_of : ℕ → ℕ → ℕ
mod_of x y = unsigned (int_rem_euclid (signed x) (signed y))

-- q, the quotient toward 0; r, what it leaves of x; one less where r is negative
abbrev pub div_words : ℕ → ℕ → ℕ
div_words x y =
    let q = sdiv64 x y in
    let r = msub64 q y x in
    add64 q (asr64 r 63)

-- r, what the quotient toward 0 leaves of x; y more where it is negative
abbrev pub mod_words : ℕ → ℕ → ℕ
mod_words x y =
    let q = sdiv64 x y in
    let r = msub64 q y x in
    add64 r (bit_and y (asr64 r 63))
