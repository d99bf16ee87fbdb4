-- Numbers of 64 bits: naturals below 2 ^ 64, and their signed readings.
use Rattle.std.specs.Prelude.{ℕ, ◌+◌, ◌-◌, ◌*◌, ◌%◌, ◌^◌, Bool, nat_le, ℤ, int_div, bit_and, bit_or}
use Rattle.std.specs.Int.{cast_signed, cast_unsigned, w64}

-- the number read as two's complement
abbrev pub signed : ℕ → ℤ
signed a = cast_signed w64 a

-- the number that reads so
abbrev pub unsigned : ℤ → ℕ
unsigned z = cast_unsigned w64 z

-- the sign bit
abbrev pub sign : ℕ → Bool
sign a = nat_le (2 ^ 63) a

abbrev pub add64 : ℕ → ℕ → ℕ
add64 a b = (a + b) % 2 ^ 64

abbrev pub sub64 : ℕ → ℕ → ℕ
sub64 a b = (a + (2 ^ 64 - b)) % 2 ^ 64

abbrev pub mul64 : ℕ → ℕ → ℕ
mul64 a b = (a * b) % 2 ^ 64

abbrev pub neg64 : ℕ → ℕ
neg64 a = (2 ^ 64 - a) % 2 ^ 64

-- each bit turned over
abbrev pub not64 : ℕ → ℕ
not64 a = 2 ^ 64 - 1 - a

-- the bits of a without those of b, and with those that b hasn't
abbrev pub bic64 : ℕ → ℕ → ℕ
bic64 a b = bit_and a (not64 b)

abbrev pub orn64 : ℕ → ℕ → ℕ
orn64 a b = bit_or a (not64 b)

-- c plus or minus a * b
abbrev pub madd64 : ℕ → ℕ → ℕ → ℕ
madd64 a b c = add64 c (mul64 a b)

abbrev pub msub64 : ℕ → ℕ → ℕ → ℕ
msub64 a b c = sub64 c (mul64 a b)

-- the signed quotient toward 0; 0 for divisor 0; the least number by -1 wraps
abbrev pub sdiv64 : ℕ → ℕ → ℕ
sdiv64 a b = unsigned (int_div (signed a) (signed b)) % 2 ^ 64
