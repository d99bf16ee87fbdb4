-- Sets of the numbers 0 to 63 as numbers of 64 bits: element x is bit x.
use Rattle.std.specs.Prelude.{◌≡◌, ℕ, ◌-◌, ◌^◌, ◌<◌, Bool, true, ◌==◌, bit_and}
use Rattle.std.specs.Int.{bit_at}
use Rattle.wrapping_numbers.specs.Numbers.{sub64, bic64}
use Rattle.wrapping_numbers.specs.Shifts.{lsl64, lsr64}

-- x is an element of the set s
abbrev pub has : ℕ → ℕ → Bool
has s x = bit_at s x == 1

-- the set of a alone: 1 shifted left by a
abbrev pub bit_words : ℕ → ℕ
bit_words a = lsl64 1 a

-- the set of a to b: all bits shifted right by 63 - b, and those shifted left by a
abbrev pub span_words : ℕ → ℕ → ℕ
span_words a b = bit_and (lsr64 (2 ^ 64 - 1) (sub64 63 b)) (lsl64 (2 ^ 64 - 1) a)

-- whether a is in s, as 1 or 0: s shifted right by a, and its lowest bit
abbrev pub has_words : ℕ → ℕ → ℕ
has_words a s = bit_and (lsr64 s a) 1

-- the test to which inclusion of s in t is compiled: nothing of s is left without t
abbrev pub subset : ℕ → ℕ → Bool
subset s t = bic64 s t == 0

-- each element of s is one of t
abbrev pub IsSubset : ℕ → ℕ → Type 0
IsSubset s t = (x : ℕ) → x < 64 → has s x ≡ true → has t x ≡ true
