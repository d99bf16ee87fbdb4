-- The fourteen conditions between two numbers, by their numbers in instructions (Arm Architecture Reference Manual,
-- "Condition code suffixes").
use Rattle.std.specs.Prelude.{ℕ, List, [], ◌∷◌, Bool, true, not, ◌==◌, ◌&&◌, nat_lt, nat_le, int_lt, int_le, slice_index_or}
use mathlib.Core.Bool.{beq}
use Rattle.wrapping_numbers.specs.Numbers.{signed, sign, sub64}

-- the signed difference leaves the signed 64-bit range
abbrev pub overflows : ℕ → ℕ → Bool
overflows a b = not (beq (sign a) (sign b)) && not (beq (sign (sub64 a b)) (sign a))

-- equal, different; without sign: at least, below; a negative difference or not; a difference out of range or not; without sign:
-- above, at most; with sign: at least, below, above, at most
abbrev pub conditions : List (ℕ → ℕ → Bool)
conditions =
    (λ a b. a == b) ∷ (λ a b. not (a == b))
    ∷ (λ a b. nat_le b a) ∷ (λ a b. nat_lt a b)
    ∷ (λ a b. sign (sub64 a b)) ∷ (λ a b. not (sign (sub64 a b)))
    ∷ overflows ∷ (λ a b. not (overflows a b))
    ∷ (λ a b. nat_lt b a) ∷ (λ a b. nat_le a b)
    ∷ (λ a b. int_le (signed b) (signed a)) ∷ (λ a b. int_lt (signed a) (signed b))
    ∷ (λ a b. int_lt (signed b) (signed a)) ∷ (λ a b. int_le (signed a) (signed b)) ∷ []

-- whether the condition of a number holds between two numbers; any other number's holds always
abbrev pub compares : ℕ → ℕ → ℕ → Bool
compares k = slice_index_or conditions k (λ a b. true)
