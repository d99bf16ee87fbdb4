-- Tests of values that are parts of the meaning's.
use Rattle.std.specs.Prelude.{ℕ}
use Rattle.run_laws.specs.Turns.{◌>>=◌, give}
use Rattle.wrapping_numbers.specs.Sets.{has}
use Rattle.ob_types.specs.Store.{Cell, Bits, Act, bits_in, unless}
use Rattle.ob_types.specs.Operators.{truth, inside}

-- a number that may be an element of a set
abbrev pub element_in : ℕ → Cell → Act ℕ
element_in f c = do
  n ← bits_in c
  _ ← unless f 7 (inside n 64)
  give n

-- whether such a number is in a set
abbrev pub has_in : ℕ → Cell → Act Cell
has_in n d = do
  b ← bits_in d
  give (Bits (truth (has b n)))
