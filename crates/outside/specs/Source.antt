-- What a source gave.
use Rattle.std.specs.Prelude.{◌≡◌, ℕ, List, [], ◌++◌, length, Option, Some, None}

-- where it is told what is left, these bytes were its first and are gone; where it isn't told, it isn't afterwards
abbrev pub Gave : Option (List ℕ) → List ℕ → Option (List ℕ) → Type 0
Gave None bytes new = new ≡ None
Gave (Some old) bytes new = (rest : List ℕ) × (new ≡ Some rest) × (old ≡ bytes ++ rest)

-- where it is told what is left, nothing is
abbrev pub IsAtEnd : Option (List ℕ) → Type 0
IsAtEnd None = Unit {0}
IsAtEnd (Some left) = left ≡ []

-- some bytes were given, of which this number is such
pub record GaveSome (old new : Option (List ℕ)) (many : ℕ → Type 0) : Type 0 where
  pub bytes : List ℕ
  pub gave : Gave old bytes new
  pub so_many : many (length bytes)
