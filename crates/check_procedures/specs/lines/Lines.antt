-- The lines of a text by the places where they begin.
use Rattle.std.specs.Prelude.{◌≡◌, ◌<◌, ℕ, suc, List, [], ◌∷◌, length, if◌then◌else◌, nat_eq}

-- the places behind the line ends of bytes that stand from this place on
abbrev pub starts_from : ℕ → List ℕ → List ℕ
starts_from at [] = []
starts_from at (b ∷ bs) = if nat_eq b 10 then suc at ∷ starts_from (suc at) bs else starts_from (suc at) bs

-- where the lines of a text begin, but the first; each place, and each line, has a number of 32 bits
pub record IsLineTable (bytes lines : List ℕ) : Type 0 where
  pub starts : lines ≡ starts_from 0 bytes
  pub few : length bytes < 4294967295
