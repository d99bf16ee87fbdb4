-- How a region keeps its bytes: in chunks of one length, each filled as far as it was stored into.
use Rattle.std.specs.Prelude.{◌≡◌, ℕ, ◌-◌, ◌*◌, ◌^◌, ◌<◌, ◌≤◌, List, [], ◌∷◌, ◌++◌, length, replicate}

-- the bytes, and zeros behind them up to n
unfoldable pub padded : ℕ → List ℕ → List ℕ
padded n bytes = bytes ++ replicate (n - length bytes) 0

-- the bytes of chunks one after the other
abbrev pub joined : List (List ℕ) → List ℕ
joined [] = []
joined (chunk ∷ chunks) = chunk ++ joined chunks

-- each chunk has n bytes
abbrev pub AreOfLength : ℕ → List (List ℕ) → Type 0
AreOfLength n [] = Unit {0}
AreOfLength n (chunk ∷ chunks) = (length chunk ≡ n) × AreOfLength n chunks

-- chunks of n bytes each, with room for so many bytes, whose number is one of 64 bits
pub record Chunked (n size : ℕ) (chunks : List (List ℕ)) : Type 0 where
  pub even : AreOfLength n chunks
  pub room : size ≤ n * length chunks
  pub small : size < 2 ^ 64
