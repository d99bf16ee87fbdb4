-- Sets of values as rows of bits.
use Rattle.std.specs.Prelude.{◌≡◌, ℕ, ◌+◌, ◌-◌, ◌/◌, ◌%◌, ◌^◌, ◌==◌, ◌<◌, ◌≤◌, List, [], ◌∷◌, filter, Bool, true, false, Option, Some, None, slice_index, slice_index_or}
use Rattle.run_laws.specs.Layers.{places_from}

-- value v is in a row of words of 64 bits: bit v % 64 of word v / 64, where there is such a word
abbrev pub is_in : List ℕ → ℕ → Bool
is_in row v = slice_index row (v / 64) / 2 ^ (v % 64) % 2 == 1

-- value v is in the n-th row, where there is such a row
abbrev pub has_bit : List (List ℕ) → ℕ → ℕ → Bool
has_bit rows n v = is_in (slice_index_or rows n []) v

---- The next value of a row

-- no number from one on and below another passes a test
abbrev pub NonePasses : (ℕ → Bool) → ℕ → ℕ → Type 0
NonePasses p from to = (v : ℕ) → from ≤ v → v < to → p v ≡ false

-- the lowest number from one on that passes a test
pub record IsLowest (p : ℕ → Bool) (from v : ℕ) : Type 0 where
  pub at_least : from ≤ v
  pub passes : p v ≡ true
  pub none_before : NonePasses p from v

-- of the numbers below 2^32 the lowest from one on that passes a test, or none where none passes
abbrev pub IsNext : (ℕ → Bool) → ℕ → Option ℕ → Type 0
IsNext p from None = NonePasses p from (2 ^ 32)
IsNext p from (Some v) = IsLowest p from v

---- What is live into a node

-- of so many values those that are live into a node, by rows of bits
abbrev pub live_into : ℕ → List (List ℕ) → ℕ → List ℕ
live_into values rows n = filter (has_bit rows n) (places_from 0 values)

-- those of them from a number on
abbrev pub live_from : ℕ → List (List ℕ) → ℕ → ℕ → List ℕ
live_from values rows n from = filter (has_bit rows n) (places_from from (values - from))

-- the first of those from a number on, if there is one
abbrev pub IsNextLive : ℕ → List (List ℕ) → ℕ → ℕ → Option ℕ → Type 0
IsNextLive values rows n from None = live_from values rows n from ≡ []
IsNextLive values rows n from (Some v) = (v < values) × (from ≤ v) × (live_from values rows n from ≡ v ∷ live_from values rows n (v + 1))
