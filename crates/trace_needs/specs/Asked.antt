-- What positions answer, by rows of numbers that rise.
use Rattle.std.specs.Prelude.{ℕ, ◌≤◌, ◌<◌, nat_lt, nat_le, cond, List, [], ◌∷◌, length, slice_index, Option, Some, None}
use Rattle.trace_needs.specs.declared.notes.Note.{Note}
use Rattle.trace_needs.specs.Tables.{row_in}

-- the first number of a row from a limit on
abbrev pub first_from : ℕ → List ℕ → Option ℕ
first_from limit [] = None
first_from limit (x ∷ xs) = cond (nat_le limit x) (Some x) (first_from limit xs)

-- the last number of a row below a limit; `last` where there is none
abbrev pub last_below : ℕ → Option ℕ → List ℕ → Option ℕ
last_below limit last [] = last
last_below limit last (x ∷ xs) = last_below limit (cond (nat_lt x limit) (Some x) last) xs

-- the answers, by notes of what positions need, and of what they mention
unfoldable pub need_told : List Note → ℕ → ℕ → Option ℕ
need_told notes v at = first_from at (row_in notes v)

unfoldable pub mention_told : List Note → ℕ → ℕ → Option ℕ
mention_told notes v before = last_below before None (row_in notes v)

abbrev pub IsRising : List ℕ → Type 0
IsRising row = (i j : ℕ) → i ≤ j → j < length row → slice_index row i ≤ slice_index row j
