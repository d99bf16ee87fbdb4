-- The numbers of traces, and their sums along the way from a root.
use Rattle.std.specs.Prelude.{ℕ, zero, suc, ◌+◌, ◌*◌, ◌%◌, ◌^◌, List, Option, Some, None}
use mathlib.Core.Option as m
use lib.ListN.{get_elem?}

-- one round
unfoldable pub stirred : ℕ → ℕ
stirred x = ((x * 6364136223846793005) % 2 ^ 64 + 1442695040888963407) % 2 ^ 64

abbrev pub mixed : ℕ → ℕ → ℕ
mixed zero x = x
mixed (suc n) x = stirred (mixed n x)

module _ (P : List (Option ℕ)) (number : ℕ → ℕ) where
  -- the trace's number, added to the sum of its parent, if it has one
  abbrev pub added : (ℕ → ℕ) → ℕ → m.Option (Option ℕ) → ℕ
  added above t (m.some (Some p)) = (above p + number t) % 2 ^ 64
  added above t (m.some None) = number t
  added above t m.none = 0

  -- the sum of the numbers from the trace's root down to the trace, of which there are at most n
  abbrev pub sum_along : ℕ → ℕ → ℕ
  sum_along zero t = 0
  sum_along (suc n) t = added (sum_along n) t (get_elem? P t)

  -- each parent's number is below its child's, so there are at most t + 1
  abbrev pub path_sum : ℕ → ℕ
  path_sum t = sum_along (suc t) t
