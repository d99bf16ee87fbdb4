-- Which calls of a device fail, and how many were made.
use Rattle.std.specs.Prelude.{ℕ, ◌+◌, ◌==◌, min, Bool, if◌then◌else◌, List}
use Rattle.std.specs.List.{list_any}
use Rattle.outside.specs.Counts.{greatest_count}

-- the numbers of the calls that fail, how many calls were made, and how many faults there were; calls are numbered from
-- 0, so the next one's number is how many were made
pub record Calls : Type 0 where
  pub failing : List ℕ
  pub made : ℕ
  pub faults : ℕ

-- none was made yet
abbrev pub no_calls : List ℕ → Calls
no_calls failing = record { failing = failing; made = 0; faults = 0 }

-- whether the next call's number is listed
abbrev pub fails_next : Calls → Bool
fails_next c = list_any (λ n. n == c.made) c.failing

-- one more, up to the greatest count
abbrev pub one_more : ℕ → ℕ
one_more n = min (n + 1) greatest_count

-- one more call was made, which was a fault or wasn't
abbrev pub called : Calls → Bool → Calls
called c fault = record { failing = c.failing; made = one_more c.made; faults = (if fault then one_more c.faults else c.faults) }
