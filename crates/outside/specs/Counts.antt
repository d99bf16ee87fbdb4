-- Counts of 64 bits, which stand still at their greatest.
use Rattle.std.specs.Prelude.{ℕ, ◌+◌, ◌-◌, ◌^◌, ◌≤◌, min, max}

-- where counts stand still
abbrev pub greatest_count : ℕ
greatest_count = 2 ^ 64 - 1

-- a number that rises by n, up to the greatest count
abbrev pub raised : ℕ → ℕ → ℕ
raised old n = max old (min (old + n) greatest_count)

-- a count rose, or stands at the greatest
abbrev pub Rose : ℕ → ℕ → Type 0
Rose old new = min (old + 1) greatest_count ≤ new
