-- Rows of registers, each empty or with one value.
use Rattle.std.specs.Prelude.{ℕ, suc, ◌==◌, Bool, false, cond, List, [], ◌∷◌, Option, Some, None}

abbrev pub is : ℕ → Option ℕ → Bool
is v None = false
is v (Some u) = u == v

-- the first register with a value
abbrev pub register_of : ℕ → List (Option ℕ) → ℕ
register_of v [] = 0
register_of v (x ∷ xs) = cond (is v x) 0 (suc (register_of v xs))

-- the lowest empty register, where the first of the row is register i
abbrev pub lowest_empty : ℕ → List (Option ℕ) → Option ℕ
lowest_empty i [] = None
lowest_empty i (None ∷ xs) = Some i
lowest_empty i (Some v ∷ xs) = lowest_empty (suc i) xs
