-- Numbers that rise.
use Rattle.std.specs.Prelude.{ℕ, suc, nat_lt, ◌==◌, ◌&&◌, Bool, true, false, cond, List, [], ◌∷◌, Option, Some, None}

-- a number may stand behind another, if there is one
abbrev pub is_behind : Option ℕ → ℕ → Bool
is_behind None x = true
is_behind (Some p) x = nat_lt p x

-- numbers rise behind another, if there is one
abbrev pub rises_behind : Option ℕ → List ℕ → Bool
rises_behind p [] = true
rises_behind p (x ∷ xs) = is_behind p x && rises_behind (Some x) xs

-- the index of the first number that isn't below another: where that stands in a rising list, or would stand
abbrev pub rank : ℕ → List ℕ → ℕ
rank v [] = 0
rank v (x ∷ xs) = cond (nat_lt x v) (suc (rank v xs)) 0

abbrev pub is_number : Option ℕ → ℕ → Bool
is_number None v = false
is_number (Some x) v = x == v
