-- Ranges in order, and which of the judgement's labels they are.
use Rattle.std.specs.Prelude.{◌≡◌, ℤ, List, [], ◌∷◌, true, int_le, int_lt, if◌then◌else◌, Option, Some, None}
use Rattle.ob_judge.specs.Cases.{overlaps}

-- all begin behind this number
abbrev pub AreBehind : ℤ → List (ℤ × ℤ) → Type 0
AreBehind n [] = Unit {0}
AreBehind n (e ∷ es) = (int_lt n e.0 ≡ true) × AreBehind n es

-- each ends where it begins or later, and before the next
abbrev pub AreApart : List (ℤ × ℤ) → Type 0
AreApart [] = Unit {0}
AreApart (e ∷ es) = (int_le e.0 e.1 ≡ true) × AreBehind e.1 es × AreApart es

-- these are the ranges so far, in any order: what overlaps these overlaps those
pub record AreRanges (es : List (ℤ × ℤ)) (ts : List (ℤ × ℤ)) : Type 0 where
  pub apart : AreApart es
  pub same : (low high : ℤ) → overlaps low high ts ≡ overlaps low high es

-- where the last range ends that begins at this number or before
abbrev pub later : Option ℤ → Option ℤ → Option ℤ
later (Some n) before = Some n
later None before = before

abbrev pub end_within : ℤ → ℤ × ℤ → Option ℤ
end_within high e = if int_le e.0 high then Some e.1 else None

abbrev pub last_within : ℤ → List (ℤ × ℤ) → Option ℤ
last_within high [] = None
last_within high (e ∷ es) = later (last_within high es) (end_within high e)
