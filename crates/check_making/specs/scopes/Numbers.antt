-- Types by their numbers.
use Rattle.std.specs.Prelude.{◌≡◌, ℕ, List, [], ◌∷◌, Some, slice_get}
use Rattle.check_types.specs.declared.types.TypeRef.{TypeRef}

-- these are the numbers of these types, one for one
abbrev pub AreNumbersOf : (entries : List TypeRef) → List ℕ → List TypeRef → Type 0
AreNumbersOf entries [] [] = Unit {0}
AreNumbersOf entries (n ∷ ns) (k ∷ ks) = (slice_get entries n ≡ Some k) × AreNumbersOf entries ns ks
AreNumbersOf entries ns ks = ⊥
