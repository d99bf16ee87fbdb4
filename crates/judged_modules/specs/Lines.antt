-- The lines of record types: each is its record type before the line of its base.
use Rattle.std.specs.Prelude.{◌≡◌, ℕ, List, [], ◌∷◌, Some, slice_get}
use Rattle.ob_judge.specs.Shapes.{Layout}

-- the line of record type r among these: none yet, itself, or itself before the line of another
pub data IsLine (records : List Layout) (r : ℕ) (line : List ℕ) : Type 0 where
  unknown : line ≡ [] → IsLine records r line
  root : line ≡ r ∷ [] → IsLine records r line
  behind : (b : ℕ) (l : Layout) → slice_get records b ≡ Some l → (l.line ≡ [] → ⊥) → line ≡ r ∷ l.line → IsLine records r line

abbrev pub AllLines : List Layout → Type 0
AllLines records = (r : ℕ) (l : Layout) → slice_get records r ≡ Some l → IsLine records r l.line
