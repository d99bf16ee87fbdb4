-- One array among those of several lengths.
use Rattle.std.specs.Prelude.{◌≡◌, ℕ, List, true, nat_le, pos}
use Rattle.ob_judge.specs.Judged.{Judged, Keeps, ◌>>◌, rule}
use Rattle.ob_judge.specs.Shapes.{Shape, Array, cells}
use Rattle.ob_judge.specs.Scopes.{Source, World, place}
use Rattle.ob_judge.specs.Types.{limit, is_length}
use Rattle.judged_modules.specs.Lists.{Each}

-- an array, whose word is this symbol: 35 at the word where it has too many cells
abbrev pub array_within : Source → (array_word length : ℕ) → Shape → World → Judged Shape
array_within p i n element w = do
  rule 35 (place p i) (nat_le (cells w.known (Array n element)) limit)
  Keeps (Array n element)

-- lengths that arrays may have
abbrev pub AreLengths : List ℕ → Type 0
AreLengths ns = Each (λ n. is_length (pos n) ≡ true) ns
