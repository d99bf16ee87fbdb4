-- Text that stays text in a page.
use Rattle.std.specs.Prelude.{◌≡◌, ℕ, ◌==◌, ◌||◌, ◌&&◌, not, Bool, true, List, [], ◌∷◌, ◌++◌, codes}
use Rattle.html_text.specs.Escapes.{is_printed}

-- a byte that ends no text: printed, and none of `<`, `>` and the quotes
abbrev pub is_harmless : ℕ → Bool
is_harmless b = is_printed b && not (b == 60 || b == 62 || b == 34 || b == 39)

-- which begins no entity either
abbrev pub is_plain : ℕ → Bool
is_plain b = is_harmless b && not (b == 38)

-- the entities
pub data IsEntity : List ℕ → Type 0 where
  And : IsEntity (codes "&amp;")
  Less : IsEntity (codes "&lt;")
  Greater : IsEntity (codes "&gt;")
  Quote : IsEntity (codes "&quot;")
  Apostrophe : IsEntity (codes "&#39;")
  Unknown : IsEntity (codes "&#xFFFD;")

-- plain bytes and entities, one behind the other
pub data IsHtmlText : List ℕ → Type 0 where
  Empty : IsHtmlText []
  Plain : (b : ℕ) (rest : List ℕ) → is_plain b ≡ true → IsHtmlText rest → IsHtmlText (b ∷ rest)
  Entity : (entity rest : List ℕ) → IsEntity entity → IsHtmlText rest → IsHtmlText (entity ++ rest)
