-- The form of a list and of its lines.
use Rattle.std.specs.Prelude.{◌≡◌, ◌≢◌, ℕ, ◌+◌, ◌<◌, ◌==◌, List, [], ◌∷◌, ◌++◌, length, slice_index_or, ◌⊎◌}
use Rattle.std.specs.List.{AllZip, slice_split}

-- a line's submitter, and the names of its files
pub record ListLine : Type 0 where
  pub sender : ℕ
  pub names : List (List ℕ)

-- a list's rows: its parts at byte 10. Where each line has an end, the last row is empty
abbrev pub rows_of : List ℕ → List (List ℕ)
rows_of text = slice_split (λ b. b == 10) text

-- a row's words: its parts at blanks
abbrev pub words_of : List ℕ → List (List ℕ)
words_of row = slice_split (λ b. b == 32) row

abbrev pub NoneIsEmpty : List (List ℕ) → Type 0
NoneIsEmpty words = (k : ℕ) → k < length words → 0 < length (slice_index_or words k [])

abbrev pub SomeIsEmpty : List (List ℕ) → Type 0
SomeIsEmpty words = (k : ℕ) × (k < length words) × (slice_index_or words k [] ≡ [])

-- the row's words are the digit of the line's submitter, 0 or 1, and the line's names, of which there is one at least, and none is
-- empty
pub record IsRowOf (row : List ℕ) (line : ListLine) : Type 0 where
  pub words : words_of row ≡ ((48 + line.sender) ∷ []) ∷ line.names
  pub submitter : line.sender < 2
  pub some_name : 0 < length line.names
  pub named : NoneIsEmpty line.names

-- each row is of the form
abbrev pub AllForm : List (List ℕ) → Type 0
AllForm [] = Unit {0}
AllForm (row ∷ more) = ((line : ListLine) × IsRowOf row line) × AllForm more

-- the lines of a list: each row but the last is one, and the last is empty
pub record AreLines (text : List ℕ) (lines : List ListLine) : Type 0 where
  pub good : List (List ℕ)
  pub rows : rows_of text ≡ good ++ [] ∷ []
  pub each : AllZip IsRowOf good lines

-- The first bad line has this number, counted from 1: the rows before it are of the form and have an end, and it has no end, or
-- isn't of the form.
pub record IsFirstBad (text : List ℕ) (number : ℕ) : Type 0 where
  pub good : List (List ℕ)
  pub bad : List ℕ
  pub more : List (List ℕ)
  pub rows : rows_of text ≡ good ++ bad ∷ more
  pub count : number ≡ length good + 1
  pub before : AllForm good
  pub wrong : ((more ≡ []) × (bad ≢ [])) ⊎ ((more ≢ []) × ((line : ListLine) → ¬ IsRowOf bad line))
