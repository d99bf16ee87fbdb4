-- The values that words give an argument or an option, by the rows that a command's matches have.
use Rattle.std.specs.Prelude.{ℕ, List, [], ◌∷◌, Option, Some, None, map, option_map, codes, if◌then◌else◌}
use Rattle.std.specs.Borrow.{Bor}
use Rattle.std.specs.Str.{bytes_eq}
use Rattle.clap.specs.Words.{Row, all_of, first_of}

-- the bytes of each text
abbrev pub texts : List (Bor (List ℕ)) → List (List ℕ)
texts list = map (λ text. text.now) list

abbrev pub text : Option (Bor (List ℕ)) → Option (List ℕ)
text name = option_map (λ text. text.now) name

module _ {A B : Type 0} where
  -- where there is a value, what it leads to
  abbrev pub given : Option A → (A → Option B) → Option B
  given None f = None
  given (Some a) f = f a

module _ {A : Type 0} where
  -- what a name stands for in a table of names
  abbrev pub named_in : List (List ℕ × A) → List ℕ → Option A
  named_in [] name = None
  named_in (row ∷ rows) name = if bytes_eq name row.0 then Some row.1 else named_in rows name

  -- the default where the words have no text, else what the text stands for
  abbrev pub value_or : A → (List ℕ → Option A) → Option (List ℕ) → Option A
  value_or default stands_for None = Some default
  value_or default stands_for (Some text) = stands_for text

-- a list that isn't empty
abbrev pub some_of : List (List ℕ) → Option (List (List ℕ))
some_of [] = None
some_of (first ∷ rest) = Some (first ∷ rest)

-- the names that an argument has, of which there is one at least
abbrev pub names_in : List ℕ → List Row → Option (List (List ℕ))
names_in name rows = given (all_of name rows) some_of

abbrev pub files_in : List Row → Option (List (List ℕ))
files_in rows = names_in (codes "FILE") rows

-- a name that isn't this one, if there is a name
abbrev pub other_than : List ℕ → Option (List ℕ) → Option (Option (List ℕ))
other_than out None = Some None
other_than out (Some name) = if bytes_eq name out then None else Some (Some name)

abbrev pub notes_in : List ℕ → List Row → Option (Option (List ℕ))
notes_in out rows = other_than out (first_of (codes "notes") rows)
