-- How many elements a type has that are no arrays, beside each entry.
use Rattle.std.specs.Prelude.{◌≡◌, ◌*◌, ◌≤◌, ℕ, List, [], ◌∷◌, Option, Some, None, length, min, slice_get}
use Rattle.check_types.specs.declared.types.TypeRef.{TypeRef}
use Rattle.check_types.specs.declared.types.TypeRef.TheVariants as TheType
use Rattle.table_builder.specs.declared.elements.Elements.{Elements}
use Rattle.table_builder.specs.Cells.{most_cells}

-- one element, itself
abbrev pub itself : ℕ → Elements
itself n = record { count = 1; of = n }

abbrev pub or_itself : ℕ → Option Elements → Elements
or_itself n None = itself n
or_itself n (Some x) = x

-- those of the type with this number
abbrev pub known_elements : List Elements → ℕ → Elements
known_elements xs n = or_itself n (slice_get xs n)

-- so many times as many
abbrev pub times : ℕ → Elements → Elements
times n x = record { count = min most_cells (n * x.count); of = x.of }

-- those of a type with the number n: an array's length times those of its element type
abbrev pub elements_of : List Elements → (n : ℕ) → TypeRef → Elements
elements_of xs n (TheType.Array l e) = times l (known_elements xs e)
elements_of xs n of = itself n

-- those of the basic types
abbrev pub elements_of_basics : List Elements
elements_of_basics = itself 0 ∷ itself 1 ∷ itself 2 ∷ itself 3 ∷ itself 4 ∷ itself 5 ∷ []

-- each entry has its elements beside it
pub record AreCounted (entries : List TypeRef) (xs : List Elements) : Type 0 where
  pub as_many : length entries ≤ length xs
  pub each : (n : ℕ) (of : TypeRef) → slice_get entries n ≡ Some of → slice_get xs n ≡ Some (elements_of xs n of)
