-- Tables of numbers: each item that is there is what a function gives of its number.
use Rattle.std.specs.Prelude.{◌≡◌, ℕ, ◌+◌, List, length, map, filter, take, Some, slice_get}
use Rattle.ob_types.specs.Table.{Table}
use Rattle.ob_types.specs.Layout.{cells_of_all}
use Rattle.ob_types.specs.Meaning.{is_value}
use Rattle.ob_types.specs.declared.types.Formal.{Formal}

-- each item is such at its number
abbrev pub AtEach : {A : Type 0} → (ℕ → A → Type 0) → List A → Type 0
AtEach {A} P items = (k : ℕ) (x : A) → slice_get items k ≡ Some x → P k x

abbrev pub TableOf : (ℕ → ℕ) → List ℕ → Type 0
TableOf f items = AtEach (λ k n. n ≡ f k) items

-- a list of tables
abbrev pub RowsOf : (ℕ → ℕ → ℕ) → List (List ℕ) → Type 0
RowsOf f rows = AtEach (λ k row. TableOf (f k) row) rows

-- where the variables of these types stand, the first one at a place, and where they end
pub record RowTo (t : Table) (first : ℕ) (types : List ℕ) (row : List ℕ) (end : ℕ) : Type 0 where
  pub places : AtEach (λ k n. n ≡ first + cells_of_all t (take k types)) row
  pub many : length row ≡ length types
  pub ends : end ≡ first + cells_of_all t types

-- the types of the scalar value parameters among some parameters
abbrev pub values_among : List Formal → List ℕ
values_among xs = map (λ x. x.type_number) (filter (λ x. is_value x.mode) xs)
