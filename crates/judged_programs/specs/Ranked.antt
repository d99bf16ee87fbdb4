-- Record types in an order in which each is behind its base and the record types that its fields have by value, with their
-- cells and bytes.
use Rattle.std.specs.Prelude.{◌≡◌, ◌<◌, ◌≤◌, ◌+◌, ℕ, List, [], ◌∷◌, length, Some, slice_get}
use Rattle.ob_types.specs.Trees.{no_extent, with_part, rounded_extent}
use Rattle.ob_types.specs.declared.types.Extent.{Extent}
use Rattle.ob_judge.specs.Shapes.{Added, Layout, cells_of, extent_in}
use Rattle.ob_judge.specs.Types.{limit}
use Rattle.judged_modules.specs.Lists.{Each}
use Rattle.judged_programs.specs.Complete.{core, IsKnown}
use Rattle.judged_programs.specs.LegalTable.{cells_with, extent_with}

-- the cells of a record type
abbrev pub counted : List Layout → ℕ → ℕ
counted records r = cells_of (slice_get records r)

-- of all these fields
abbrev pub cells_of_all : (ℕ → ℕ) → List Added → ℕ
cells_of_all of [] = 0
cells_of_all of (x ∷ xs) = cells_with of x.shape + cells_of_all of xs

-- of the base that a line says
abbrev pub inherited : List Layout → List ℕ → ℕ
inherited records (r ∷ b ∷ more) = counted records b
inherited records line = 0

-- the same of bytes: what a record type takes, some fields behind others, and the base that a line says

abbrev pub measured : List Layout → ℕ → Extent
measured records r = extent_in (slice_get records r)

abbrev pub with_all : (ℕ → Extent) → Extent → List Added → Extent
with_all of e [] = e
with_all of e (x ∷ xs) = with_all of (with_part e (extent_with of x.shape)) xs

abbrev pub extended : List Layout → List ℕ → Extent
extended records (r ∷ b ∷ more) = measured records b
extended records line = no_extent

-- a field of a type that is known, and whose record type was complete before
abbrev pub IsBefore : List Layout → (ℕ → ℕ) → ℕ → Added → Type 0
IsBefore records rank r x = IsKnown records x.shape × ((k : ℕ) → core x.shape ≡ Some k → rank k < rank r)

pub record IsLegalRecord (records : List Layout) (rank : ℕ → ℕ) (clock r : ℕ) (l : Layout) : Type 0 where
  pub before : (l.line ≡ [] → ⊥) → rank r < clock
  pub short : length l.line ≤ 16
  pub few : l.cells ≤ limit
  pub added : Each (IsBefore records rank r) l.added
  pub base : (x b : ℕ) (more : List ℕ) → l.line ≡ x ∷ b ∷ more → rank b < rank r
  pub cells : l.cells ≡ inherited records l.line + cells_of_all (counted records) l.added
  pub extent : l.extent ≡ rounded_extent (with_all (measured records) (extended records l.line) l.added)

pub record IsRanked (records : List Layout) : Type 0 where
  pub rank : ℕ → ℕ
  pub clock : ℕ
  pub each : (r : ℕ) (l : Layout) → slice_get records r ≡ Some l → IsLegalRecord records rank clock r l

-- the base of one in the making: none, or a complete record type
pub data IsBase (records : List Layout) (b : Layout) : Type 0 where
  no_base : b.line ≡ [] → b.cells ≡ 0 → b.extent ≡ no_extent → IsBase records b
  some_base : (r : ℕ) (l : Layout) → slice_get records r ≡ Some l → (l.line ≡ [] → ⊥) → b.line ≡ l.line → b.cells ≡ l.cells → b.extent ≡ l.extent → length l.line ≤ 15 → IsBase records b

-- one in the making, with this base: its fields so far
pub record IsAdding (records : List Layout) (b g : Layout) : Type 0 where
  pub line : g.line ≡ b.line
  pub added : Each (λ x. IsKnown records x.shape) g.added
  pub cells : g.cells ≡ b.cells + cells_of_all (counted records) g.added
  pub extent : g.extent ≡ with_all (measured records) b.extent g.added
