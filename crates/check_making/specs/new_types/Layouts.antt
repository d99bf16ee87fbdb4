-- What is known of a record type while its fields are judged.
use Rattle.std.specs.Prelude.{◌≡◌, ◌*◌, ◌≤◌, [], ℕ, List, Option, Some, None, option_map, map, length, min}
use Rattle.ob_syntax.specs.declared.types.Base.{Base}
use Rattle.ob_judge.specs.Judged.{Judged, ◌>>=◌, some}
use Rattle.ob_judge.specs.Shapes as J
use Rattle.ob_judge.specs.Scopes.{Source, World, place}
use Rattle.ob_judge.specs.Parameters.{type_at}
use Rattle.ob_judge.specs.Types.{record_only}
use Rattle.check_types.specs.Fields.{at_fields}
use Rattle.check_types.specs.declared.table.Layout.{Layout}
use Rattle.check_types.specs.declared.table.TypeTable.{TypeTable}
use Rattle.check_types.specs.Known.{field_of, added_of}
use Rattle.table_builder.specs.Cells.{most_cells, counted_extent}
use Rattle.table_builder.specs.Contents.{IsClosed, AreElements, IsBlank}
use Rattle.check_making.specs.declared.making.Declaring.{Declaring}

-- the fields so far, their cells and bytes counted as far as any type may have them; what they are of has a number
pub record IsSoFar (t : TypeTable) (l : Layout) (g : J.Layout) : Type 0 where
  pub module_number : g.module_number ≡ l.module_number
  pub line : g.line ≡ l.line.items
  pub added : g.added ≡ map (added_of t.types) l.added.items
  pub fields : (q : List ℕ) → g.fields q ≡ option_map (field_of t.types) (at_fields l.fields q)
  pub cells : l.cells ≡ min most_cells g.cells
  pub extent : l.extent ≡ counted_extent g.extent
  -- a cell takes eight bytes at most
  pub narrow : g.extent.bytes ≤ 8 * g.cells
  pub elements : AreElements t.entries.items l.added.items
  pub closed : IsClosed t.entries.items l
  pub short : length l.line.items ≤ 15

abbrev pub IsSoFarIn : Declaring → Layout → J.Layout → Type 0
IsSoFarIn s l g = IsSoFar s.types.table l g

-- none are added yet to those of this base
abbrev pub IsBegun : Declaring → Layout → J.Layout → Type 0
IsBegun s l b = IsSoFar s.types.table l (record b { added = [] })

-- a copy without what it adds
pub record IsCopy (l base : Layout) : Type 0 where
  pub module_number : l.module_number ≡ base.module_number
  pub line : l.line.items ≡ base.line.items
  pub added : l.added.items ≡ []
  pub fields : (q : List ℕ) → at_fields l.fields q ≡ at_fields base.fields q
  pub cells : l.cells ≡ min most_cells base.cells
  pub extent : l.extent ≡ counted_extent base.extent

-- nothing is known but of the base, if there is one
abbrev pub IsBegunFrom : Layout → Option Layout → Type 0
IsBegunFrom l None = IsBlank l
IsBegunFrom l (Some base) = IsCopy l base

-- the record type that a base names
abbrev pub base_number : Source → Base → World → Judged ℕ
base_number p b w = do
  s ← type_at p 42 b.name w
  some 42 (place p b.name.name) (record_only s)

abbrev pub IsNumber : ℕ → ℕ → Type 0
IsNumber r n = r ≡ n
