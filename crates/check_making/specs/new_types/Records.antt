-- Record types, once their fields are judged.
use Rattle.std.specs.Prelude.{◌≡◌, ◌≤◌, ◌*◌, ◌∷◌, ℕ, List, length, nat_le}
use Rattle.ob_types.specs.Trees.{rounded_extent}
use Rattle.ob_judge.specs.Judged.{rule}
use Rattle.ob_judge.specs.Shapes as J
use Rattle.ob_judge.specs.Scopes.{Source, place}
use Rattle.ob_judge.specs.Making.{Part, ◌>>>◌, give, here, ask, set_record}
use Rattle.ob_judge.specs.Types.{limit}
use Rattle.check_types.specs.Fields.{at_fields}
use Rattle.check_types.specs.declared.table.Layout.{Layout}
use Rattle.check_types.specs.declared.table.TypeTable.{TypeTable}
use Rattle.table_builder.specs.Cells.{counted_extent}
use Rattle.table_builder.specs.Contents.{IsClosed, AreElements}

-- what fields are of has a number, and one record type more may extend the base
pub record IsKnown (t : TypeTable) (l : Layout) : Type 0 where
  pub elements : AreElements t.entries.items l.added.items
  pub closed : IsClosed t.entries.items l
  pub short : length l.line.items ≤ 15
  -- a cell takes eight bytes at most
  pub narrow : l.extent.bytes ≤ 8 * l.cells

-- record type r of this module, with these fields
pub record IsWhole (unit r : ℕ) (l whole : Layout) : Type 0 where
  pub module_number : whole.module_number ≡ unit
  pub line : whole.line.items ≡ r ∷ l.line.items
  pub added : whole.added ≡ l.added
  pub fields : (q : List ℕ) → at_fields whole.fields q ≡ at_fields l.fields q
  pub cells : whole.cells ≡ l.cells
  pub extent : whole.extent ≡ counted_extent (rounded_extent l.extent)

-- record type r with these fields: 35 at its word where it has too many cells
abbrev pub with_layout : Source → (record_word r : ℕ) → J.Layout → Part J.Shape
with_layout p i r h = here (λ w. rule 35 (place p i) (nat_le h.cells limit)) >>> λ _.
    ask (λ s. s.world.module_number) >>> λ m.
    set_record r (record h { module_number = m; line = r ∷ h.line; extent = rounded_extent h.extent }) >>> λ _. give (J.Record r)
