-- What a builder of a table keeps.
use Rattle.std.specs.Prelude.{◌≡◌, ◌-◌, ◌*◌, ◌≤◌, ℕ, List, [], ◌∷◌, length, true, cond, Option, Some, None, Vec, slice_get}
use Rattle.std.specs.BTreeMap.{BTreeMap}
use Rattle.std.specs.Global.{Global}
use Rattle.std.specs.Str.{bytes_eq}
use Rattle.ob_types.specs.Trees.{no_extent}
use Rattle.ob_types.specs.declared.types.Field.{Field}
use Rattle.ob_types.specs.declared.types.RecordType.{RecordType}
use Rattle.ob_judge.specs.Modules.{base_in}
use Rattle.check_types.specs.steps.Maps.{at_bytes}
use Rattle.check_types.specs.Fields.{at_fields}
use Rattle.check_types.specs.declared.types.TypeRef.{TypeRef}
use Rattle.check_types.specs.declared.table.Added.{Added}
use Rattle.check_types.specs.declared.fields.FieldEntry.{FieldEntry}
use Rattle.check_types.specs.declared.table.Layout.{Layout}
use Rattle.check_types.specs.declared.table.TypeTable.{TypeTable}
use Rattle.table_builder.specs.declared.numbers.TypeNumbers.{TypeNumbers}
use Rattle.table_builder.specs.declared.elements.Elements.{Elements}
use Rattle.table_builder.specs.Entries.{IsNumbered, IsElement, is_whole, HasWholeElements, pointers_of}
use Rattle.table_builder.specs.Sound.{IsSound}
use Rattle.table_builder.specs.Index.{Notes, IsIndex, IndexesSignatures}
use Rattle.table_builder.specs.Elements.{AreCounted}
use Rattle.ob_types.specs.Table.{Table}

-- a field as the program has it
pub record IsField (entries : List TypeRef) (f : Field) (a : Added) : Type 0 where
  pub name : f.name ≡ a.name
  pub exported : f.exported ≡ a.exported
  pub type_number : slice_get entries f.type_number ≡ Some a.of
  pub whole : is_whole a.of ≡ true

abbrev pub AreFields : List TypeRef → List Field → List Added → Type 0
AreFields entries [] [] = Unit {0}
AreFields entries (f ∷ fs) (a ∷ as') = IsField entries f a × AreFields entries fs as'
AreFields entries fs as' = ⊥

-- a record type as the program has it
pub record IsRecordType (entries : List TypeRef) (x : RecordType) (l : Layout) : Type 0 where
  pub unit : x.«module» ≡ l.module_number
  pub base : x.base ≡ base_in l.line.items
  pub level : x.level ≡ length l.line.items - 1
  pub fields : AreFields entries x.fields l.added.items
  pub cells : x.cells ≡ l.cells
  pub extent : x.extent ≡ l.extent
  -- a cell takes eight bytes at most
  pub narrow : l.extent.bytes ≤ 8 * l.cells

-- what fields are of has a number
pub record IsClosed (entries : List TypeRef) (l : Layout) : Type 0 where
  pub field : (q : List ℕ) (f : FieldEntry) → at_fields l.fields q ≡ Some f → IsNumbered entries f.of

abbrev pub AreRecordTypes : List TypeRef → List RecordType → List Layout → Type 0
AreRecordTypes entries [] [] = Unit {0}
AreRecordTypes entries (x ∷ xs) (l ∷ ls) = IsRecordType entries x l × IsClosed entries l × AreRecordTypes entries xs ls
AreRecordTypes entries xs ls = ⊥

-- all that a builder keeps
pub record Contents : Type 0 where
  pub types : Table
  pub entries : List TypeRef
  pub bases : List (Option ℕ)
  pub layouts : List Layout
  pub notes : Notes
  pub elements : List Elements

abbrev pub notes_of : TypeNumbers → Notes
notes_of s = record {
  records = s.records.items;
  pointers = s.pointers.items;
  procedures = s.procedures.items;
  arrays = at_bytes s.arrays;
  signatures = at_bytes s.signatures;
}

abbrev pub contents_of : TypeTable → TypeNumbers → List Elements → Contents
contents_of t s xs = record { types = t.types; entries = t.entries.items; bases = t.bases.items; layouts = t.layouts.items; notes = notes_of s; elements = xs }

-- a type's number is that of its entry, each record, pointer and procedure type has one, and each number its elements
pub record IsConsistent (b : Contents) : Type 0 where
  pub sound : IsSound b.types b.entries b.bases
  pub index : IsIndex b.notes b.entries
  pub signatures : IndexesSignatures b.notes b.types.signatures
  pub layouts : AreRecordTypes b.entries b.types.records b.layouts
  pub records : length b.notes.records ≡ length b.layouts
  pub pointers : length b.notes.pointers ≡ length b.bases
  pub bases : length b.bases ≡ length (pointers_of b.entries)
  pub procedures : length b.notes.procedures ≡ length b.types.signatures
  pub elements : (n : ℕ) (of : TypeRef) → slice_get b.entries n ≡ Some of → HasWholeElements b.entries of
  pub counted : AreCounted b.entries b.elements

-- types that variables may have, each with a number
abbrev pub AreElements : List TypeRef → List Added → Type 0
AreElements entries [] = Unit {0}
AreElements entries (a ∷ as') = IsElement entries a.of × AreElements entries as'

-- a record type whose fields are known
pub record IsReady (entries : List TypeRef) (l : Layout) : Type 0 where
  pub closed : IsClosed entries l
  pub added : AreElements entries l.added.items
  pub line : length l.line.items ≤ 16
  pub cells : l.cells ≤ 1048576
  pub narrow : l.extent.bytes ≤ 8 * l.cells

-- a record type of which nothing is known
pub record IsBlank (l : Layout) : Type 0 where
  pub unit : l.module_number ≡ 0
  pub line : l.line.items ≡ []
  pub added : l.added.items ≡ []
  pub fields : (q : List ℕ) → at_fields l.fields q ≡ None
  pub cells : l.cells ≡ 0
  pub extent : l.extent ≡ no_extent

-- a map with this number at these parts, and otherwise what it was
abbrev pub IsNotedIn : (old new : BTreeMap (Vec ℕ Global) ℕ) → List ℕ → ℕ → Type 0
IsNotedIn old new parts n = (q : List ℕ) → at_bytes new q ≡ cond (bytes_eq parts q) (Some n) (at_bytes old q)
