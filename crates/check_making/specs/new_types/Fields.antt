-- One more field.
use Rattle.std.specs.Prelude.{◌≡◌, ◌+◌, ◌∷◌, ◌++◌, [], ◌^◌, ◌-◌, ℕ, List, Some, cond, min}
use Rattle.std.specs.Str.{bytes_eq}
use Rattle.ob_types.specs.Trees.{with_part}
use Rattle.ob_types.specs.declared.types.Extent.{Extent}
use Rattle.ob_syntax.specs.declared.names.Identdef.{Identdef}
use Rattle.ob_syntax.specs.declared.names.Idents.{Idents}
use Rattle.ob_syntax.specs.Plain.{plain_idents}
use Rattle.ob_judge.specs.Parameters.{idents_list}
use Rattle.ob_judge.specs.Scopes.{Source, spelled}
use Rattle.check_types.specs.Fields.{at_fields}
use Rattle.check_types.specs.declared.fields.FieldEntry.{FieldEntry}
use Rattle.check_types.specs.declared.table.Layout.{Layout}
use Rattle.table_builder.specs.Cells.{most_cells, counted_extent}

-- the layout with one more field, of this name and of a type that has so many cells and takes so much
pub record IsWith (p : Source) (old : Layout) (ident : Identdef) (entry : FieldEntry) (count : ℕ) (takes : Extent) (new : Layout) : Type 0 where
  pub module_number : new.module_number ≡ old.module_number
  pub line : new.line ≡ old.line
  pub added : new.added.items ≡ old.added.items ++ record { name = spelled p ident.name; exported = entry.exported; of = entry.of } ∷ []
  pub fields : (q : List ℕ) → at_fields new.fields q ≡ cond (bytes_eq (spelled p ident.name) q) (Some entry) (at_fields old.fields q)
  pub cells : new.cells ≡ min most_cells (min (old.cells + count) (2 ^ 64 - 1))
  pub extent : new.extent ≡ counted_extent (with_part old.extent takes)

-- the names of a list
abbrev pub names_in : Idents → List Identdef
names_in idents = idents_list (plain_idents idents)
