-- What stays when a table of types grows.
use Rattle.std.specs.Prelude.{◌≡◌, ℕ, List, [], ◌∷◌, ◌++◌, Some, None, slice_get, slice_set}
use Rattle.ob_types.specs.declared.types.Formal.{Formal}
use Rattle.ob_types.specs.declared.types.RecordType.{RecordType}
use Rattle.ob_types.specs.declared.types.Signature.{Signature}
use Rattle.ob_types.specs.declared.types.TypeKind.{TypeKind}
use Rattle.ob_types.specs.declared.types.TypeKind.TheVariants as TheKind
use Rattle.ob_types.specs.Table.{Table}
use Rattle.ob_judge.specs.Shapes.{Shape, Procedure, Layout, Known}
use Rattle.ob_judge.specs.Making.{no_layout}
use Rattle.judged_tree.specs.TypeShapes.{shape_of, shapes_of, formals_shape}
use Rattle.check_types.specs.declared.types.TypeRef.{TypeRef}
use Rattle.check_types.specs.declared.table.TypeTable.{TypeTable}
use Rattle.check_types.specs.TypeMeaning.{type_shape}
use Rattle.table_builder.specs.Entries.{IsNumbered}

-- each number stays that of its type, and each type means what it meant
pub record Grows (old new : TypeTable) : Type 0 where
  pub entry : (n : ℕ) (e : TypeRef) → slice_get old.entries.items n ≡ Some e → slice_get new.entries.items n ≡ Some e
  pub shape : (e : TypeRef) → IsNumbered old.entries.items e → type_shape new.types e ≡ type_shape old.types e

-- the list is as it was, or with this behind it
pub data AddsOnly {A : Type 0} (x : A) (old new : List A) : Type 0 where
  as_before : new ≡ old → AddsOnly x old new
  behind : new ≡ old ++ x ∷ [] → AddsOnly x old new

-- what is known of types, with one more record type or pointer type, or with one of them known
abbrev pub with_blank_record : Known → Known
with_blank_record k = record k { records = k.records ++ no_layout ∷ [] }

abbrev pub with_blank_pointer : Known → Known
with_blank_pointer k = record k { bases = k.bases ++ None ∷ [] }

abbrev pub with_layout : ℕ → Layout → Known → Known
with_layout r l k = record k { records = slice_set k.records r l }

abbrev pub with_base : ℕ → ℕ → Known → Known
with_base pointer r k = record k { bases = slice_set k.bases pointer (Some r) }

-- the procedure type of these parameters and this result
abbrev pub procedure_shape : Table → List Formal → ℕ → Shape
procedure_shape t formals result_type = Procedure (formals_shape (shapes_of t) formals) (shape_of t result_type)

-- a table with one more type: of this kind, the r-th record type, the g-th procedure type
abbrev pub with_kind : Table → TypeKind → Table
with_kind t k = record t { kinds = t.kinds ++ k ∷ [] }

abbrev pub with_record_type : Table → ℕ → RecordType → Table
with_record_type t r x = record t { kinds = t.kinds ++ TheKind.Record r ∷ []; records = t.records ++ x ∷ [] }

abbrev pub with_procedure_type : Table → ℕ → Signature → Table
with_procedure_type t g x = record t { kinds = t.kinds ++ TheKind.Procedure g ∷ []; signatures = t.signatures ++ x ∷ [] }
