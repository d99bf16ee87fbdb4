-- What a shape says of the types that have it.
use Rattle.std.proofs.Common.{◌≡◌, ℕ, suc, ◌*◌, Bool, true, false, not, Option, Some, None, refl}
use Rattle.ob_types.specs.declared.types.Extent.{Extent}
use Rattle.ob_types.specs.declared.types.TypeKind.{TypeKind}
use Rattle.ob_types.specs.declared.types.TypeKind.TheVariants as TheKind
use Rattle.ob_types.specs.Meaning.{length_of_kind, record_of_kind, is_byte}
use Rattle.ob_types.specs.Table.{Table}
use Rattle.ob_types.specs.Trees.{scalar_bytes, in_a_row}
use Rattle.ssa_lowered.specs.Data.{takes_a_byte}
use Rattle.ob_judge.specs.Shapes.{Shape, Boolean, Char, Byte, Nothing, Array, Open, Record, Pointer, Text}
use Rattle.judged_tree.specs.TypeShapes.{shape_of_kind}

-- the cells of a type with this shape, where record types have these
abbrev pub shape_cells : (ℕ → ℕ) → Shape → ℕ
shape_cells of (Array n s) = n * shape_cells of s
shape_cells of (Record r) = of r
shape_cells of s = 1

-- a CHAR, a BYTE, a BOOLEAN
abbrev pub small_shape : Shape → Bool
small_shape Boolean = true
small_shape Char = true
small_shape Byte = true
small_shape s = false

-- what a type with this shape takes in memory, where record types take that
abbrev pub shape_extent : (ℕ → Extent) → Shape → Extent
shape_extent of (Array n s) = in_a_row n (shape_extent of s)
shape_extent of (Record r) = of r
shape_extent of s = record { bytes = scalar_bytes (small_shape s); wide = not (small_shape s) }

-- an array or a record
abbrev pub structured_shape : Shape → Bool
structured_shape (Array n s) = true
structured_shape (Open s) = true
structured_shape (Record r) = true
structured_shape s = false

-- the length of an array or a string
abbrev pub shape_length : Shape → Option ℕ
shape_length (Array n s) = Some n
shape_length (Text n) = Some (suc n)
shape_length s = None

-- the record type of a record, or of a pointer's objects
abbrev pub shape_record : Shape → ℕ
shape_record (Record r) = r
shape_record (Pointer r) = r
shape_record s = 0

-- what the elements of an array or a string are
abbrev pub shape_element : Shape → Shape
shape_element (Array n s) = s
shape_element (Open s) = s
shape_element (Text n) = Char
shape_element s = Nothing

abbrev pub byte_shape : Shape → Bool
byte_shape Byte = true
byte_shape s = false

module _ (t : Table) where
  pub same_length : (kind : TypeKind) → length_of_kind kind ≡ shape_length (shape_of_kind t kind)
  same_length (TheKind.Array (Some n) e) = refl
  same_length (TheKind.Array None e) = refl
  same_length _ = refl

  pub same_record : (kind : TypeKind) → record_of_kind kind ≡ shape_record (shape_of_kind t kind)
  same_record (TheKind.Array (Some n) e) = refl
  same_record (TheKind.Array None e) = refl
  same_record _ = refl

  pub same_byte : (kind : TypeKind) → is_byte kind ≡ byte_shape (shape_of_kind t kind)
  same_byte (TheKind.Array (Some n) e) = refl
  same_byte (TheKind.Array None e) = refl
  same_byte _ = refl

  pub same_small : (kind : TypeKind) → takes_a_byte kind ≡ small_shape (shape_of_kind t kind)
  same_small (TheKind.Array (Some n) e) = refl
  same_small (TheKind.Array None e) = refl
  same_small _ = refl
