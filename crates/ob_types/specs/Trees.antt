-- The tree of a type: its elements and fields down to scalars, with what it takes in cells and in bytes.
use Rattle.std.specs.Prelude.{ℕ, zero, suc, ◌+◌, ◌*◌, ◌/◌, List, [], ◌∷◌, ◌++◌, length, take, slice_index, Bool, true, false, ◌&&◌, ◌||◌, ◌==◌, not, Option, Some, None}
use Rattle.ob_types.specs.Assignable.{both_or_neither}
use Rattle.ob_types.specs.Layout.{kind_of, record_of, types_of}
use Rattle.ob_types.specs.Table.{Table}
use Rattle.ob_types.specs.declared.types.Extent.{Extent}
use Rattle.ob_types.specs.declared.types.TypeKind.{TypeKind}
use Rattle.ob_types.specs.declared.types.TypeKind.TheVariants.{Array as ArrayOf, Record as RecordOf}
use Rattle.ob_types.specs.Forms.{Form, Truth, Small, scalar_form, form_or_zero, repeated}

-- a scalar with what its cell is for, so many elements, or a record's fields in order
mutual
  pub data DataTree : Type 0 where
    Scalar : Form → DataTree
    Array : (n : ℕ) → DataTree → DataTree
    Record : FieldRow → DataTree

  -- one field more, or what a record that is extended has
  pub data FieldRow : Type 0 where
    Empty : FieldRow
    Field : FieldRow → DataTree → FieldRow
    Extend : FieldRow → FieldRow

-- a cell for each scalar
abbrev mutual
  pub tree_cells : DataTree → ℕ
  tree_cells (Scalar f) = 1
  tree_cells (Array n t) = n * tree_cells t
  tree_cells (Record r) = row_cells r

  pub row_cells : FieldRow → ℕ
  row_cells Empty = 0
  row_cells (Field r t) = row_cells r + tree_cells t
  row_cells (Extend r) = row_cells r

-- what the cells are for, in order
abbrev mutual
  pub tree_forms : DataTree → List Form
  tree_forms (Scalar f) = f ∷ []
  tree_forms (Array n t) = repeated n (tree_forms t)
  tree_forms (Record r) = row_forms r

  pub row_forms : FieldRow → List Form
  row_forms Empty = []
  row_forms (Field r t) = row_forms r ++ tree_forms t
  row_forms (Extend r) = row_forms r

-- a CHAR, a BYTE, a BOOLEAN
abbrev pub fits_byte : Form → Bool
fits_byte Truth = true
fits_byte Small = true
fits_byte _ = false

abbrev pub scalar_bytes : Bool → ℕ
scalar_bytes true = 1
scalar_bytes false = 8

-- the first multiple of 8, or of 1, that isn't below n
abbrev pub round_up : Bool → ℕ → ℕ
round_up true n = (n + 7) / 8 * 8
round_up false n = n

-- in bytes, packed or not: eight for every scalar, or one for those that fit a byte
module _ (packed : Bool) where
  -- whether it has a scalar of eight bytes, and so begins at a multiple of 8
  abbrev mutual
    pub wide : DataTree → Bool
    wide (Scalar f) = not (packed && fits_byte f)
    wide (Array n t) = wide t
    wide (Record r) = row_wide r

    pub row_wide : FieldRow → Bool
    row_wide Empty = false
    row_wide (Field r t) = row_wide r || wide t
    row_wide (Extend r) = row_wide r

  -- a record is rounded up, so that another one may stand right behind it
  abbrev mutual
    pub tree_bytes : DataTree → ℕ
    tree_bytes (Scalar f) = scalar_bytes (packed && fits_byte f)
    tree_bytes (Array n t) = n * tree_bytes t
    tree_bytes (Record r) = round_up (row_wide r) (row_end r)

    -- the end of its last field, or of the record that it extends
    pub row_end : FieldRow → ℕ
    row_end Empty = 0
    row_end (Field r t) = round_up (wide t) (row_end r) + tree_bytes t
    row_end (Extend r) = round_up (row_wide r) (row_end r)

-- what it takes where small scalars take a byte, and what a row takes up to the end of its last field
abbrev pub tree_extent : DataTree → Extent
tree_extent t = record { bytes = tree_bytes true t; wide = wide true t }

abbrev pub row_extent : FieldRow → Extent
row_extent r = record { bytes = row_end true r; wide = row_wide true r }

abbrev pub no_extent : Extent
no_extent = record { bytes = 0; wide = false }

-- so many, one behind the other
abbrev pub in_a_row : ℕ → Extent → Extent
in_a_row n x = record x { bytes = n * x.bytes }

-- a part behind others: it begins at a multiple of 8 where it has a part of eight bytes
abbrev pub with_part : Extent → Extent → Extent
with_part x y = record { bytes = round_up y.wide x.bytes + y.bytes; wide = x.wide || y.wide }

-- a record whose fields take that
abbrev pub rounded_extent : Extent → Extent
rounded_extent x = record { bytes = round_up x.wide x.bytes; wide = x.wide }

abbrev pub same_extent : Extent → Extent → Bool
same_extent x y = x.bytes == y.bytes && both_or_neither x.wide y.wide

-- of what the beginning is a multiple
abbrev pub alignment : Bool → ℕ
alignment true = 8
alignment false = 1

---- The trees of a table's types.

abbrev pub base_row : Option ℕ → (ℕ → FieldRow) → FieldRow
base_row None rows = Empty
base_row (Some b) rows = Extend (rows b)

abbrev pub with_fields : (ℕ → DataTree) → FieldRow → List ℕ → FieldRow
with_fields trees row [] = row
with_fields trees row (k ∷ ks) = with_fields trees (Field row (trees k)) ks

abbrev pub tree_by : (ℕ → DataTree) → (ℕ → FieldRow) → TypeKind → DataTree
tree_by trees rows (ArrayOf (Some n) k) = Array n (trees k)
tree_by trees rows (RecordOf r) = Record (rows r)
tree_by trees rows kind = Scalar (form_or_zero (scalar_form kind))

module _ (t : Table) where
  -- of a type and of a record type that have parts nested at most so deep
  abbrev mutual
    pub tree_within : ℕ → ℕ → DataTree
    tree_within zero k = Record Empty
    tree_within (suc depth) k = tree_by (tree_within depth) (row_within depth) (kind_of t k)

    pub row_within : ℕ → ℕ → FieldRow
    row_within zero r = Empty
    row_within (suc depth) r = with_fields (tree_within depth) (base_row (record_of t r).base (row_within depth)) (types_of (record_of t r).fields)

  -- no type is nested deeper than there are types
  unfoldable pub data_tree : ℕ → DataTree
  data_tree k = tree_within (suc (length t.kinds + length t.records)) k

  unfoldable pub record_row : ℕ → FieldRow
  record_row r = row_within (suc (length t.kinds + length t.records)) r

  abbrev pub record_extent : ℕ → Extent
  record_extent r = tree_extent (Record (record_row r))

  -- the bytes of a variable of a type, and of what its beginning is a multiple, where small scalars take a byte
  abbrev pub bytes : ℕ → ℕ
  bytes k = tree_bytes true (data_tree k)

  abbrev pub align : ℕ → ℕ
  align k = alignment (wide true (data_tree k))

  -- a record up to one of its own fields, and the byte at which that field stands: behind the base and the fields before it
  unfoldable pub fields_before : ℕ → ℕ → FieldRow
  fields_before r field = with_fields data_tree (base_row (record_of t r).base record_row) (take field (types_of (record_of t r).fields))

  abbrev pub field_offset : ℕ → ℕ → ℕ
  field_offset r field = round_up (wide true (data_tree (slice_index (types_of (record_of t r).fields) field))) (row_end true (fields_before r field))
