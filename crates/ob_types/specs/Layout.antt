-- Cells and places of types, and which record type extends which (Oberon-07 report, section 6).
use Rattle.std.specs.Prelude.{ℕ, zero, suc, ◌+◌, ◌*◌, List, [], map, length, take, sum, Bool, false, ◌||◌, ◌==◌, Option, Some, None, slice_index_or}
use Rattle.ob_types.specs.declared.types.TypeKind.{TypeKind}
use Rattle.ob_types.specs.declared.types.TypeKind.TheVariants.{Array, Record, Nothing}
use Rattle.ob_types.specs.declared.types.RecordType.{RecordType}
use Rattle.ob_types.specs.declared.types.Field.{Field}
use Rattle.ob_types.specs.declared.types.Signature.{Signature}
use Rattle.ob_types.specs.Table.{Table}

-- what holds of the base, where there is one
abbrev pub or_base : Option ℕ → (ℕ → Bool) → Bool
or_base None test = false
or_base (Some b) test = test b

-- the cells of the base, where there is one
abbrev pub base_cells : Option ℕ → (ℕ → ℕ) → ℕ
base_cells None cells = 0
base_cells (Some b) cells = cells b

-- an array of known length has as many times its element's cells, a record type what its parts have, every other type one
abbrev pub cells_by : (ℕ → ℕ) → (ℕ → ℕ) → TypeKind → ℕ
cells_by cells whole (Array (Some n) element) = n * cells element
cells_by cells whole (Record r) = whole r
cells_by cells whole _ = 1

-- the types of some fields
abbrev pub types_of : List Field → List ℕ
types_of fields = map (λ f. f.type_number) fields

-- what stands for a record type that isn't there
abbrev pub no_record_type : RecordType
no_record_type = record { «module» = 0; base = None; level = 0; fields = []; cells = 0; extent = record { bytes = 0; wide = false } }

module _ (t : Table) where
  abbrev pub kind_of : ℕ → TypeKind
  kind_of k = slice_index_or t.kinds k Nothing

  abbrev pub record_of : ℕ → RecordType
  record_of r = slice_index_or t.records r no_record_type

  abbrev pub signature_of : ℕ → Signature
  signature_of g = slice_index_or t.signatures g (record { formals = []; result = 0 })

  -- the cells of a type and of a record type that have parts nested at most so deep
  abbrev mutual
    pub cells_within : ℕ → ℕ → ℕ
    cells_within zero k = 0
    cells_within (suc depth) k = cells_by (cells_within depth) (record_within depth) (kind_of k)

    pub record_within : ℕ → ℕ → ℕ
    record_within zero r = 0
    record_within (suc depth) r = base_cells (record_of r).base (record_within depth) + sum (map (cells_within depth) (types_of (record_of r).fields))

  -- the cells of a type: no type is nested deeper than there are types
  abbrev pub cells : ℕ → ℕ
  cells k = cells_within (suc (length t.kinds + length t.records)) k

  -- the cells of all these: where what follows them stands
  abbrev pub cells_of_all : List ℕ → ℕ
  cells_of_all ks = sum (map cells ks)

  abbrev pub record_cells : ℕ → ℕ
  record_cells r = record_within (suc (length t.kinds + length t.records)) r

  -- where a field stands: behind the base's cells and those of the fields before it
  abbrev pub field_place : ℕ → ℕ → ℕ
  field_place r field = base_cells (record_of r).base record_cells + cells_of_all (take field (types_of (record_of r).fields))

  -- the same by at most so many bases
  abbrev pub extends_within : ℕ → ℕ → ℕ → Bool
  extends_within zero r b = r == b
  extends_within (suc depth) r b = r == b || or_base (record_of r).base (λ a. extends_within depth a b)

  -- record type r is b or an extension of it
  abbrev pub extends : ℕ → ℕ → Bool
  extends r b = extends_within (length t.records) r b
