-- What the maker of a table of types promises of it. Of types that variables, fields and parameters have, the judgement
-- tells that they are legal; this is for all that stands in the table.
use Rattle.std.specs.Prelude.{◌≡◌, ◌<◌, ◌≤◌, ◌*◌, ℕ, length, true, false, Some, None, slice_get}
use Rattle.ob_types.specs.declared.types.TypeKind.TheVariants as TheKind
use Rattle.ob_types.specs.Trees.{in_a_row}
use Rattle.ob_types.specs.declared.types.Extent.{Extent}
use Rattle.ob_types.specs.declared.types.Formal.{Formal}
use Rattle.ob_types.specs.declared.types.Signature.{Signature}
use Rattle.ob_types.specs.Layout.{kind_of, record_of}
use Rattle.ob_types.specs.LegalTypes.{most_cells, is_length}
use Rattle.ob_types.specs.WellFormed.{argument_words}
use Rattle.ob_types.specs.Table.{Table}
use Rattle.ob_judge.specs.Shapes.{Shape, Boolean, Char, Byte, Array, Record}
use Rattle.ob_judge.specs.Parameters.{mode_of}
use Rattle.judged_tree.specs.TypeShapes.{shape_of}
use Rattle.judged_tree.specs.Tables.{IsFromTheFront, HasEachOnce, same_signatures}
use Rattle.judged_well.specs.Standing.{is_whole, is_formal, is_result}

-- the cells of a shape, where record types have these
abbrev pub cells_with : (ℕ → ℕ) → Shape → ℕ
cells_with of (Array n a) = n * cells_with of a
cells_with of (Record r) = of r
cells_with of a = 1

-- what a value of a shape takes in memory, where record types take this
abbrev pub extent_with : (ℕ → Extent) → Shape → Extent
extent_with of (Array n a) = in_a_row n (extent_with of a)
extent_with of (Record r) = of r
extent_with of Char = record { bytes = 1; wide = false }
extent_with of Byte = record { bytes = 1; wide = false }
extent_with of Boolean = record { bytes = 1; wide = false }
extent_with of a = record { bytes = 8; wide = true }

module _ (t : Table) where
  -- the cells of a record type, as the table says
  abbrev pub record_count : ℕ → ℕ
  record_count r = (record_of t r).cells

  -- and the bytes
  abbrev pub said_extent : ℕ → Extent
  said_extent r = (record_of t r).extent

  -- an array of known length: as long as is allowed, of elements of a type that variables may have, and of no more cells
  -- than a type may have
  pub record IsLegalArray (k n e : ℕ) : Type 0 where
    pub length_allowed : is_length (Some n) ≡ true
    pub element : is_whole (shape_of t e) ≡ true
    pub few : cells_with record_count (shape_of t k) ≤ most_cells

  -- a parameter of a type that parameters may have, handed over as its type is
  pub record IsLegalFormal (x : Formal) : Type 0 where
    pub mode : x.mode ≡ mode_of x.variable (shape_of t x.type_number)
    pub formal : is_formal (shape_of t x.type_number) ≡ true

  -- a procedure type: its parameters, in no more argument words than are passed, and its result
  pub record IsLegalSignature (x : Signature) : Type 0 where
    pub formals : (i : ℕ) (y : Formal) → slice_get x.formals i ≡ Some y → IsLegalFormal y
    pub words : argument_words x.formals ≤ 24
    pub result_there : x.result < length t.kinds
    pub result : is_result (shape_of t x.result) ≡ true

  pub record IsLegalTable : Type 0 where
    -- each entry names earlier ones, and no two say the same
    pub front : IsFromTheFront t
    pub once : HasEachOnce t
    -- the first type is one that results may have: it counts as the result where there is no procedure
    pub first_there : 0 < length t.kinds
    pub first : is_result (shape_of t 0) ≡ true
    pub array : (k n e : ℕ) → kind_of t k ≡ TheKind.Array (Some n) e → IsLegalArray k n e
    pub open_array : (k e : ℕ) → kind_of t k ≡ TheKind.Array None e → is_whole (shape_of t e) ≡ true
    pub record_there : (k r : ℕ) → kind_of t k ≡ TheKind.Record r → r < length t.records
    pub signature : (g : ℕ) (x : Signature) → slice_get t.signatures g ≡ Some x → IsLegalSignature x
    -- each procedure type has one signature
    pub one_signature : (f g : ℕ) (x y : Signature) → slice_get t.signatures f ≡ Some x → slice_get t.signatures g ≡ Some y
        → same_signatures (Some x) (Some y) ≡ true → f ≡ g
