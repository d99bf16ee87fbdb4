-- What the calls on a table of types ask of it: its counts are right, and each type has one number.
use Rattle.std.specs.Prelude.{◌≡◌, ◌<◌, ◌^◌, ℕ, length, true, Option, Some, slice_get}
use Rattle.ob_types.specs.Table.{Table}
use Rattle.ob_types.specs.Layout.{kind_of, record_of, types_of, cells, record_cells}
use Rattle.ob_types.specs.Trees.{record_extent, bytes}
use Rattle.ob_types.specs.Assignable.{same}
use Rattle.ob_types.specs.Forms.{types_fine}
use Rattle.ob_types.specs.declared.types.TypeKind.TheVariants.{Array}
use Rattle.ob_types.specs.declared.types.TypeKind.TheVariants.{Record as RecordOf}

-- no type is nested in itself, arrays come behind their elements, and record types have the cells that they say
pub record IsCounted (t : Table) : Type 0 where
  pub fine : types_fine t ≡ true
  pub element : (k : ℕ) (n : Option ℕ) (e : ℕ) → kind_of t k ≡ Array n e → e < k
  pub record_there : (k r : ℕ) → kind_of t k ≡ RecordOf r → r < length t.records
  pub records : (r : ℕ) → r < length t.records → (record_of t r).cells ≡ record_cells t r
  -- they are few enough to be counted
  pub few : (k : ℕ) → k < length t.kinds → cells t k < 2 ^ 64

-- record types take the bytes that they say, and no type takes more than can be counted
pub record IsLaidOut (t : Table) : Type 0 where
  pub records : (r : ℕ) → r < length t.records → (record_of t r).extent ≡ record_extent t r
  pub few : (k : ℕ) → k < length t.kinds → bytes t k < 2 ^ 64

-- types that are the same have one number
pub record HasOneNumberEach (t : Table) : Type 0 where
  pub one : (a b : ℕ) → same t a b ≡ true → a ≡ b

-- what types and record types are made of is in the table
pub record IsClosed (t : Table) : Type 0 where
  pub element : (k : ℕ) (n : Option ℕ) (e : ℕ) → kind_of t k ≡ Array n e → e < length t.kinds
  pub whole : (k r : ℕ) → kind_of t k ≡ RecordOf r → r < length t.records
  pub base : (r b : ℕ) → (record_of t r).base ≡ Some b → b < length t.records
  pub field : (r i k : ℕ) → slice_get (types_of (record_of t r).fields) i ≡ Some k → k < length t.kinds
