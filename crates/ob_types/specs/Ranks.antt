-- An order of a table's types in which each comes behind its parts, as a checker that completes one type after the other has it.
use Rattle.std.specs.Prelude.{◌≡◌, ◌<◌, ◌≤◌, ◌+◌, ℕ, length, Some, slice_get}
use Rattle.ob_types.specs.Layout.{kind_of, record_of, types_of}
use Rattle.ob_types.specs.declared.types.TypeKind.TheVariants.{Array}
use Rattle.ob_types.specs.declared.types.TypeKind.TheVariants.{Record as RecordOf}
use Rattle.ob_types.specs.Table.{Table}

-- such an order
pub record Ranks (t : Table) : Type 0 where
  pub of_kind : ℕ → ℕ
  pub of_record : ℕ → ℕ
  -- how many records a record extends
  pub level : ℕ → ℕ
  pub element : (k n e : ℕ) → kind_of t k ≡ Array (Some n) e → of_kind e < of_kind k
  pub whole : (k r : ℕ) → kind_of t k ≡ RecordOf r → of_record r < of_kind k
  pub base : (r b : ℕ) → (record_of t r).base ≡ Some b → (of_record b < of_record r) × (level b < level r)
  pub field : (r i k : ℕ) → slice_get (types_of (record_of t r).fields) i ≡ Some k → of_kind k < of_record r
  pub kinds : (k : ℕ) → k < length t.kinds → of_kind k ≤ length t.kinds + length t.records
  pub records : (r : ℕ) → r < length t.records → (of_record r ≤ length t.kinds + length t.records) × (level r ≤ length t.records)
