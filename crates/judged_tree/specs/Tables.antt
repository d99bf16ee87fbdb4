-- What a table of types is to the judgement's knowledge of types, where they agree; what the checker keeps of its table.
use Rattle.std.specs.Prelude.{◌≡◌, ◌<◌, ℕ, List, [], ◌∷◌, length, Bool, true, false, ◌&&◌, ◌==◌, Option, Some, None, slice_get}
use Rattle.ob_types.specs.declared.types.TypeKind.{TypeKind}
use Rattle.ob_types.specs.declared.types.TypeKind.TheVariants as TheKind
use Rattle.ob_types.specs.declared.types.Formal.{Formal}
use Rattle.ob_types.specs.declared.types.Signature.{Signature}
use Rattle.ob_types.specs.Assignable.{same_length, both_or_neither}
use Rattle.ob_types.specs.Layout.{kind_of, record_of}
use Rattle.ob_types.specs.Table.{Table}
use Rattle.ob_judge.specs.Shapes.{Known, line_of, cells_of}
use Rattle.judged_tree.specs.TypeShapes.{shape_of, pointer_bases}

-- all types of these parameters are before this number
abbrev pub are_before : ℕ → List Formal → Type 0
are_before k [] = Unit {0}
are_before k (x ∷ xs) = (x.type_number < k) × are_before k xs

-- a procedure type's parts are
abbrev pub is_before : ℕ → Option Signature → Type 0
is_before k None = ⊥
is_before k (Some g) = are_before k g.formals × (g.result < k)

-- what an entry at this number is made of stands before it, but for what a pointer points to
abbrev pub HasPartsBefore : Table → ℕ → TypeKind → Type 0
HasPartsBefore t k (TheKind.Array n e) = e < k
HasPartsBefore t k (TheKind.Procedure g) = is_before k (slice_get t.signatures g)
HasPartsBefore t k kind = Unit {0}

-- each entry names earlier ones
pub record IsFromTheFront (t : Table) : Type 0 where
  pub parts : (k : ℕ) → k < length t.kinds → HasPartsBefore t k (kind_of t k)

-- parameters of the same kinds and types by number
abbrev pub same_parameters : List Formal → List Formal → Bool
same_parameters [] [] = true
same_parameters (x ∷ xs) (y ∷ ys) = both_or_neither x.variable y.variable && (x.type_number == y.type_number) && same_parameters xs ys
same_parameters _ _ = false

abbrev pub same_signatures : Option Signature → Option Signature → Bool
same_signatures (Some f) (Some g) = same_parameters f.formals g.formals && (f.result == g.result)
same_signatures _ _ = false

-- two entries say the same; each pointer type is one of its own
abbrev pub same_entry : Table → TypeKind → TypeKind → Bool
same_entry t TheKind.Int TheKind.Int = true
same_entry t TheKind.Bool TheKind.Bool = true
same_entry t TheKind.Char TheKind.Char = true
same_entry t TheKind.Byte TheKind.Byte = true
same_entry t TheKind.Set TheKind.Set = true
same_entry t TheKind.Nil TheKind.Nil = true
same_entry t TheKind.Nothing TheKind.Nothing = true
same_entry t (TheKind.Text n) (TheKind.Text m) = n == m
same_entry t (TheKind.Array n a) (TheKind.Array m b) = same_length n m && (a == b)
same_entry t (TheKind.Record r) (TheKind.Record s) = r == s
same_entry t (TheKind.Procedure f) (TheKind.Procedure g) = same_signatures (slice_get t.signatures f) (slice_get t.signatures g)
same_entry t _ _ = false

-- no two entries say the same
pub record HasEachOnce (t : Table) : Type 0 where
  pub once : (a b : ℕ) → a < length t.kinds → b < length t.kinds → same_entry t (kind_of t a) (kind_of t b) ≡ true → a ≡ b

-- types with different numbers have different shapes
pub record HasOneShapeEach (t : Table) : Type 0 where
  pub one : (a b : ℕ) → a < length t.kinds → b < length t.kinds → shape_of t a ≡ shape_of t b → a ≡ b

-- the line of the base, where there is one
abbrev pub base_line : Known → Option ℕ → List ℕ
base_line known None = []
base_line known (Some b) = line_of (slice_get known.records b)

-- the judgement knows the types of the table
pub record Knows (known : Known) (t : Table) : Type 0 where
  pub bases : known.bases ≡ pointer_bases t.kinds
  pub line : (r : ℕ) → r < length t.records → line_of (slice_get known.records r) ≡ r ∷ base_line known (record_of t r).base
  pub cells : (r : ℕ) → r < length t.records → cells_of (slice_get known.records r) ≡ (record_of t r).cells
  -- every record type that is named is in the table
  pub base_there : (r b : ℕ) → r < length t.records → (record_of t r).base ≡ Some b → b < length t.records
  pub record_there : (k r : ℕ) → kind_of t k ≡ TheKind.Record r → r < length t.records
  pub target_there : (k r : ℕ) → kind_of t k ≡ TheKind.Pointer r → r < length t.records
