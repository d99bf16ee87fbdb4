-- What types are (Oberon-07 report, sections 6 and 9.1). Array and procedure types are the same where they are built
-- the same; record and pointer types are numbered over all modules by the place of their word.
use Rattle.std.specs.Prelude.{ℕ, ◌*◌, List, [], ◌∷◌, Bool, true, false, ◌&&◌, ◌||◌, nat_eq, nat_lt, Option, Some, None, slice_get}
use Rattle.ob_types.specs.Trees.{no_extent, in_a_row}
use Rattle.ob_types.specs.declared.types.Extent.{Extent}

mutual
  pub data Shape : Type 0 where
    Integer Boolean Char Byte Set Nil Nothing : Shape
    -- a string of so many characters
    Text : (characters : ℕ) → Shape
    Array : (length : ℕ) → (element : Shape) → Shape
    Open : (element : Shape) → Shape
    Record Pointer : (number : ℕ) → Shape
    Procedure : (parameters : Formals) → (result : Shape) → Shape

  -- the kinds and types of parameters
  pub data Formals : Type 0 where
    none : Formals
    one : (is_var : Bool) → (shape : Shape) → (more : Formals) → Formals

abbrev pub bool_eq : Bool → Bool → Bool
bool_eq true b = b
bool_eq false true = false
bool_eq false false = true

abbrev mutual
  pub same : Shape → Shape → Bool
  same Integer Integer = true
  same Boolean Boolean = true
  same Char Char = true
  same Byte Byte = true
  same Set Set = true
  same Nil Nil = true
  same Nothing Nothing = true
  same (Text n) (Text m) = nat_eq n m
  same (Array n a) (Array m b) = nat_eq n m && same a b
  same (Open a) (Open b) = same a b
  same (Record n) (Record m) = nat_eq n m
  same (Pointer n) (Pointer m) = nat_eq n m
  same (Procedure ps a) (Procedure qs b) = same_formals ps qs && same a b
  same a b = false

  pub same_formals : Formals → Formals → Bool
  same_formals none none = true
  same_formals (one v a ps) (one u b qs) = bool_eq v u && same a b && same_formals ps qs
  same_formals ps qs = false

-- a field: the record type that adds it and its place among those that this one adds, its type, and whether it is
-- exported, and by which module
pub record Field : Type 0 where
  pub adder : ℕ
  pub number : ℕ
  pub shape : Shape
  pub exported : Bool
  pub owner : ℕ

-- the same, as the program has it
pub record Added : Type 0 where
  pub name : List ℕ
  pub exported : Bool
  pub shape : Shape

-- a record type: the module that declares it, itself and its bases by their numbers, the fields that it adds, what a
-- name stands for among its fields and those of its bases, the cells of all, and the bytes where small scalars take one
pub record Layout : Type 0 where
  pub module_number : ℕ
  pub line : List ℕ
  pub added : List Added
  pub fields : List ℕ → Option Field
  pub cells : ℕ
  pub extent : Extent

-- the record types by number, and of each pointer type the record type that it points to
pub record Known : Type 0 where
  pub records : List Layout
  pub bases : List (Option ℕ)

abbrev pub contains : ℕ → List ℕ → Bool
contains n [] = false
contains n (m ∷ ms) = nat_eq n m || contains n ms

abbrev pub line_of : Option Layout → List ℕ
line_of None = []
line_of (Some r) = r.line

abbrev pub base_of : Option (Option ℕ) → Option ℕ
base_of (Some (Some n)) = Some n
base_of b = None

-- record a is b or an extension of it
abbrev pub record_extends : Known → ℕ → ℕ → Bool
record_extends known a b = contains b (line_of (slice_get known.records a))

abbrev pub based_on : Known → Option ℕ → Option ℕ → Bool
based_on known (Some a) (Some b) = record_extends known a b
based_on known a b = false

-- the record type that a pointer type points to
abbrev pub target_of : Known → Shape → Option ℕ
target_of known (Pointer n) = base_of (slice_get known.bases n)
target_of known a = None

-- a is b or an extension of it: records, or pointers to them
abbrev pub extends : Known → Shape → Shape → Bool
extends known (Record a) (Record b) = record_extends known a b
extends known (Pointer a) (Pointer b) = based_on known (target_of known (Pointer a)) (target_of known (Pointer b))
extends known a b = false

abbrev pub cells_of : Option Layout → ℕ
cells_of None = 0
cells_of (Some r) = r.cells

-- the sum of its parts' cells
abbrev pub cells : Known → Shape → ℕ
cells known (Array n a) = n * cells known a
cells known (Record n) = cells_of (slice_get known.records n)
cells known a = 1

abbrev pub extent_in : Option Layout → Extent
extent_in None = no_extent
extent_in (Some r) = r.extent

-- what a value takes in memory: a CHAR, a BYTE and a BOOLEAN one byte, every other scalar eight
abbrev pub extent : Known → Shape → Extent
extent known (Array n a) = in_a_row n (extent known a)
extent known (Record n) = extent_in (slice_get known.records n)
extent known Char = record { bytes = 1; wide = false }
extent known Byte = record { bytes = 1; wide = false }
extent known Boolean = record { bytes = 1; wide = false }
extent known a = record { bytes = 8; wide = true }

abbrev pub is_number : Shape → Bool
is_number Integer = true
is_number Byte = true
is_number a = false

abbrev pub is_truth : Shape → Bool
is_truth Boolean = true
is_truth a = false

abbrev pub is_set : Shape → Bool
is_set Set = true
is_set a = false

abbrev pub is_pointer : Shape → Bool
is_pointer (Pointer n) = true
is_pointer a = false

abbrev pub is_reference : Shape → Bool
is_reference (Pointer n) = true
is_reference (Procedure ps r) = true
is_reference a = false

abbrev pub is_scalar : Shape → Bool
is_scalar (Array n a) = false
is_scalar (Open a) = false
is_scalar (Record n) = false
is_scalar a = true

-- the length of an array type that has one
abbrev pub length_in : Shape → Option ℕ
length_in (Array n a) = Some n
length_in a = None

abbrev pub element_of : Shape → Option Shape
element_of (Array n a) = Some a
element_of (Open a) = Some a
element_of a = None

-- may be assigned, by the types alone
abbrev pub assignable : Known → (to from : Shape) → Bool
assignable known Char (Text n) = nat_eq n 1
assignable known (Array n Char) (Text m) = nat_lt m n
assignable known (Open Char) (Text m) = true
assignable known (Pointer n) Nil = true
assignable known (Procedure ps r) Nil = true
assignable known (Array n a) (Open b) = same a b
assignable known (Open a) (Array n b) = same a b
assignable known to from = same to from || extends known from to || is_number to && is_number from
