-- What an image's values are for, and what its designators name: as ob_types says it of checked trees, but of types by
-- their shapes.
use Rattle.std.specs.Prelude.{ℕ, zero, suc, ◌^◌, Bool, true, false, ◌&&◌, ◌||◌, nat_lt, Option, Some, None}
use Rattle.ob_types.specs.declared.tree.Relation.{Relation}
use Rattle.ob_types.specs.declared.tree.Unary.{Unary}
use Rattle.ob_types.specs.declared.tree.Unary.TheVariants as TheUnary
use Rattle.ob_types.specs.declared.tree.Binary.{Binary}
use Rattle.ob_types.specs.declared.tree.Binary.TheVariants as TheBinary
use Rattle.ob_types.specs.WellFormed.{holds_of, is_equality}
use Rattle.ob_judge.specs.Shapes.{Shape, Formals}

-- what a value is: 0, which is NIL too; 0 or 1; a number below 256; one below 2 ^ 64; a pointer to this record or an
-- extension of it; a procedure of this type; this procedure
pub data Form : Type 0 where
  Zero Truth Small Number : Form
  ToRecord : (r : ℕ) → Form
  Routines : (parameters : Formals) → (result : Shape) → Form
  Exactly : (f : ℕ) → Form

-- what a designator names: In.Done; a variable of a type, whether it may be written; an open array of elements of a
-- type; a record by its dynamic type, which is this record or an extension; so many characters of a string
pub data Named : Type 0 where
  InDone : Named
  Of : (shape : Shape) → (writable : Bool) → Named
  OpenOf : (element : Shape) → (writable : Bool) → Named
  Dynamic : (r : ℕ) → Named
  Characters : (n : ℕ) → Named

-- what an array's elements are: of a type, or the characters of a string
pub data Elementary : Type 0 where
  OfType : (shape : Shape) → Elementary
  Letter : Elementary

abbrev pub is_number : Form → Bool
is_number Zero = true
is_number Truth = true
is_number Small = true
is_number Number = true
is_number _ = false

abbrev pub is_small : Form → Bool
is_small Zero = true
is_small Truth = true
is_small Small = true
is_small _ = false

abbrev pub is_truth : Form → Bool
is_truth Zero = true
is_truth Truth = true
is_truth _ = false

abbrev pub is_pointer : Form → Bool
is_pointer Zero = true
is_pointer (ToRecord r) = true
is_pointer _ = false

abbrev pub is_code : Form → Bool
is_code Zero = true
is_code (Routines ps s) = true
is_code (Exactly f) = true
is_code _ = false

abbrev pub is_zero : Form → Bool
is_zero Zero = true
is_zero _ = false

abbrev pub is_full : Form → Bool
is_full Number = true
is_full _ = false

abbrev pub gives_number : Option Form → Bool
gives_number = holds_of is_number

abbrev pub gives_truth : Option Form → Bool
gives_truth = holds_of is_truth

abbrev pub gives_pointer : Option Form → Bool
gives_pointer = holds_of is_pointer

abbrev pub comparable : Relation → Form → Form → Bool
comparable r a b = is_number a && is_number b || is_equality r && (is_pointer a && is_pointer b || is_code a && is_code b)

abbrev pub literal_by : Bool → Bool → Option Form
literal_by true _ = Some Small
literal_by false true = Some Number
literal_by false false = None

abbrev pub literal : ℕ → Option Form
literal zero = Some Zero
literal (suc zero) = Some Truth
literal (suc (suc n)) = literal_by (nat_lt (suc (suc n)) 256) (nat_lt (suc (suc n)) (2 ^ 64))

abbrev pub unary_form : Unary → Form
unary_form TheUnary.Not = Truth
unary_form TheUnary.Odd = Truth
unary_form _ = Number

abbrev pub binary_form : Binary → Form
binary_form TheBinary.Subset = Truth
binary_form TheBinary.Superset = Truth
binary_form _ = Number

-- what INC may change: a BYTE with its test
abbrev pub changes : Bool → Form → Bool
changes is_byte Small = is_byte
changes is_byte Number = true
changes is_byte _ = false

abbrev pub is_writable : Named → Bool
is_writable InDone = false
is_writable (Of s w) = w
is_writable (OpenOf s w) = w
is_writable (Dynamic r) = true
is_writable (Characters n) = false

abbrev pub is_dynamic : Named → Bool
is_dynamic (Dynamic r) = true
is_dynamic _ = false

-- what a pointer of this form points to
abbrev pub pointed : Form → Option Named
pointed (ToRecord r) = Some (Dynamic r)
pointed _ = None
