-- Parts of operands, guards, operators and literals judged: each when its own parts have been walked.
use Rattle.std.specs.Prelude.{ℕ, List, length, Bool, true, false, not, ◌&&◌, ◌||◌, if◌then◌else◌, nat_eq, Option, Some, None, slice_get}
use Rattle.wrapping_numbers.specs.Numbers.{unsigned}
use Rattle.ob_symbol.specs.declared.symbol.Kind.{Kind}
use Rattle.ob_symbol.specs.declared.symbol.Kind.TheVariants as TheKind
use Rattle.ob_syntax.specs.declared.expressions.Relation.{Relation}
use Rattle.ob_syntax.specs.declared.expressions.Relation.TheVariants as TheRelation
use Rattle.ob_syntax.specs.declared.expressions.Sign.{Sign}
use Rattle.ob_syntax.specs.declared.expressions.Sign.TheVariants as TheSign
use Rattle.ob_types.specs.declared.tree.Unary.TheVariants as TheUnary
use Rattle.ob_types.specs.declared.tree.Binary.TheVariants as TheBinary
use Rattle.ob_types.specs.declared.tree.Relation.{Relation as Comparison}
use Rattle.ob_types.specs.declared.tree.Relation.TheVariants as TheComparison
use Rattle.ob_judge.specs.Judged.{Judged, Keeps, Breaks, ◌>>=◌, ◌>>◌, rule, some}
use Rattle.ob_judge.specs.Shapes.{Shape, Integer, Boolean, Nothing, Text, Record, Pointer, Procedure, Field as FieldOf, Layout, extends, is_number, is_truth, is_set, is_pointer, target_of, element_of}
use Rattle.ob_judge.specs.Image.{Expr, Literal, Guard, Apply, Compare, CompareTexts, In, IsPointer, IsParameter, Place, Index, Field, Dereference, Narrow}
use Rattle.ob_judge.specs.Operators.{Operator, row_of, negated_row, operated, are_texts, are_included, may_compare}
use Rattle.ob_judge.specs.Scopes.{World, Source, place, spelled}
use Rattle.ob_judge.specs.Operands.{Operand, operand, Named, Chars, AsVariable, AsValue, value, is_read_only, is_tagged, is_constant, form, place_of, designator_of, length_of}
use Rattle.ob_judge.specs.Calls.{Given, called}
use Rattle.ob_judge.specs.Names.{type_named}

-- a part of a variable
abbrev pub part_of : Operand → Shape → Place → Operand
part_of x shape d = operand shape (Named d) (AsVariable (is_read_only x) false false)

-- what a pointer points to
abbrev pub followed : Operand → ℕ → Operand
followed x r = operand (Record r) (Named (Dereference (form x))) (AsVariable false false false)

abbrev pub fields_of : Option Layout → List ℕ → Option FieldOf
fields_of None name = None
fields_of (Some l) name = l.fields name

-- after the index was walked: 31 at the designator, 31 at the index
abbrev pub element : (at at_index : ℕ) → Operand → Operand → Judged Operand
element at at_index x i = do
  shape ← some 31 at (element_of x.shape)
  rule 31 at_index (is_number i.shape)
  Keeps (part_of x shape (Index (place_of x) (length_of x) shape (form i)))

abbrev pub guard_of : Operand → Shape → ℕ → Operand
guard_of x (Pointer n) r = value (Pointer n) (Guard (form x) r)
guard_of x t r = operand t (Named (Narrow (place_of x) r)) (AsVariable false true false)

abbrev pub test_of : Operand → Shape → ℕ → Expr
test_of x (Pointer n) r = IsPointer (form x) r
test_of x t r = IsParameter (designator_of x) r

-- 31 at the operator: its operands have no row
abbrev pub joined : Operator → (at : ℕ) → Operand → Operand → Judged Operand
joined op at x y = do
  row ← some 31 at (row_of op x.shape y.shape)
  Keeps (value row.0 (row.1 (form x) (form y)))

abbrev pub inverted : (at : ℕ) → Operand → Judged Operand
inverted at x = do
  rule 31 at (is_truth x.shape)
  Keeps (value Boolean (Apply TheUnary.Not (form x)))

abbrev pub inclusion : Comparison → Expr → Expr → Expr
inclusion TheComparison.GreaterEqual x y = operated TheBinary.Superset x y
inclusion r x y = operated TheBinary.Subset x y

abbrev pub comparison : Comparison → Operand → Operand → Expr
comparison r x y =
    if are_texts x.shape y.shape then CompareTexts r (designator_of x) (designator_of y)
    else if are_included r x.shape y.shape then inclusion r (form x) (form y)
    else Compare r (form x) (form y)

abbrev pub is_in : (at : ℕ) → Operand → Operand → Judged Operand
is_in at x s = do
  rule 31 at (is_number x.shape && is_set s.shape)
  Keeps (value Boolean (In (form x) (form s)))

-- 31 at an element that is no number
abbrev pub set_element : (at : ℕ) → Operand → Judged Expr
set_element at x = do
  rule 31 at (is_number x.shape)
  Keeps (form x)

abbrev pub int_of : Kind → ℕ
int_of (TheKind.Int n) = unsigned n
int_of k = 0

abbrev pub char_of : Kind → ℕ
char_of (TheKind.Char n) = n
char_of k = 0

abbrev pub literal : Shape → ℕ → Judged Operand
literal s n = Keeps (value s (Literal n))

abbrev pub text_literal : List ℕ → Judged Operand
text_literal cs = Keeps (operand (Text (length cs)) (Chars cs) AsValue)

-- what a call of a proper procedure gives
abbrev pub is_nothing : Shape → Bool
is_nothing Nothing = true
is_nothing s = false

abbrev pub is_procedure : Shape → Bool
is_procedure (Procedure ps r) = true
is_procedure s = false

-- the name of a type where a guard may stand
abbrev pub guard_name : Operand → Option (ℕ × Option ℕ) → Option (ℕ × Option ℕ)
guard_name x q = if is_procedure x.shape then None else q

module _ (p : Source) (w : World) where
  -- ---- parts

  -- the record that a record or a pointer to one has fields of, with the pointer followed
  abbrev pub record_of : Operand → Option (ℕ × Operand)
  record_of x = elim (x.shape) as (λ _. Option (ℕ × Operand)) [
    | Record n ↦ Some (n, x)
    | Pointer n ↦ elim (target_of w.known (Pointer n)) as (λ _. Option (ℕ × Operand)) [ Some r ↦ Some (r, followed x r) | None ↦ None ]
    | other ↦ None
  ]

  -- 31, 30, 34
  abbrev pub field : (at i : ℕ) → Operand → Judged Operand
  field at i x = do
    r ← some 31 at (record_of x)
    f ← some 30 (place p i) (fields_of (slice_get w.known.records r.0) (spelled p i))
    rule 34 (place p i) (f.exported || nat_eq f.owner w.module_number)
    Keeps (part_of r.1 f.shape (Field (place_of r.1) f.adder f.number))

  abbrev pub target : (at : ℕ) → Operand → Judged Operand
  target at x = do
    r ← some 31 at (target_of w.known x.shape)
    Keeps (followed x r)

  -- ---- guards and type tests

  -- the record type that a guard or a test asks for: 31 unless the type extends that of a pointer or VAR record
  -- parameter
  abbrev pub tested_tag : Operand → Shape → Option ℕ
  tested_tag x (Pointer n) = if is_pointer x.shape && extends w.known (Pointer n) x.shape then target_of w.known (Pointer n) else None
  tested_tag x (Record n) = if is_tagged x && extends w.known (Record n) x.shape then Some n else None
  tested_tag x t = None

  abbrev pub guarded : (at : ℕ) → Operand → Shape → Judged Operand
  guarded at x t = do
    r ← some 31 at (tested_tag x t)
    Keeps (guard_of x t r)

  abbrev pub tested : (at : ℕ) → Operand → Shape → Judged Operand
  tested at x t = do
    r ← some 31 at (tested_tag x t)
    Keeps (value Boolean (test_of x t r))

  -- ---- operators

  abbrev pub signed : Option Sign → Operand → Judged Operand
  signed None x = Keeps x
  signed (Some (TheSign.Plus i)) x = do
    rule 31 (place p i) (is_number x.shape)
    Keeps (value Integer (form x))
  signed (Some (TheSign.Minus i)) x = do
    row ← some 31 (place p i) (negated_row x.shape)
    Keeps (value row.0 (row.1 (form x)))

  -- 31 at the relation; 32 there where a constant expression compares texts
  abbrev pub compared : Comparison → (at : ℕ) → Operand → Operand → Judged Operand
  compared r at x y = do
    rule 31 at (may_compare w.known r x.shape y.shape)
    rule 32 at (not (w.constant && are_texts x.shape y.shape))
    Keeps (value Boolean (comparison r x y))

  -- of two operands; IS has none here
  abbrev pub related : Relation → Operand → Operand → Judged Operand
  related (TheRelation.Equal i) x y = compared TheComparison.Equal (place p i) x y
  related (TheRelation.NotEqual i) x y = compared TheComparison.Unequal (place p i) x y
  related (TheRelation.Less i) x y = compared TheComparison.Less (place p i) x y
  related (TheRelation.LessEqual i) x y = compared TheComparison.LessEqual (place p i) x y
  related (TheRelation.Greater i) x y = compared TheComparison.Greater (place p i) x y
  related (TheRelation.GreaterEqual i) x y = compared TheComparison.GreaterEqual (place p i) x y
  related (TheRelation.In i) x y = is_in (place p i) x y
  related (TheRelation.Is i) x y = Breaks 31 (place p i)

  -- IS and the name of a type
  abbrev pub is_test : Option (ℕ × Option ℕ) → (at : ℕ) → Operand → Judged Operand
  is_test None at x = Breaks 31 at
  is_test (Some q) at x = do
    t ← type_named p w 31 q.0 q.1
    tested at x t

  -- ---- literals

  -- 31: a call of a proper procedure has no value; 32: what no constant expression has as a factor
  abbrev pub as_factor : (at : ℕ) → Operand → Judged Operand
  as_factor at x = do
    rule 31 at (not (is_nothing x.shape))
    rule 32 at (not w.constant || is_constant x)
    Keeps x

  -- a list behind a designator: the arguments of a procedure
  abbrev pub applied : (at : ℕ) → Operand → Shape → List Given → Judged Operand
  applied at x (Procedure ps result) xs = called w at x ps result xs
  applied at x s xs = Breaks 31 at
