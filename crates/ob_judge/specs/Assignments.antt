-- Assignments, calls that are statements, conditions and steps judged (Oberon-07 report, sections 9.1, 9.2, 9.8).
use Rattle.std.specs.Prelude.{ℕ, [], Bool, true, false, not, if◌then◌else◌, Option, Some, None, ℤ, pos}
use Rattle.std.specs.Ordering.{int_eq}
use Rattle.wrapping_numbers.specs.Numbers.{signed}
use Rattle.ob_syntax.specs.Syntax as S
use Rattle.ob_judge.specs.Judged.{Judged, Keeps, Breaks, ◌>>=◌, ◌>>◌, rule, some}
use Rattle.ob_judge.specs.Shapes.{Shape, Integer, Array, Open, Record, Procedure, Nothing, is_number, is_truth}
use Rattle.ob_judge.specs.Image.{Result, Designator, of_type, Checked, Constant, Bits, Statement, Assign, CopyArray, CopyRecord, Invoke}
use Rattle.ob_judge.specs.Scopes.{Object, AVariable, AStandard, AModule, World, Source, place}
use Rattle.ob_judge.specs.Operands.{Operand, What, Valued, Proper, is_variable, is_read_only, checked, designator_of, whole_variable}
use Rattle.ob_judge.specs.Calls.{stored, may_assign, standard, called}
use Rattle.ob_judge.specs.Symbols.{expression_first}
use Rattle.ob_judge.specs.Names.{named, member}
use Rattle.ob_judge.specs.Expressions.{expression, designator, constant}

-- a variable that is the whole destination isn't read, so it isn't narrowed
abbrev pub whole_object : World → Object → S.Selectors → Judged Operand → Judged Operand
whole_object w (AVariable v) S.no_selector other = Keeps (whole_variable w v)
whole_object w o selectors other = other

abbrev pub assigned : Shape → Operand → Operand → Statement
assigned (Array n a) x y = CopyArray (designator_of x) (designator_of y)
assigned (Open a) x y = CopyArray (designator_of x) (designator_of y)
assigned (Record r) x y = CopyRecord (designator_of x) (designator_of y)
assigned s x y = Assign (designator_of x) (stored s y)

abbrev pub called_alone : World → (at : ℕ) → Option Object → Judged Operand → Judged Operand
called_alone w at (Some (AStandard s)) other = standard w at s []
called_alone w at o other = other

abbrev pub is_call : What → Bool
is_call (Valued (Result c)) = true
is_call w = false

-- a procedure without a list is called without arguments
abbrev pub called_bare : World → (at : ℕ) → Operand → Shape → Judged Operand
called_bare w at x (Procedure ps result) = if is_call x.what then Keeps x else called w at x ps result []
called_bare w at x s = Keeps x

-- 31 at the designator unless it is a call without a result
abbrev pub deed_of : (at : ℕ) → Shape → What → Judged Statement
deed_of at Nothing (Proper d) = Keeps d
deed_of at Nothing (Valued (Result c)) = Keeps (Invoke c)
deed_of at s what = Breaks 31 at

abbrev pub integer_variable : World → Object → Option Designator
integer_variable w (AVariable v) = elim (v.shape) as (λ _. Option Designator) [ Integer ↦ Some (of_type v.place Integer) | other ↦ None ]
integer_variable w o = None

abbrev pub int_only : Constant → Option ℤ
int_only (Bits Integer n) = Some (signed n)
int_only c = None

module _ (p : Source) where
  -- ---- assignments and calls

  abbrev pub destination : World → S.Designator → Judged Operand
  destination w d = do
    o ← named p w d.name
    whole_object w o d.selectors (designator p w d)

  -- designator, expression; then 31, 33 at the designator and 31 at the expression
  abbrev pub assignment : World → S.Designator → S.Expression → Judged Statement
  assignment w d e = do
    x ← destination w d
    y ← expression p w e
    rule 31 (place p d.name) (is_variable x)
    rule 33 (place p d.name) (not (is_read_only x))
    rule 31 (place p (expression_first e)) (may_assign w.known x.shape y)
    Keeps (assigned x.shape x y)

  -- a standard procedure that stands alone, by its name or behind its module's
  abbrev pub alone : World → Object → S.Selectors → Judged (Option Object)
  alone w (AStandard s) S.no_selector = Keeps (Some (AStandard s))
  alone w (AModule m) (S.selected (S.Field period i) S.no_selector) = do
    o ← member p w m i
    Keeps (Some o)
  alone w o selectors = Keeps None

  abbrev pub call_statement : World → S.Designator → Judged Statement
  call_statement w d = do
    o ← named p w d.name
    only ← alone w o d.selectors
    x ← called_alone w (place p d.name) only (designator p w d)
    y ← called_bare w (place p d.name) x x.shape
    deed_of (place p d.name) y.shape y.what

  abbrev pub assign_or_call : World → S.Designator → Option S.Assigned → Judged Statement
  assign_or_call w d None = call_statement w d
  assign_or_call w d (Some a) = assignment w d a.value

  -- ---- conditions, FOR

  -- 31 at a guard that isn't BOOLEAN
  abbrev pub condition : World → S.Expression → Judged Checked
  condition w e = do
    x ← expression p w e
    rule 31 (place p (expression_first e)) (is_truth x.shape)
    Keeps (checked x)

  abbrev pub number : World → S.Expression → Judged Checked
  number w e = do
    x ← expression p w e
    rule 31 (place p (expression_first e)) (is_number x.shape)
    Keeps (checked x)

  -- 31, 35: a constant INTEGER that isn't 0
  abbrev pub step_of : World → Option S.By → Judged ℤ
  step_of w None = Keeps (pos 1)
  step_of w (Some b) = do
    c ← constant p w b.step
    z ← some 31 (place p (expression_first b.step)) (int_only c)
    rule 35 (place p (expression_first b.step)) (not (int_eq z (pos 0)))
    Keeps z
