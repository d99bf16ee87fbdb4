-- Arguments and what takes them: procedures, and the standard procedures.
use Rattle.std.specs.Prelude.{ℕ, List, [], ◌∷◌, Bool, true, false, not, ◌&&◌, ◌||◌, if◌then◌else◌, is_some}
use Rattle.ob_types.specs.declared.tree.Unary.TheVariants as TheUnary
use Rattle.ob_types.specs.declared.tree.Binary.{Binary}
use Rattle.ob_types.specs.declared.tree.Binary.TheVariants as TheBinary
use Rattle.ob_judge.specs.Judged.{Judged, Keeps, Breaks, ◌>>=◌, ◌>>◌, rule, some}
use Rattle.ob_judge.specs.Shapes.{Shape, Integer, Boolean, Char, Byte, Nothing, Array, Open, Record, Formals, none, one, Known, same, assignable, record_extends, target_of, is_number, is_set, is_truth, is_scalar, element_of}
use Rattle.ob_judge.specs.Image.{Expr, Literal, Apply, AsByte, Length, Result, Call, Direct, Indirect, Argument, ByValue, ByPlace, ByRecord, ByOpen, Arguments, no_argument, next_argument, Statement, Checked, Designator}
use Rattle.ob_judge.specs.Image as Tree
use Rattle.ob_judge.specs.Operators.{is_char, is_text, operated}
use Rattle.ob_judge.specs.Scopes.{World, Standard, Abs, Odd, Len, Lsl, Asr, Ror, Ord, Chr, Inc, Dec, Incl, Excl, New, Assert, OutChar, OutInt, OutString, OutLn, InChar}
use Rattle.ob_judge.specs.Operands.{Operand, operand, What, Valued, Chars, Code, Proper, AsConstant, AsValue, value, is_variable, is_read_only, is_narrowed, is_local_code, form, checked, designator_of}

-- an argument that was walked, and the place of its first symbol
pub record Given : Type 0 where
  pub at : ℕ
  pub operand : Operand

-- the value of an operand as it is stored in a variable of this type
abbrev pub stored : Shape → Operand → Checked
stored Byte x = record { form = AsByte (form x); shape = Byte }
stored s x = checked x

-- may be assigned; a procedure that is local to another isn't
abbrev pub may_assign : Known → Shape → Operand → Bool
may_assign known to x = assignable known to x.shape && not (is_local_code x.what)

abbrev pub is_chars : What → Bool
is_chars (Chars cs) = true
is_chars w = false

-- a parameter of this type may name a variable of that type
abbrev pub may_name : Known → Shape → Shape → Bool
may_name known (Open a) (Array n b) = same a b
may_name known (Open a) (Open b) = same a b
may_name known (Record r) (Record s) = record_extends known s r
may_name known t s = same t s

-- a string, for an open array of CHAR
abbrev pub is_open_text : Shape → What → Bool
is_open_text (Open Char) w = is_chars w
is_open_text t w = false

-- may be the argument of a value parameter of this type
abbrev pub may_pass : Known → Shape → Operand → Bool
may_pass known t x = is_open_text t x.what || (if is_scalar t then may_assign known t x else is_variable x && may_name known t x.shape)

-- handed over as a VAR parameter wants
abbrev pub as_reference : Shape → Operand → Argument
as_reference (Open a) x = ByOpen (designator_of x)
as_reference (Record r) x = ByRecord (designator_of x)
as_reference t x = ByPlace (designator_of x)

-- and as a value parameter wants
abbrev pub as_passed : Shape → Operand → Argument
as_passed (Open a) x = ByOpen (designator_of x)
as_passed (Record r) x = ByPlace (designator_of x)
as_passed (Array n a) x = ByPlace (designator_of x)
as_passed t x = ByValue (stored t x).form

-- 40, 33: a variable that may be written
abbrev pub written : Given → Judged (Unit {0})
written x = do
  rule 40 x.at (is_variable x.operand)
  rule 33 x.at (not (is_read_only x.operand))

-- 40 at the call's designator: as many arguments as parameters
abbrev pub is_count : Formals → List Given → Bool
is_count none [] = true
is_count (one v t ps) (x ∷ xs) = is_count ps xs
is_count ps xs = false

-- a declared procedure by its number, any other by its variable
abbrev pub call_of : Operand → What → Arguments → Call
call_of x (Code f l) bs = Direct f bs
call_of x what bs = Indirect (designator_of x) bs

abbrev pub number : Given → Judged Checked
number x = do
  rule 31 x.at (is_number x.operand.shape)
  Keeps (checked x.operand)

-- a function that a constant expression may have
abbrev pub function : Shape → Expr → Judged Operand
function s x = Keeps (operand s (Valued x) AsConstant)

abbrev pub proper : Statement → Judged Operand
proper d = Keeps (operand Nothing (Proper d) AsValue)

abbrev pub shifted : Binary → Given → Given → Judged Operand
shifted op x n = do
  a ← number x
  b ← number n
  function Integer (operated op a.form b.form)

-- INC and DEC
abbrev pub changed : (Designator → Checked → Statement) → Given → Judged Checked → Judged Operand
changed change v n = do
  written v
  _ ← number v
  x ← n
  proper (change (designator_of v.operand) x)

-- INCL and EXCL
abbrev pub set_changed : (Designator → Checked → Statement) → Given → Given → Judged Operand
set_changed change v x = do
  written v
  rule 31 v.at (is_set v.operand.shape)
  a ← number x
  proper (change (designator_of v.operand) a)

-- the amount where none is given
abbrev pub by_one : Judged Checked
by_one = Keeps (record { form = Literal 1; shape = Integer })

abbrev pub may_order : Shape → Bool
may_order s = is_char s || is_truth s || is_set s

abbrev pub is_char_only : Shape → Bool
is_char_only Char = true
is_char_only s = false

module _ (w : World) where
  -- one argument for its parameter
  abbrev pub bound : (is_var : Bool) → Shape → Given → Judged Argument
  bound true t x = do
    written x
    rule 31 x.at (not (is_narrowed x.operand) && may_name w.known t x.operand.shape)
    Keeps (as_reference t x.operand)
  bound false t x = do
    rule 31 x.at (may_pass w.known t x.operand)
    Keeps (as_passed t x.operand)

  abbrev pub all_bound : Formals → List Given → Judged Arguments
  all_bound (one v t ps) (x ∷ xs) = do
    a ← bound v t x
    bs ← all_bound ps xs
    Keeps (next_argument a bs)
  all_bound ps xs = Keeps no_argument

  abbrev pub called : (at : ℕ) → Operand → Formals → Shape → List Given → Judged Operand
  called at x ps result xs = do
    rule 40 at (is_count ps xs)
    bs ← all_bound ps xs
    Keeps (value result (Result (call_of x x.what bs)))

  -- ---- the standard procedures: 40 for any other number of arguments

  -- as for a value parameter
  abbrev pub assigned_to : Shape → Given → Judged Checked
  assigned_to t x = do
    rule 31 x.at (may_assign w.known t x.operand)
    Keeps (stored t x.operand)

  abbrev pub standard : (at : ℕ) → Standard → List Given → Judged Operand
  standard at Abs (x ∷ []) = do
    a ← number x
    function Integer (Apply TheUnary.Abs a.form)
  standard at Odd (x ∷ []) = do
    a ← number x
    function Boolean (Apply TheUnary.Odd a.form)
  standard at Len (x ∷ []) = do
    rule 31 x.at (is_variable x.operand && is_some (element_of x.operand.shape))
    Keeps (value Integer (Length (designator_of x.operand)))
  standard at Lsl (x ∷ n ∷ []) = shifted TheBinary.Lsl x n
  standard at Asr (x ∷ n ∷ []) = shifted TheBinary.Asr x n
  standard at Ror (x ∷ n ∷ []) = shifted TheBinary.Ror x n
  standard at Ord (x ∷ []) = do
    rule 31 x.at (may_order x.operand.shape)
    function Integer (form x.operand)
  standard at Chr (x ∷ []) = do
    a ← number x
    function Char (AsByte a.form)
  standard at Inc (v ∷ []) = changed Tree.Increase v by_one
  standard at Inc (v ∷ n ∷ []) = changed Tree.Increase v (number n)
  standard at Dec (v ∷ []) = changed Tree.Decrease v by_one
  standard at Dec (v ∷ n ∷ []) = changed Tree.Decrease v (number n)
  standard at Incl (v ∷ x ∷ []) = set_changed Tree.Include v x
  standard at Excl (v ∷ x ∷ []) = set_changed Tree.Exclude v x
  standard at New (v ∷ []) = do
    written v
    _ ← some 31 v.at (target_of w.known v.operand.shape)
    rule 31 v.at (not (is_narrowed v.operand))
    proper (Tree.New (designator_of v.operand))
  standard at Assert (x ∷ []) = do
    rule 31 x.at (is_truth x.operand.shape)
    proper (Tree.Assert (checked x.operand))
  standard at OutChar (x ∷ []) = do
    a ← assigned_to Char x
    proper (Tree.OutChar a)
  standard at OutInt (x ∷ n ∷ []) = do
    a ← assigned_to Integer x
    b ← assigned_to Integer n
    proper (Tree.OutInt a b)
  standard at OutString (x ∷ []) = do
    rule 31 x.at (is_chars x.operand.what || is_variable x.operand && is_text x.operand.shape)
    proper (Tree.OutString (designator_of x.operand))
  standard at OutLn [] = proper Tree.OutLn
  standard at InChar (v ∷ []) = do
    written v
    rule 31 v.at (is_char_only v.operand.shape)
    proper (Tree.InChar (designator_of v.operand))
  standard at s xs = Breaks 40 at
