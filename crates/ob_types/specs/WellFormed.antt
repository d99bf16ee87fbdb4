-- When a checked program is well-formed: a judgement on its tree, by recursion. What an expression gives is a form, what a designator names a thing.
--
-- It asks what the meaning needs to make sense and what the layers below build on, and all of it holds of what the language allows: that the
-- language forbids to compare a number with a set, say, isn't said here.
use Rattle.std.specs.Prelude.{ℕ, zero, suc, ◌^◌, List, [], ◌∷◌, map, length, sum_by, Bool, true, false, not, ◌&&◌, ◌||◌, ◌==◌, nat_lt, nat_le, if◌then◌else◌, Option, Some, None, slice_get, ℤ, pos, int_lt, int_le}
use Rattle.std.specs.Ordering.{int_eq}
use Rattle.wrapping_numbers.specs.Numbers.{signed}
use Rattle.ob_types.specs.Layout.{kind_of, record_of, signature_of, types_of, record_cells, extends}
use Rattle.ob_types.specs.Trees.{same_extent, record_extent}
use Rattle.ob_types.specs.Assignable.{same_formals, same_length}
use Rattle.ob_types.specs.Meaning.{procedure_of, globals_of, locals_of, texts_of, text_number, kind_in, length_of_kind, element_kind, record_of_kind, is_byte}
use Rattle.ob_types.specs.declared.types.TypeKind.{TypeKind}
use Rattle.ob_types.specs.declared.types.TypeKind.TheVariants.{Int, Char, Byte, Nil, Array, Nothing}
use Rattle.ob_types.specs.declared.types.TypeKind.TheVariants.{Bool as Boolean, Set as SetOf, Text as TextOf, Record as RecordOf, Pointer as PointerTo, Procedure as ProcedureOf}
use Rattle.ob_types.specs.declared.types.Mode.{Mode}
use Rattle.ob_types.specs.declared.types.Mode.TheVariants.{Place}
use Rattle.ob_types.specs.declared.types.Mode.TheVariants.{Value as OfValue, Record as OfRecord, Open as OfOpen}
use Rattle.ob_types.specs.declared.types.Formal.{Formal}
use Rattle.ob_types.specs.declared.tree.Binary.{Binary}
use Rattle.ob_types.specs.declared.tree.Binary.TheVariants.{Subset, Superset}
use Rattle.ob_types.specs.declared.tree.Unary.{Unary}
use Rattle.ob_types.specs.declared.tree.Unary.TheVariants.{Not, Odd}
use Rattle.ob_types.specs.declared.tree.Relation.{Relation}
use Rattle.ob_types.specs.declared.tree.Relation.TheVariants.{Equal, Unequal}
use Rattle.ob_types.specs.declared.tree.Expr.{Expr, Literal, Routine, Load, Guard', Unary', Chain', Compare', CompareTexts', In', IsPointer', IsParameter, Byte', Length, Call', Row_of-Link, end_of-Link, more_of-Link}
use Rattle.ob_types.specs.declared.tree.Link.{Link, Operate, And, Or, Element, Elements'}
use Rattle.ob_types.specs.declared.tree.Base.{Base}
use Rattle.ob_types.specs.declared.tree.Base.TheVariants.{Done, Global, Local, Parameter, Text}
use Rattle.ob_types.specs.declared.tree.Designator.{Designator, Whole, Part', Row_of-Selector, end_of-Selector, more_of-Selector}
use Rattle.ob_types.specs.declared.tree.Selector.{Selector, Index, Field, Dereference, Narrow}
use Rattle.ob_types.specs.declared.tree.Call.{Call, Direct', Indirect', Row_of-Argument, end_of-Argument, more_of-Argument}
use Rattle.ob_types.specs.declared.tree.Argument.{Argument, ByValue, ByPlace, ByRecord, ByOpen}
use Rattle.ob_types.specs.declared.statements.Checked.{Checked}
use Rattle.ob_types.specs.declared.statements.Label.{Label}
use Rattle.ob_types.specs.declared.statements.Label.TheVariants.{One, Range}
use Rattle.ob_types.specs.declared.statements.Stmt.{Stmt, Assign, CopyArray, CopyRecord, Increase, Decrease, Include, Exclude, New, Assert, OutChar, OutInt, OutString, OutLn, InChar, If', While', Repeat', For', Case', CasePointer', CaseParameter', Row_of-Stmt, end_of-Stmt, more_of-Stmt, Row_of-Branch, end_of-Branch, more_of-Branch, Row_of-CasePart, end_of-CasePart, more_of-CasePart, Row_of-TypePart, end_of-TypePart, more_of-TypePart}
use Rattle.ob_types.specs.declared.statements.Stmt.{Call as Invoke}
use Rattle.ob_types.specs.declared.program.Module.{Module}
use Rattle.ob_types.specs.declared.program.Procedure.{Procedure}
use Rattle.ob_types.specs.declared.program.Program.{Program}
use Rattle.ob_types.specs.LegalTypes.{is_no_kind, is_record_type, is_variable_type, is_result_type, formal_legal, types_legal}
use Rattle.ob_types.specs.Forms.{Form, Zero, Truth, Small, Number, ToRecord, Routines, Exactly, scalar_form, all, all_below, types_fine}

-- what a designator names: a variable of a type, whether it may be written; an open array of elements of a type; a record by its dynamic type, which is this record or an extension; so many characters of a string
pub data Named : Type 0 where
  Cells : Form → (writable : Bool) → Named
  Of : (k : ℕ) (writable : Bool) → Named
  OpenOf : (element : ℕ) (writable : Bool) → Named
  Dynamic : (r : ℕ) → Named
  Characters : (n : ℕ) → Named

-- what an array's elements are: of a type, or the characters of a string
pub data Elementary : Type 0 where
  OfType : (k : ℕ) → Elementary
  Letter : Elementary

abbrev pub provided : {A : Type 0} → Bool → Option A → Option A
provided true o = o
provided false o = None

abbrev pub is_number : Form → Bool
is_number Zero = true
is_number Truth = true
is_number Small = true
is_number Number = true
is_number _ = false

abbrev pub is_small : Form → Bool
is_small Zero = true
is_small Truth = true
is_small Small = true
is_small _ = false

abbrev pub is_truth : Form → Bool
is_truth Zero = true
is_truth Truth = true
is_truth _ = false

abbrev pub is_pointer : Form → Bool
is_pointer Zero = true
is_pointer (ToRecord r) = true
is_pointer _ = false

abbrev pub is_code : Form → Bool
is_code Zero = true
is_code (Routines k) = true
is_code (Exactly f) = true
is_code _ = false

abbrev pub holds_of : {A : Type 0} → (A → Bool) → Option A → Bool
holds_of test None = false
holds_of test (Some x) = test x

abbrev pub with_some : {A B : Type 0} → Option A → (A → Option B) → Option B
with_some None f = None
with_some (Some a) f = f a

abbrev pub gives_number : Option Form → Bool
gives_number = holds_of is_number

abbrev pub gives_truth : Option Form → Bool
gives_truth = holds_of is_truth

abbrev pub gives_pointer : Option Form → Bool
gives_pointer = holds_of is_pointer

abbrev pub is_equality : Relation → Bool
is_equality Equal = true
is_equality Unequal = true
is_equality _ = false

abbrev pub comparable : Relation → Form → Form → Bool
comparable r a b = is_number a && is_number b || is_equality r && (is_pointer a && is_pointer b || is_code a && is_code b)

abbrev pub literal_by : Bool → Bool → Option Form
literal_by true _ = Some Small
literal_by false true = Some Number
literal_by false false = None

abbrev pub literal : ℕ → Option Form
literal zero = Some Zero
literal (suc zero) = Some Truth
literal (suc (suc n)) = literal_by (nat_lt (suc (suc n)) 256) (nat_lt (suc (suc n)) (2 ^ 64))

abbrev pub unary_form : Unary → Form
unary_form Not = Truth
unary_form Odd = Truth
unary_form _ = Number

abbrev pub binary_form : Binary → Form
binary_form Subset = Truth
binary_form Superset = Truth
binary_form _ = Number

abbrev pub is_writable : Named → Bool
is_writable (Cells f w) = w
is_writable (Of k w) = w
is_writable (OpenOf e w) = w
is_writable (Dynamic r) = true
is_writable (Characters n) = false

-- the element's type, where a type is an array of this length
abbrev pub element_by : TypeKind → ℕ → Option Elementary
element_by (Array (Some m) e) n = provided (m == n && nat_lt n (2 ^ 32)) (Some (OfType e))
element_by _ n = None

abbrev pub open_element : TypeKind → Option ℕ
open_element (Array None e) = Some e
open_element _ = None

abbrev pub record_by : TypeKind → Option ℕ
record_by (RecordOf r) = Some r
record_by _ = None

abbrev pub is_char : TypeKind → Bool
is_char Char = true
is_char _ = false

abbrev pub is_empty : {A : Type 0} → List A → Bool
is_empty [] = true
is_empty (x ∷ xs) = false

abbrev pub matched : List Formal → (Formal → Bool) → (List Formal → Bool) → Bool
matched [] one rest = false
matched (x ∷ xs) one rest = one x && rest xs

abbrev pub pointed : Form → Option Named
pointed (ToRecord r) = Some (Dynamic r)
pointed _ = None

-- what INC may change: a BYTE with its test
abbrev pub changes : Bool → Form → Bool
changes is_byte Small = is_byte
changes is_byte Number = true
changes is_byte _ = false

abbrev pub is_full : Form → Bool
is_full Number = true
is_full _ = false

-- a string of so many characters and the 0X behind them
abbrev pub is_string : ℕ → TypeKind → Bool
is_string n (TextOf m) = n == suc m
is_string n _ = false

-- two types are one by what the table says of them
abbrev pub equal_kinds : TypeKind → TypeKind → Bool
equal_kinds Int Int = true
equal_kinds Boolean Boolean = true
equal_kinds Char Char = true
equal_kinds Byte Byte = true
equal_kinds SetOf SetOf = true
equal_kinds Nil Nil = true
equal_kinds Nothing Nothing = true
equal_kinds (TextOf n) (TextOf m) = n == m
equal_kinds (Array n a) (Array m b) = same_length n m && a == b
equal_kinds (RecordOf r) (RecordOf s) = r == s
equal_kinds (PointerTo r) (PointerTo s) = r == s
equal_kinds (ProcedureOf f) (ProcedureOf g) = f == g
equal_kinds _ _ = false

abbrev pub is_zero : Form → Bool
is_zero Zero = true
is_zero _ = false

-- a WHILE has some condition
abbrev pub has_branch : {m : _} → Row_of-Branch m → Bool
has_branch end_of-Branch = false
has_branch (more_of-Branch x _ body rest) = true

-- a number that an INTEGER may have
abbrev pub is_integer : ℤ → Bool
is_integer z = int_le (signed (2 ^ 63)) z && int_lt z (pos (2 ^ 63))

-- the step of FOR
abbrev pub is_step : ℤ → Bool
is_step z = is_integer z && not (int_eq z (pos 0))

-- a label of CASE: no range runs downward
abbrev pub label_fine : Label → Bool
label_fine (One a) = is_integer a
label_fine (Range a b) = is_integer a && (is_integer b && int_le a b)

-- an array is copied into one that isn't shorter, as far as both lengths are known
abbrev pub lengths_fit : Option ℕ → Option ℕ → Bool
lengths_fit (Some n) (Some m) = nat_le m n
lengths_fit _ _ = true

-- behind no selector there is the variable as a whole
abbrev pub no_selector : {m : _} → Row_of-Selector m → Bool
no_selector end_of-Selector = true
no_selector (more_of-Selector s rest) = false

abbrev pub is_whole : Designator → Bool
is_whole (Whole b k) = true
is_whole (Part' _ b k _ selectors) = no_selector selectors

abbrev pub no_answer : Option Checked → Bool
no_answer None = true
no_answer (Some x) = false

-- the numbers of the modules' bodies among these procedures, the first of which has this number
abbrev pub bodies_among : ℕ → List Procedure → List ℕ
bodies_among f [] = []
bodies_among f (q ∷ qs) = if q.is_body then (f ∷ bodies_among (suc f) qs) else bodies_among (suc f) qs

-- the same numbers in the same order
abbrev pub are_equal : List ℕ → List ℕ → Bool
are_equal [] [] = true
are_equal (n ∷ ns) (m ∷ ms) = n == m && are_equal ns ms
are_equal _ _ = false

-- the argument words of a parameter, and of all
abbrev pub words_of : Mode → ℕ
words_of OfRecord = 2
words_of OfOpen = 2
words_of _ = 1

abbrev pub argument_words : List Formal → ℕ
argument_words xs = sum_by (λ x. words_of x.mode) xs

module _ (p : Program) where
  -- a procedure that may be called, and is no module's body
  abbrev pub callable : ℕ → Bool
  callable g = nat_lt g (length p.procedures) && not (procedure_of p g).is_body

  -- a declared procedure is of a procedure type: types that are the same have one number
  abbrev pub is_of_type : ℕ → ℕ → Bool
  is_of_type f k = callable f && (same_formals (λ a b. a == b) (procedure_of p f).formals (signature_of p.types k).formals && (procedure_of p f).result == (signature_of p.types k).result)

  -- what is of one form may stand where another is wanted
  abbrev pub suits : Form → Form → Bool
  suits Zero Zero = true
  suits Zero Truth = true
  suits Zero Small = true
  suits Zero Number = true
  suits Zero (ToRecord r) = true
  suits Zero (Routines k) = true
  suits Truth Truth = true
  suits Truth Small = true
  suits Truth Number = true
  suits Small Small = true
  suits Small Number = true
  suits Number Number = true
  suits (ToRecord r) (ToRecord b) = extends p.types r b
  suits (Routines k) (Routines l) = k == l
  suits (Exactly f) (Routines k) = is_of_type f k
  suits _ _ = false

  abbrev pub given_for : Option Form → Option Form → Bool
  given_for None _ = false
  given_for (Some f) None = false
  given_for (Some f) (Some g) = suits f g

  abbrev pub form_of : ℕ → Option Form
  form_of k = scalar_form (kind_of p.types k)

  -- the form of a variable that is one cell
  abbrev pub scalar_in : Named → Option Form
  scalar_in (Cells f w) = Some f
  scalar_in (Of k w) = form_of k
  scalar_in _ = None

  -- an array's elements, where its length is written so
  abbrev pub elements_in : Named → Option ℕ → Option Elementary
  elements_in (Of k w) (Some n) = element_by (kind_of p.types k) n
  elements_in (OpenOf e w) None = Some (OfType e)
  elements_in (Characters m) (Some n) = provided (m == n && nat_lt n (2 ^ 32)) (Some Letter)
  elements_in _ _ = None

  abbrev pub is_element : Elementary → ℕ → Bool
  is_element (OfType k) e = k == e
  is_element Letter e = is_char (kind_of p.types e)

  abbrev pub is_letter : Elementary → Bool
  is_letter (OfType k) = is_char (kind_of p.types k)
  is_letter Letter = true

  -- the record that is named, by its static type
  abbrev pub named_record : Named → Option ℕ
  named_record (Of k w) = record_by (kind_of p.types k)
  named_record (Dynamic r) = Some r
  named_record _ = None

  abbrev pub has_record : ℕ → Named → Bool
  has_record r d = holds_of (λ s. extends p.types s r) (named_record d)

  abbrev pub is_dynamic : Named → Bool
  is_dynamic (Dynamic r) = true
  is_dynamic _ = false

  abbrev pub array_of : ℕ → Option ℕ → Named → Bool
  array_of e n d = holds_of (λ x. is_element x e) (elements_in d n)

  abbrev pub is_text : Option ℕ → Named → Bool
  is_text n d = holds_of is_letter (elements_in d n)

  abbrev pub any_array : Option ℕ → Named → Bool
  any_array n d = holds_of (λ x. true) (elements_in d n)

  -- a variable whose one cell has a form
  abbrev pub takes : (Form → Bool) → Named → Bool
  takes test d = is_writable d && holds_of test (scalar_in d)

  -- what a parameter names inside its procedure
  abbrev pub parameter_by : Mode → ℕ → Bool → Option Named
  parameter_by OfValue k w = None
  parameter_by Place k w = Some (Of k w)
  parameter_by OfRecord k w = with_some (record_by (kind_of p.types k)) (λ r. Some (Dynamic r))
  parameter_by OfOpen k w = with_some (open_element (kind_of p.types k)) (λ e. Some (OpenOf e w))

  abbrev pub is_kind : ℕ → Named → Bool
  is_kind k (Of l w) = l == k
  is_kind k _ = false

  -- an address for a parameter: of its very type, or, for a record that isn't VAR, of an extension
  abbrev pub place_suits : ℕ → Bool → Named → Bool
  place_suits k true d = is_kind k d && is_writable d
  place_suits k false d = is_kind k d || holds_of (λ r. has_record r d) (record_by (kind_of p.types k))

  -- with its tag: the designator's own record where it has no other
  abbrev pub record_suits : ℕ → ℕ → Named → Bool
  record_suits b r (Of k true) = holds_of (λ s. s == r && extends p.types s b) (record_by (kind_of p.types k))
  record_suits b r (Dynamic s) = extends p.types s b
  record_suits b r _ = false

  abbrev pub open_suits : ℕ → Bool → Option ℕ → Named → Bool
  open_suits e true n d = array_of e n d && is_writable d
  open_suits e false n d = array_of e n d

  abbrev pub value_suits : Mode → Option Form → Option Form → Bool
  value_suits OfValue f g = given_for f g
  value_suits _ f g = false

  abbrev pub place_argument : Mode → ℕ → Bool → Option Named → Bool
  place_argument Place k w d = holds_of (place_suits k w) d
  place_argument _ k w d = false

  abbrev pub record_argument : Mode → Option ℕ → ℕ → Option Named → Bool
  record_argument OfRecord (Some b) r d = holds_of (record_suits b r) d
  record_argument _ _ r d = false

  abbrev pub open_argument : Mode → Option ℕ → Bool → Option ℕ → Option Named → Bool
  open_argument OfOpen (Some e) w n d = holds_of (open_suits e w n) d
  open_argument _ _ w n d = false

  -- a call through a procedure value: its arguments, and its result's form
  abbrev pub suits_through : (List Formal → Bool) → Form → Bool
  suits_through suit (Routines k) = suit (signature_of p.types k).formals
  suits_through suit _ = false

  abbrev pub result_through : Form → Option Form
  result_through (Routines k) = form_of (signature_of p.types k).result
  result_through _ = None

  -- what a designator names has this type
  abbrev pub has_kind : TypeKind → Named → Bool
  has_kind kind (Cells Truth w) = equal_kinds kind Boolean
  has_kind kind (Cells f w) = false
  has_kind kind (Of k w) = equal_kinds kind (kind_of p.types k)
  has_kind kind (OpenOf e w) = equal_kinds kind (Array None e)
  has_kind kind (Dynamic r) = equal_kinds kind (RecordOf r)
  has_kind kind (Characters n) = is_string n kind

  abbrev pub of_kind : TypeKind → Named → Option Named
  of_kind kind n = provided (has_kind kind n) (Some n)

  -- a value of this form has this type
  abbrev pub kind_suits : TypeKind → Option Form → Bool
  kind_suits Nil o = holds_of is_zero o
  kind_suits kind o = given_for o (scalar_form kind)

  -- NEW's record is what the pointer wants
  abbrev pub points_to : ℕ → Form → Bool
  points_to r (ToRecord b) = is_record_type p.types r && extends p.types r b
  points_to r _ = false

  -- a pointer's form, guarded by these
  abbrev pub guarded_form : List ℕ → Option Form → Option Form
  guarded_form [] o = o
  guarded_form (r ∷ rs) o = guarded_form rs (provided (is_record_type p.types r) (provided (gives_pointer o) (Some (ToRecord r))))

  module _ (here : ℕ) where
    -- where a designator begins
    abbrev pub base_named : Base → Option Named
    base_named Done = Some (Cells Truth false)
    base_named (Global m v) = with_some (slice_get (globals_of p m) v) (λ k. Some (Of k true))
    base_named (Local v) = with_some (slice_get (locals_of (procedure_of p here)) v) (λ k. Some (Of k true))
    base_named (Parameter k) = with_some (slice_get (procedure_of p here).formals k) (λ x. parameter_by x.mode x.type_number x.variable)
    base_named (Text k) = with_some (slice_get (texts_of p.procedures) (text_number p here k)) (λ xs. Some (Characters (suc (length xs))))

    abbrev mutual
      -- the form of an expression's value, where it has one
      pub form : Expr → Option Form
      form (Literal n) = literal n
      form (Routine g) = provided (callable g) (Some (Exactly g))
      form (Load d) = with_some (named d) scalar_in
      form (Guard' _ d rs) = guarded_form rs (with_some (named d) scalar_in)
      form (Unary' op _ x) = provided (gives_number (form x)) (Some (unary_form op))
      form (Chain' _ x _ links) = linked_form links (form x)
      form (Compare' r _ x _ y) = with_some (form x) (λ a. with_some (form y) (λ b. provided (comparable r a b) (Some Truth)))
      form (CompareTexts' r _ d _ e) = provided (holds_of (is_text (length_of_kind (kind_in d))) (named d)) (provided (holds_of (is_text (length_of_kind (kind_in e))) (named e)) (Some Truth))
      form (In' _ x _ s) = provided (gives_number (form x)) (provided (gives_number (form s)) (Some Truth))
      form (IsPointer' _ x r) = provided (is_record_type p.types r) (provided (gives_pointer (form x)) (Some Truth))
      form (IsParameter d r) = provided (is_record_type p.types r) (provided (holds_of is_dynamic (named d)) (Some Truth))
      form (Byte' _ x) = provided (gives_number (form x)) (Some Small)
      form (Length d) = provided (holds_of (any_array (length_of_kind (kind_in d))) (named d)) (Some Number)
      form (Call' _ c) = provided (call_suits c) (call_form c)

      -- behind one link after the other
      pub linked_form : {m : _} → Row_of-Link m → Option Form → Option Form
      linked_form end_of-Link o = o
      linked_form (more_of-Link l rest) o = linked_form rest (link_form l o)

      pub link_form : Link → Option Form → Option Form
      link_form (Operate op y) o = provided (gives_number o) (provided (gives_number (form y)) (Some (binary_form op)))
      link_form (And y) o = provided (gives_truth o) (provided (gives_truth (form y)) (Some Truth))
      link_form (Or y) o = provided (gives_truth o) (provided (gives_truth (form y)) (Some Truth))
      link_form (Element y) o = provided (gives_number o) (provided (gives_number (form y)) (Some Number))
      link_form (Elements' _ y _ z) o = provided (gives_number o) (provided (gives_number (form y)) (provided (gives_number (form z)) (Some Number)))

      -- what a designator names, where it has the type that it says
      pub named : Designator → Option Named
      named (Whole b kind) = with_some (base_named b) (of_kind kind)
      named (Part' _ b kind _ selectors) = with_some (selected_named selectors (base_named b)) (of_kind kind)

      -- behind one selector after the other
      pub selected_named : {m : _} → Row_of-Selector m → Option Named → Option Named
      selected_named end_of-Selector o = o
      selected_named (more_of-Selector s rest) o = selected_named rest (select_named s o)

      pub select_named : Selector → Option Named → Option Named
      select_named (Index n element x) o = with_some o (λ t. provided (array_of element n t) (provided (gives_number (form x)) (Some (Of element (is_writable t)))))
      select_named (Field r field) o = with_some o (λ t. provided (has_record r t) (with_some (slice_get (types_of (record_of p.types r).fields) field) (λ k. Some (Of k (is_writable t)))))
      select_named (Dereference rs) o = with_some (guarded_form rs (with_some o scalar_in)) pointed
      select_named (Narrow r) o = provided (is_record_type p.types r) (provided (holds_of is_dynamic o) (Some (Dynamic r)))

      -- a call may be made, and what form its result has
      pub call_suits : Call → Bool
      call_suits (Direct' g _ args) = callable g && all_suit args (procedure_of p g).formals
      call_suits (Indirect' d _ args) = holds_of (suits_through (all_suit args)) (with_some (named d) scalar_in)

      pub call_form : Call → Option Form
      call_form (Direct' g _ args) = form_of (procedure_of p g).result
      call_form (Indirect' d _ args) = with_some (with_some (named d) scalar_in) result_through

      pub argument_suits : Argument → Formal → Bool
      argument_suits (ByValue e) x = value_suits x.mode (form e) (form_of x.type_number)
      argument_suits (ByPlace d) x = place_argument x.mode x.type_number x.variable (named d)
      argument_suits (ByRecord d) x = record_argument x.mode (record_by (kind_of p.types x.type_number)) (record_of_kind (kind_in d)) (named d)
      argument_suits (ByOpen d) x = open_argument x.mode (open_element (kind_of p.types x.type_number)) x.variable (length_of_kind (kind_in d)) (named d)

      pub all_suit : {m : _} → Row_of-Argument m → List Formal → Bool
      all_suit end_of-Argument xs = is_empty xs
      all_suit (more_of-Argument a rest) xs = matched xs (argument_suits a) (all_suit rest)

    -- the form of a whole expression, where it has the type that it says
    abbrev pub checked_form : Checked → Option Form
    checked_form x = provided (kind_suits x.kind (form x.form)) (form x.form)

    abbrev pub may_copy : ℕ → Option ℕ → Named → Bool
    may_copy element n t = is_writable t && array_of element n t

    abbrev mutual
      pub fine : Stmt → Bool
      fine (Assign d x) = holds_of (λ t. is_writable t && given_for (checked_form x) (scalar_in t)) (named d)
      fine (CopyArray d e) = lengths_fit (length_of_kind (kind_in d)) (length_of_kind (kind_in e)) && (holds_of (may_copy (element_kind (kind_in d)) (length_of_kind (kind_in d))) (named d) && holds_of (array_of (element_kind (kind_in d)) (length_of_kind (kind_in e))) (named e))
      fine (CopyRecord d e) = holds_of (λ t. is_writable t && has_record (record_of_kind (kind_in d)) t) (named d) && holds_of (has_record (record_of_kind (kind_in d))) (named e)
      fine (Increase d x) = gives_number (checked_form x) && holds_of (takes (changes (is_byte (kind_in d)))) (named d)
      fine (Decrease d x) = gives_number (checked_form x) && holds_of (takes (changes (is_byte (kind_in d)))) (named d)
      fine (Include d x) = gives_number (checked_form x) && holds_of (takes is_full) (named d)
      fine (Exclude d x) = gives_number (checked_form x) && holds_of (takes is_full) (named d)
      fine (New d) = holds_of (takes (points_to (record_of_kind (kind_in d)))) (named d)
      fine (Assert x) = gives_number (checked_form x)
      fine (OutChar x) = holds_of is_small (checked_form x)
      fine (OutInt x n) = gives_number (checked_form x) && gives_number (checked_form n)
      fine (OutString d) = holds_of (is_text (length_of_kind (kind_in d))) (named d)
      fine OutLn = true
      fine (InChar d) = holds_of (takes (changes true)) (named d)
      fine (Invoke c) = call_suits c
      fine (If' _ parts _ other) = fine_branches parts && fine_row other
      fine (While' _ parts) = has_branch parts && fine_branches parts
      fine (Repeat' _ body x) = fine_row body && gives_number (checked_form x)
      fine (For' _ d x y step _ body) = is_step step && (is_whole d && (holds_of (takes is_full) (named d) && (gives_number (checked_form x) && (gives_number (checked_form y) && fine_row body))))
      fine (Case' x _ parts) = gives_number (checked_form x) && fine_case_parts parts
      fine (CasePointer' x _ parts) = gives_pointer (checked_form x) && fine_type_parts parts
      fine (CaseParameter' d _ parts) = holds_of is_dynamic (named d) && fine_type_parts parts

      pub fine_row : {m : _} → Row_of-Stmt m → Bool
      fine_row end_of-Stmt = true
      fine_row (more_of-Stmt s rest) = fine s && fine_row rest

      pub fine_branches : {m : _} → Row_of-Branch m → Bool
      fine_branches end_of-Branch = true
      fine_branches (more_of-Branch x _ body rest) = gives_number (checked_form x) && (fine_row body && fine_branches rest)

      pub fine_case_parts : {m : _} → Row_of-CasePart m → Bool
      fine_case_parts end_of-CasePart = true
      fine_case_parts (more_of-CasePart labels _ body rest) = all label_fine labels && (fine_row body && fine_case_parts rest)

      pub fine_type_parts : {m : _} → Row_of-TypePart m → Bool
      fine_type_parts end_of-TypePart = true
      fine_type_parts (more_of-TypePart r _ body rest) = is_record_type p.types r && (fine_row body && fine_type_parts rest)

    -- the expression behind RETURN, where the result has a form
    abbrev pub answer_fine : Option Form → Option Checked → Bool
    answer_fine None None = true
    answer_fine (Some f) (Some x) = given_for (checked_form x) (Some f)
    answer_fine _ _ = false

  -- a procedure by its number
  abbrev pub procedure_fine : ℕ → Bool
  procedure_fine f = all (formal_legal p.types) (procedure_of p f).formals && (all (fine f) (procedure_of p f).body && answer_fine f (form_of (procedure_of p f).result) (procedure_of p f).answer)

  -- a module's body is marked as one, and has no parameters, no variables and no result
  abbrev pub module_fine : Module → Bool
  module_fine m = (nat_lt m.body (length p.procedures) && (procedure_of p m.body).is_body) && ((is_empty (procedure_of p m.body).formals && is_empty (procedure_of p m.body).locals) && (is_no_kind (kind_of p.types (procedure_of p m.body).result) && no_answer (procedure_of p m.body).answer))

  -- the modules' bodies stand among the procedures in the order of the modules, and no other procedure is marked as one
  abbrev pub bodies_in_order : Bool
  bodies_in_order = are_equal (bodies_among 0 p.procedures) (map (λ m. m.body) p.modules)

  -- variables are of types that variables may have, and results of those that results may have
  abbrev pub variables_fine : Bool
  variables_fine = all (λ m. all (is_variable_type p.types) m.variables) p.modules && all (λ q. all (is_variable_type p.types) q.locals && is_result_type p.types q.result) p.procedures

  -- what is counted: a record type's level is one more than its base's, at most 15; it has the cells and takes the bytes that it says; no
  -- parameters take over 24 argument words
  abbrev pub level_by : Option ℕ → ℕ
  level_by None = 0
  level_by (Some b) = suc (record_of p.types b).level

  abbrev pub level_fine : ℕ → Bool
  level_fine r = (record_of p.types r).level == level_by (record_of p.types r).base && nat_le (record_of p.types r).level 15

  abbrev pub sizes_fine : ℕ → Bool
  sizes_fine r = (record_of p.types r).cells == record_cells p.types r && same_extent (record_of p.types r).extent (record_extent p.types r)

  abbrev pub counts_fine : Bool
  counts_fine = (all_below (length p.types.records) level_fine && all_below (length p.types.records) sizes_fine) && (all (λ g. nat_le (argument_words g.formals) 24) p.types.signatures && all (λ q. nat_le (argument_words q.formals) 24) p.procedures)

  -- all that isn't a procedure or a module's body
  abbrev pub declarations_fine : Bool
  declarations_fine = (types_legal p.types && counts_fine) && (variables_fine && bodies_in_order)

-- the whole
abbrev pub well_formed : Program → Bool
well_formed p = (types_fine p.types && declarations_fine p) && (all (all (λ c. nat_lt c 256)) (texts_of p.procedures) && (all (module_fine p) p.modules && all_below (length p.procedures) (procedure_fine p)))
