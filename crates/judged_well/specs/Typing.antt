-- When an image is well-formed, as ob_types says it of checked trees (its specs/WellFormed.antt), clause by clause.
use Rattle.std.specs.Prelude.{ℕ, suc, ◌^◌, length, Bool, true, false, ◌&&◌, ◌||◌, ◌==◌, nat_lt, Option, Some, None, option_map, List, is_some}
use Rattle.ob_types.specs.declared.types.Mode.{Mode}
use Rattle.ob_types.specs.declared.types.Mode.TheVariants as TheMode
use Rattle.ob_types.specs.Forms.{all}
use Rattle.ob_types.specs.WellFormed.{provided, holds_of, with_some, is_step, lengths_fit, label_fine}
use Rattle.ob_judge.specs.Shapes.{Shape, Integer, Boolean, Char, Byte, Set, Nil, Nothing, Array, Open, Record, Pointer, Procedure, Formals, none, one, same, same_formals}
use Rattle.ob_judge.specs.Shapes.{Text as TextShape}
use Rattle.ob_judge.specs.Parameters.{mode_of}
use Rattle.ob_judge.specs.Image.{Expr, Literal, Routine, Load, Guard, Apply, Linked, Compare, CompareTexts, In, IsPointer, IsParameter, AsByte, Length, Result, Link, Operate, And, Or, Element, Elements, Designator, of_type, Place, Done, Global, Local, Parameter, Text, Index, Field, Dereference, Narrow, Call, Direct, Indirect, Arguments, no_argument, next_argument, Argument, ByValue, ByPlace, ByRecord, ByOpen, Checked}
use Rattle.ob_judge.specs.Image.{Statement, Assign, CopyArray, CopyRecord, Increase, Decrease, Include, Exclude, New, Assert, OutChar, OutInt, OutString, InChar, OutLn, Invoke, If, While, Repeat, For, Case, CasePointer, CaseParameter, Statements, no_statement, next_statement, Branches, no_branch, next_branch, Parts, no_part, next_part, When, Labels, Extends}
use Rattle.judged_well.specs.Forms.{Form, Zero, Truth, Small, Number, ToRecord, Routines, Exactly, Named, InDone, Of, OpenOf, Dynamic, Characters, Elementary, OfType, Letter, is_small, is_zero, is_full, gives_number, gives_truth, gives_pointer, comparable, literal, unary_form, binary_form, changes, is_writable, is_dynamic, pointed}
use Rattle.judged_well.specs.Setting.{Setting}

-- characters of 8 bits
abbrev pub are_bytes : List ℕ → Bool
are_bytes cs = all (λ c. nat_lt c 256) cs

abbrev pub or_zero : Option ℕ → ℕ
or_zero (Some r) = r
or_zero None = 0

abbrev pub is_char : Shape → Bool
is_char Char = true
is_char _ = false

abbrev pub is_boolean : Shape → Bool
is_boolean Boolean = true
is_boolean _ = false

abbrev pub is_byte : Shape → Bool
is_byte Byte = true
is_byte _ = false

-- a string of so many characters and the 0X behind them
abbrev pub is_string : ℕ → Shape → Bool
is_string n (TextShape m) = n == suc m
is_string n _ = false

-- a variable or a string as a whole
abbrev pub is_base : Place → Bool
is_base Done = true
is_base (Global m v) = true
is_base (Local v) = true
is_base (Parameter k) = true
is_base (Text cs) = true
is_base _ = false

abbrev pub begins_there : Designator → Bool
begins_there (of_type place s) = is_base place

-- the length of an array or a string, where the type has one
abbrev pub length_of_shape : Shape → Option ℕ
length_of_shape (Array n a) = Some n
length_of_shape (TextShape n) = Some (suc n)
length_of_shape _ = None

-- the type of an array's elements
abbrev pub element_in : Shape → Shape
element_in (Array n a) = a
element_in (Open a) = a
element_in _ = Nothing

-- the record type that is written beside a record, or in an outline beside a pointer
abbrev pub record_in : Shape → ℕ
record_in (Record r) = r
record_in (Pointer r) = r
record_in _ = 0

abbrev pub is_element : Elementary → Shape → Bool
is_element (OfType s) u = same s u
is_element Letter u = is_char u

abbrev pub is_letter : Elementary → Bool
is_letter (OfType s) = is_char s
is_letter Letter = true

abbrev pub element_by : Shape → ℕ → Option Elementary
element_by (Array m a) n = provided (m == n && nat_lt n (2 ^ 32)) (Some (OfType a))
element_by _ n = None

-- an array's elements, where its length is written so
abbrev pub elements_in : Named → Option ℕ → Option Elementary
elements_in (Of s w) (Some n) = element_by s n
elements_in (OpenOf a w) None = Some (OfType a)
elements_in (Characters m) (Some n) = provided (m == n && nat_lt n (2 ^ 32)) (Some Letter)
elements_in _ _ = None

abbrev pub array_of : Shape → Option ℕ → Named → Bool
array_of u n d = holds_of (λ x. is_element x u) (elements_in d n)

abbrev pub is_text : Option ℕ → Named → Bool
is_text n d = holds_of is_letter (elements_in d n)

abbrev pub any_array : Option ℕ → Named → Bool
any_array n d = holds_of (λ x. true) (elements_in d n)

abbrev pub record_by : Shape → Option ℕ
record_by (Record r) = Some r
record_by _ = None

abbrev pub open_element : Shape → Option Shape
open_element (Open a) = Some a
open_element _ = None

-- the record that is named, by its static type
abbrev pub named_record : Named → Option ℕ
named_record (Of s w) = record_by s
named_record (Dynamic r) = Some r
named_record _ = None

-- what a parameter names inside its procedure
abbrev pub parameter_by : Mode → Shape → Bool → Option Named
parameter_by TheMode.Value s w = None
parameter_by TheMode.Place s w = Some (Of s w)
parameter_by TheMode.Record s w = option_map (λ r. Dynamic r) (record_by s)
parameter_by TheMode.Open s w = option_map (λ a. OpenOf a w) (open_element s)

abbrev pub parameter_named : Option (Bool × Shape) → Option Named
parameter_named None = None
parameter_named (Some x) = parameter_by (mode_of x.0 x.1) x.1 x.0

abbrev pub is_shape : Shape → Named → Bool
is_shape s (Of u w) = same u s
is_shape s _ = false

-- an array of this length, that may be written
abbrev pub may_copy : Shape → Option ℕ → Named → Bool
may_copy element n t = is_writable t && array_of element n t

abbrev pub open_suits : Shape → Bool → Option ℕ → Named → Bool
open_suits a true n d = array_of a n d && is_writable d
open_suits a false n d = array_of a n d

abbrev pub is_heading : Formals → Shape → Formals × Shape → Bool
is_heading ps s h = same_formals h.0 ps && same h.1 s

-- a WHILE has some condition
abbrev pub has_branch : Branches → Bool
has_branch no_branch = false
has_branch (next_branch x body rest) = true

module _ (e : Setting) where
  -- when a part of a CASE is done
  abbrev pub when_fine : When → Bool
  when_fine (Labels labels) = all label_fine labels
  when_fine (Extends r) = e.is_record r

  -- a declared procedure is of a procedure type
  abbrev pub is_of_type : ℕ → Formals → Shape → Bool
  is_of_type f ps s = holds_of (is_heading ps s) (e.heading f)

  -- what is of one form may stand where another is wanted
  abbrev pub suits : Form → Form → Bool
  suits Zero Zero = true
  suits Zero Truth = true
  suits Zero Small = true
  suits Zero Number = true
  suits Zero (ToRecord r) = true
  suits Zero (Routines ps s) = true
  suits Truth Truth = true
  suits Truth Small = true
  suits Truth Number = true
  suits Small Small = true
  suits Small Number = true
  suits Number Number = true
  suits (ToRecord r) (ToRecord b) = e.extends r b
  suits (Routines ps s) (Routines qs u) = same_formals ps qs && same s u
  suits (Exactly f) (Routines ps s) = is_of_type f ps s
  suits _ _ = false

  abbrev pub given_for : Option Form → Option Form → Bool
  given_for None _ = false
  given_for (Some f) None = false
  given_for (Some f) (Some g) = suits f g

  -- the form of a variable of a scalar type
  abbrev pub scalar : Shape → Option Form
  scalar Integer = Some Number
  scalar Boolean = Some Truth
  scalar Set = Some Number
  scalar Char = Some Small
  scalar Byte = Some Small
  scalar (Pointer n) = option_map (λ r. ToRecord r) (e.target n)
  scalar (Procedure ps s) = Some (Routines ps s)
  scalar _ = None

  -- and of a type as an outline writes it, with its record type in a pointer type's place
  abbrev pub written_scalar : Shape → Option Form
  written_scalar (Pointer r) = Some (ToRecord r)
  written_scalar s = scalar s

  -- the form of a variable that is one cell
  abbrev pub scalar_in : Named → Option Form
  scalar_in InDone = Some Truth
  scalar_in (Of s w) = scalar s
  scalar_in _ = None

  -- a type as an outline writes it
  abbrev pub outline : Shape → Shape
  outline (Pointer n) = Pointer (or_zero (e.target n))
  outline s = s

  abbrev pub has_record : ℕ → Named → Bool
  has_record r d = holds_of (λ s. e.extends s r) (named_record d)

  -- a variable whose one cell has a form
  abbrev pub takes : (Form → Bool) → Named → Bool
  takes test d = is_writable d && holds_of test (scalar_in d)

  -- an address for a parameter: of its very type, or, for a record that isn't VAR, of an extension
  abbrev pub place_suits : Shape → Bool → Named → Bool
  place_suits s true d = is_shape s d && is_writable d
  place_suits s false d = is_shape s d || holds_of (λ r. has_record r d) (record_by s)

  -- with its tag: the designator's own record where it has no other
  abbrev pub record_suits : ℕ → ℕ → Named → Bool
  record_suits b r (Of s true) = holds_of (λ x. x == r && e.extends x b) (record_by s)
  record_suits b r (Dynamic s) = e.extends s b
  record_suits b r _ = false

  abbrev pub value_suits : Mode → Option Form → Option Form → Bool
  value_suits TheMode.Value f g = given_for f g
  value_suits _ f g = false

  abbrev pub place_argument : Mode → Shape → Bool → Option Named → Bool
  place_argument TheMode.Place s w d = holds_of (place_suits s w) d
  place_argument _ s w d = false

  abbrev pub record_argument : Mode → Option ℕ → ℕ → Option Named → Bool
  record_argument TheMode.Record (Some b) r d = holds_of (record_suits b r) d
  record_argument _ _ r d = false

  abbrev pub open_argument : Mode → Option Shape → Bool → Option ℕ → Option Named → Bool
  open_argument TheMode.Open (Some a) w n d = holds_of (open_suits a w n) d
  open_argument _ _ w n d = false

  -- a call through a procedure value: its arguments, and its result's form
  abbrev pub suits_through : (Formals → Bool) → Form → Bool
  suits_through suit (Routines ps s) = suit ps
  suits_through suit _ = false

  abbrev pub result_through : Form → Option Form
  result_through (Routines ps s) = scalar s
  result_through _ = None

  -- what a designator names has this type, as it is written
  abbrev pub has_shape : Shape → Named → Bool
  has_shape s InDone = is_boolean s
  has_shape s (Of u w) = same s (outline u)
  has_shape s (OpenOf a w) = same s (Open a)
  has_shape s (Dynamic r) = same s (Record r)
  has_shape s (Characters n) = is_string n s

  abbrev pub of_shape : Shape → Named → Option Named
  of_shape s n = provided (has_shape s n) (Some n)

  -- a value of this form has this type, as it is written
  abbrev pub shape_suits : Shape → Option Form → Bool
  shape_suits Nil o = holds_of is_zero o
  shape_suits s o = given_for o (written_scalar s)

  -- NEW's record is what the pointer wants
  abbrev pub points_to : ℕ → Form → Bool
  points_to r (ToRecord b) = e.is_record r && e.extends r b
  points_to r _ = false

  abbrev pub matched : Formals → (Bool → Shape → Bool) → (Formals → Bool) → Bool
  matched none this rest = false
  matched (one v s ps) this rest = this v s && rest ps

  abbrev pub is_none_left : Formals → Bool
  is_none_left none = true
  is_none_left ps = false

  -- types beside designators and whole expressions are written so: as they are in an outline, else as their outlines
  module _ (written : Shape → Shape) where
    abbrev mutual
      -- the form of an expression's value, where it has one
      pub form : Expr → Option Form
      form (Literal n) = literal n
      form (Routine f) = provided (is_some (e.heading f)) (Some (Exactly f))
      form (Load d) = with_some (designated d) scalar_in
      form (Guard x r) = provided (e.is_record r) (provided (gives_pointer (form x)) (Some (ToRecord r)))
      form (Apply op x) = provided (gives_number (form x)) (Some (unary_form op))
      form (Linked x l) = link_form l (form x)
      form (Compare r x y) = with_some (form x) (λ a. with_some (form y) (λ b. provided (comparable r a b) (Some Truth)))
      form (CompareTexts r d f) = provided (holds_of (is_text (length_in d)) (designated d)) (provided (holds_of (is_text (length_in f)) (designated f)) (Some Truth))
      form (In x s) = provided (gives_number (form x)) (provided (gives_number (form s)) (Some Truth))
      form (IsPointer x r) = provided (e.is_record r) (provided (gives_pointer (form x)) (Some Truth))
      form (IsParameter d r) = provided (e.is_record r) (provided (holds_of is_dynamic (designated d)) (Some Truth))
      form (AsByte x) = provided (gives_number (form x)) (Some Small)
      form (Length d) = provided (holds_of (any_array (length_in d)) (designated d)) (Some Number)
      form (Result c) = provided (call_suits c) (call_form c)

      pub link_form : Link → Option Form → Option Form
      link_form (Operate op y) o = provided (gives_number o) (provided (gives_number (form y)) (Some (binary_form op)))
      link_form (And y) o = provided (gives_truth o) (provided (gives_truth (form y)) (Some Truth))
      link_form (Or y) o = provided (gives_truth o) (provided (gives_truth (form y)) (Some Truth))
      link_form (Element y) o = provided (gives_number o) (provided (gives_number (form y)) (Some Number))
      link_form (Elements y z) o = provided (gives_number o) (provided (gives_number (form y)) (provided (gives_number (form z)) (Some Number)))

      -- what a designator names, where it has the type that it says
      pub designated : Designator → Option Named
      designated (of_type place s) = with_some (named place) (of_shape (written s))

      pub named : Place → Option Named
      named Done = Some InDone
      named (Global m v) = option_map (λ s. Of s true) (e.global m v)
      named (Local v) = option_map (λ s. Of s true) (e.variable v)
      named (Parameter k) = parameter_named (e.parameter k)
      named (Text cs) = provided (are_bytes cs) (Some (Characters (suc (length cs))))
      named (Index array n element x) = with_some (named array) (λ t. provided (array_of element n t) (provided (gives_number (form x)) (Some (Of element (is_writable t)))))
      named (Field whole r number) = with_some (named whole) (λ t. provided (has_record r t) (option_map (λ s. Of s (is_writable t)) (e.field r number)))
      named (Dereference x) = with_some (pointer x) pointed
      named (Narrow place r) = provided (e.is_record r) (provided (holds_of is_dynamic (named place)) (Some (Dynamic r)))

      -- the form of a pointer that is followed: a variable, whatever type is written beside it, or a guard of one
      pub pointer : Expr → Option Form
      pointer (Load d) = untyped d
      pointer (Guard x r) = provided (e.is_record r) (provided (gives_pointer (pointer x)) (Some (ToRecord r)))
      pointer _ = None

      pub untyped : Designator → Option Form
      untyped (of_type place s) = with_some (named place) scalar_in

      pub length_in : Designator → Option ℕ
      length_in (of_type place s) = length_of_shape (written s)

      pub record_written : Designator → ℕ
      record_written (of_type place s) = record_in (written s)

      -- a call may be made, and what form its result has
      pub call_suits : Call → Bool
      call_suits (Direct f xs) = holds_of (λ h. all_suit xs h.0) (e.heading f)
      call_suits (Indirect d xs) = holds_of (suits_through (all_suit xs)) (with_some (designated d) scalar_in)

      pub call_form : Call → Option Form
      call_form (Direct f xs) = with_some (e.heading f) (λ h. scalar h.1)
      call_form (Indirect d xs) = with_some (with_some (designated d) scalar_in) result_through

      pub all_suit : Arguments → Formals → Bool
      all_suit no_argument ps = is_none_left ps
      all_suit (next_argument x xs) ps = matched ps (argument_suits x) (all_suit xs)

      pub argument_suits : Argument → Bool → Shape → Bool
      argument_suits (ByValue x) v s = value_suits (mode_of v s) (form x) (scalar s)
      argument_suits (ByPlace d) v s = place_argument (mode_of v s) s v (designated d)
      argument_suits (ByRecord d) v s = record_argument (mode_of v s) (record_by s) (record_written d) (designated d)
      argument_suits (ByOpen d) v s = open_argument (mode_of v s) (open_element s) v (length_in d) (designated d)

    -- the form of a whole expression, where it has the type that it says
    abbrev pub checked_form : Checked → Option Form
    checked_form x = provided (shape_suits (written x.shape) (form x.form)) (form x.form)

    abbrev pub shape_in : Designator → Shape
    shape_in (of_type place s) = written s

    abbrev mutual
      pub fine : Statement → Bool
      fine (Assign d x) = holds_of (λ t. is_writable t && given_for (checked_form x) (scalar_in t)) (designated d)
      fine (CopyArray d f) = lengths_fit (length_in d) (length_in f) && (holds_of (may_copy (element_in (shape_in d)) (length_in d)) (designated d) && holds_of (array_of (element_in (shape_in d)) (length_in f)) (designated f))
      fine (CopyRecord d f) = holds_of (λ t. is_writable t && has_record (record_written d) t) (designated d) && holds_of (has_record (record_written d)) (designated f)
      fine (Increase d x) = gives_number (checked_form x) && holds_of (takes (changes (is_byte (shape_in d)))) (designated d)
      fine (Decrease d x) = gives_number (checked_form x) && holds_of (takes (changes (is_byte (shape_in d)))) (designated d)
      fine (Include d x) = gives_number (checked_form x) && holds_of (takes is_full) (designated d)
      fine (Exclude d x) = gives_number (checked_form x) && holds_of (takes is_full) (designated d)
      fine (New d) = holds_of (takes (points_to (record_written d))) (designated d)
      fine (Assert x) = gives_number (checked_form x)
      fine (OutChar x) = holds_of is_small (checked_form x)
      fine (OutInt x n) = gives_number (checked_form x) && gives_number (checked_form n)
      fine (OutString d) = holds_of (is_text (length_in d)) (designated d)
      fine OutLn = true
      fine (InChar d) = holds_of (takes (changes true)) (designated d)
      fine (Invoke c) = call_suits c
      fine (If branches other) = fine_branches branches && fine_all other
      fine (While branches) = has_branch branches && fine_branches branches
      fine (Repeat body x) = fine_all body && gives_number (checked_form x)
      fine (For d x y step body) = is_step step && (begins_there d && (holds_of (takes is_full) (designated d) && (gives_number (checked_form x) && (gives_number (checked_form y) && fine_all body))))
      fine (Case x parts) = gives_number (checked_form x) && fine_parts parts
      fine (CasePointer x parts) = gives_pointer (checked_form x) && fine_parts parts
      fine (CaseParameter d parts) = holds_of is_dynamic (designated d) && fine_parts parts

      pub fine_all : Statements → Bool
      fine_all no_statement = true
      fine_all (next_statement s rest) = fine s && fine_all rest

      pub fine_branches : Branches → Bool
      fine_branches no_branch = true
      fine_branches (next_branch x body rest) = gives_number (checked_form x) && (fine_all body && fine_branches rest)

      pub fine_parts : Parts → Bool
      fine_parts no_part = true
      fine_parts (next_part when body rest) = when_fine when && (fine_all body && fine_parts rest)
