-- What of an image a checked tree tells. Beside a designator and a whole expression a tree has a kind, which says of a
-- pointer type only the record type that it points to; and between two selectors it has no type at all. So in the
-- outline of an image a pointer type stands there by its record type's number, and what is followed has no type.
use Rattle.std.specs.Prelude.{ℕ, List, map, Option, Some, option_map, slice_get}
use Rattle.ob_judge.specs.Shapes.{Shape, Pointer, Nothing}
use Rattle.ob_judge.specs.Image.{Expr, Literal, Routine, Load, Guard, Apply, Linked, Compare, CompareTexts, In, IsPointer, IsParameter, AsByte, Length, Result, Link, Operate, And, Or, Element, Elements, Designator, of_type, Place, Done, Global, Local, Parameter, Text, Index, Field, Dereference, Narrow, Call, Direct, Indirect, Arguments, no_argument, next_argument, Argument, ByValue, ByPlace, ByRecord, ByOpen, Checked}
use Rattle.ob_judge.specs.Image.{Statement, Assign, CopyArray, CopyRecord, Increase, Decrease, Include, Exclude, New, Assert, OutChar, OutInt, OutString, InChar, OutLn, Invoke, If, While, Repeat, For, Case, CasePointer, CaseParameter, Statements, no_statement, next_statement, Branches, no_branch, next_branch, Parts, no_part, next_part, Procedure, Program}

abbrev pub record_or_zero : Option (Option ℕ) → ℕ
record_or_zero (Some (Some r)) = r
record_or_zero o = 0

-- pointer types point to these record types
module _ (bases : List (Option ℕ)) where
  abbrev pub outlined_shape : Shape → Shape
  outlined_shape (Pointer n) = Pointer (record_or_zero (slice_get bases n))
  outlined_shape s = s

  abbrev mutual
    pub outlined_expr : Expr → Expr
    outlined_expr (Literal bits) = Literal bits
    outlined_expr (Routine f) = Routine f
    outlined_expr (Load d) = Load (outlined_designator d)
    outlined_expr (Guard x tag) = Guard (outlined_expr x) tag
    outlined_expr (Apply operator x) = Apply operator (outlined_expr x)
    outlined_expr (Linked x l) = Linked (outlined_expr x) (outlined_link l)
    outlined_expr (Compare relation x y) = Compare relation (outlined_expr x) (outlined_expr y)
    outlined_expr (CompareTexts relation d e) = CompareTexts relation (outlined_designator d) (outlined_designator e)
    outlined_expr (In x s) = In (outlined_expr x) (outlined_expr s)
    outlined_expr (IsPointer x tag) = IsPointer (outlined_expr x) tag
    outlined_expr (IsParameter d tag) = IsParameter (outlined_designator d) tag
    outlined_expr (AsByte x) = AsByte (outlined_expr x)
    outlined_expr (Length d) = Length (outlined_designator d)
    outlined_expr (Result c) = Result (outlined_call c)

    pub outlined_link : Link → Link
    outlined_link (Operate operator x) = Operate operator (outlined_expr x)
    outlined_link (And x) = And (outlined_expr x)
    outlined_link (Or x) = Or (outlined_expr x)
    outlined_link (Element x) = Element (outlined_expr x)
    outlined_link (Elements x y) = Elements (outlined_expr x) (outlined_expr y)

    pub outlined_designator : Designator → Designator
    outlined_designator (of_type place shape) = of_type (outlined_place place) (outlined_shape shape)

    pub outlined_place : Place → Place
    outlined_place Done = Done
    outlined_place (Global m v) = Global m v
    outlined_place (Local v) = Local v
    outlined_place (Parameter n) = Parameter n
    outlined_place (Text cs) = Text cs
    outlined_place (Index array length element index) = Index (outlined_place array) length element (outlined_expr index)
    outlined_place (Field whole adder number) = Field (outlined_place whole) adder number
    outlined_place (Dereference x) = Dereference (outlined_pointer x)
    outlined_place (Narrow place tag) = Narrow (outlined_place place) tag

    -- a pointer that is followed: a variable's value, or a guard of one
    pub outlined_pointer : Expr → Expr
    outlined_pointer (Load d) = Load (untyped d)
    outlined_pointer (Guard x tag) = Guard (outlined_pointer x) tag
    outlined_pointer x = x

    pub untyped : Designator → Designator
    untyped (of_type place shape) = of_type (outlined_place place) Nothing

    pub outlined_call : Call → Call
    outlined_call (Direct f xs) = Direct f (outlined_arguments xs)
    outlined_call (Indirect d xs) = Indirect (outlined_designator d) (outlined_arguments xs)

    pub outlined_arguments : Arguments → Arguments
    outlined_arguments no_argument = no_argument
    outlined_arguments (next_argument x xs) = next_argument (outlined_argument x) (outlined_arguments xs)

    pub outlined_argument : Argument → Argument
    outlined_argument (ByValue x) = ByValue (outlined_expr x)
    outlined_argument (ByPlace d) = ByPlace (outlined_designator d)
    outlined_argument (ByRecord d) = ByRecord (outlined_designator d)
    outlined_argument (ByOpen d) = ByOpen (outlined_designator d)

  abbrev pub outlined_checked : Checked → Checked
  outlined_checked x = record { form = outlined_expr x.form; shape = outlined_shape x.shape }

  abbrev mutual
    pub outlined_statement : Statement → Statement
    outlined_statement (Assign d x) = Assign (outlined_designator d) (outlined_checked x)
    outlined_statement (CopyArray d e) = CopyArray (outlined_designator d) (outlined_designator e)
    outlined_statement (CopyRecord d e) = CopyRecord (outlined_designator d) (outlined_designator e)
    outlined_statement (Increase d x) = Increase (outlined_designator d) (outlined_checked x)
    outlined_statement (Decrease d x) = Decrease (outlined_designator d) (outlined_checked x)
    outlined_statement (Include d x) = Include (outlined_designator d) (outlined_checked x)
    outlined_statement (Exclude d x) = Exclude (outlined_designator d) (outlined_checked x)
    outlined_statement (New d) = New (outlined_designator d)
    outlined_statement (Assert x) = Assert (outlined_checked x)
    outlined_statement (OutChar x) = OutChar (outlined_checked x)
    outlined_statement (OutInt x n) = OutInt (outlined_checked x) (outlined_checked n)
    outlined_statement (OutString d) = OutString (outlined_designator d)
    outlined_statement (InChar d) = InChar (outlined_designator d)
    outlined_statement OutLn = OutLn
    outlined_statement (Invoke c) = Invoke (outlined_call c)
    outlined_statement (If branches otherwise) = If (outlined_branches branches) (outlined_statements otherwise)
    outlined_statement (While branches) = While (outlined_branches branches)
    outlined_statement (Repeat body x) = Repeat (outlined_statements body) (outlined_checked x)
    outlined_statement (For d x y step body) = For (outlined_designator d) (outlined_checked x) (outlined_checked y) step (outlined_statements body)
    outlined_statement (Case x parts) = Case (outlined_checked x) (outlined_parts parts)
    outlined_statement (CasePointer x parts) = CasePointer (outlined_checked x) (outlined_parts parts)
    outlined_statement (CaseParameter d parts) = CaseParameter (outlined_designator d) (outlined_parts parts)

    pub outlined_statements : Statements → Statements
    outlined_statements no_statement = no_statement
    outlined_statements (next_statement s rest) = next_statement (outlined_statement s) (outlined_statements rest)

    pub outlined_branches : Branches → Branches
    outlined_branches no_branch = no_branch
    outlined_branches (next_branch x body rest) = next_branch (outlined_checked x) (outlined_statements body) (outlined_branches rest)

    pub outlined_parts : Parts → Parts
    outlined_parts no_part = no_part
    outlined_parts (next_part when body rest) = next_part when (outlined_statements body) (outlined_parts rest)

  abbrev pub outlined_procedure : Procedure → Procedure
  outlined_procedure q = record q { body = outlined_statements q.body; answer = option_map outlined_checked q.answer }

-- of a whole program: `plain_program sources p ≡ outlined_program q` says that p is q as code holds it
abbrev pub outlined_program : Program → Program
outlined_program q = record q { procedures = map (outlined_procedure q.pointers) q.procedures }
