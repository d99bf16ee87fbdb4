-- A procedure's uses of strings as arrays, in the order in which they are lowered: that of the tree, with RETURN's
-- expression last.
use Rattle.std.specs.Prelude.{ℕ, List, [], ◌∷◌, ◌++◌, Option, Some, None}
use Rattle.ob_judge.specs.Image.{Expr, Literal, Routine, Load, Guard, Apply, Linked, Compare, CompareTexts, In, IsPointer, IsParameter, AsByte, Length, Result, Link, Operate, And, Or, Element, Elements, Designator, of_type, Place, Text, Index, Field, Dereference, Narrow, Call, Direct, Indirect, Arguments, no_argument, next_argument, Argument, ByValue, ByPlace, ByRecord, ByOpen, Checked}
use Rattle.ob_judge.specs.Image.{Statement, Assign, CopyArray, CopyRecord, Increase, Decrease, Include, Exclude, New, Assert, OutChar, OutInt, OutString, InChar, OutLn, Invoke, If, While, Repeat, For, Case, CasePointer, CaseParameter, Statements, no_statement, next_statement, Branches, no_branch, next_branch, Parts, no_part, next_part}

abbrev pub Strings : Type 0
Strings = List (List ℕ)

abbrev mutual
  pub in_expr : Expr → Strings
  in_expr (Literal bits) = []
  in_expr (Routine f) = []
  in_expr (Load d) = in_designator d
  in_expr (Guard x tag) = in_expr x
  in_expr (Apply operator x) = in_expr x
  in_expr (Linked x l) = in_expr x ++ in_link l
  in_expr (Compare relation x y) = in_expr x ++ in_expr y
  in_expr (CompareTexts relation d e) = in_designator d ++ in_designator e
  in_expr (In x s) = in_expr x ++ in_expr s
  in_expr (IsPointer x tag) = in_expr x
  in_expr (IsParameter d tag) = in_designator d
  in_expr (AsByte x) = in_expr x
  in_expr (Length d) = in_designator d
  in_expr (Result c) = in_call c

  pub in_link : Link → Strings
  in_link (Operate operator x) = in_expr x
  in_link (And x) = in_expr x
  in_link (Or x) = in_expr x
  in_link (Element x) = in_expr x
  in_link (Elements x y) = in_expr x ++ in_expr y

  pub in_designator : Designator → Strings
  in_designator (of_type place shape) = in_place place

  pub in_place : Place → Strings
  in_place (Text characters) = characters ∷ []
  in_place (Index array length element index) = in_place array ++ in_expr index
  in_place (Field whole adder number) = in_place whole
  in_place (Dereference pointer) = in_expr pointer
  in_place (Narrow place tag) = in_place place
  in_place place = []

  pub in_call : Call → Strings
  in_call (Direct f xs) = in_arguments xs
  in_call (Indirect d xs) = in_designator d ++ in_arguments xs

  pub in_arguments : Arguments → Strings
  in_arguments no_argument = []
  in_arguments (next_argument x xs) = in_argument x ++ in_arguments xs

  pub in_argument : Argument → Strings
  in_argument (ByValue x) = in_expr x
  in_argument (ByPlace d) = in_designator d
  in_argument (ByRecord d) = in_designator d
  in_argument (ByOpen d) = in_designator d

abbrev mutual
  pub in_statement : Statement → Strings
  in_statement (Assign d x) = in_designator d ++ in_expr x.form
  in_statement (CopyArray d e) = in_designator d ++ in_designator e
  in_statement (CopyRecord d e) = in_designator d ++ in_designator e
  in_statement (Increase d x) = in_designator d ++ in_expr x.form
  in_statement (Decrease d x) = in_designator d ++ in_expr x.form
  in_statement (Include d x) = in_designator d ++ in_expr x.form
  in_statement (Exclude d x) = in_designator d ++ in_expr x.form
  in_statement (New d) = in_designator d
  in_statement (Assert x) = in_expr x.form
  in_statement (OutChar x) = in_expr x.form
  in_statement (OutInt x n) = in_expr x.form ++ in_expr n.form
  in_statement (OutString d) = in_designator d
  in_statement (InChar d) = in_designator d
  in_statement OutLn = []
  in_statement (Invoke c) = in_call c
  in_statement (If branches otherwise) = in_branches branches ++ in_statements otherwise
  in_statement (While branches) = in_branches branches
  in_statement (Repeat body x) = in_statements body ++ in_expr x.form
  in_statement (For d x y step body) = in_designator d ++ in_expr x.form ++ in_expr y.form ++ in_statements body
  in_statement (Case x parts) = in_expr x.form ++ in_parts parts
  in_statement (CasePointer x parts) = in_expr x.form ++ in_parts parts
  in_statement (CaseParameter d parts) = in_designator d ++ in_parts parts

  pub in_statements : Statements → Strings
  in_statements no_statement = []
  in_statements (next_statement s rest) = in_statement s ++ in_statements rest

  pub in_branches : Branches → Strings
  in_branches no_branch = []
  in_branches (next_branch x body rest) = in_expr x.form ++ in_statements body ++ in_branches rest

  pub in_parts : Parts → Strings
  in_parts no_part = []
  in_parts (next_part when body rest) = in_statements body ++ in_parts rest

abbrev pub in_answer : Option Checked → Strings
in_answer None = []
in_answer (Some x) = in_expr x.form

-- of a body and the expression behind RETURN
abbrev pub texts_of : Statements → Option Checked → Strings
texts_of body answer = in_statements body ++ in_answer answer
