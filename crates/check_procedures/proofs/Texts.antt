-- Outlined images have the same uses of strings.
use Rattle.std.proofs.Common.{◌≡◌, ℕ, List, ◌++◌, Option, Some, None, refl, ap₂}
use Rattle.std.specs.Prelude.{option_map}
use Rattle.ob_judge.specs.Image.{Expr, Literal, Routine, Load, Guard, Apply, Linked, Compare, CompareTexts, In, IsPointer, IsParameter, AsByte, Length, Result, Link, Operate, And, Or, Element, Elements, Designator, of_type, Place, Done, Global, Local, Parameter, Text, Index, Field, Dereference, Narrow, Call, Direct, Indirect, Arguments, no_argument, next_argument, Argument, ByValue, ByPlace, ByRecord, ByOpen, Checked}
use Rattle.ob_judge.specs.Image.{Statement, Assign, CopyArray, CopyRecord, Increase, Decrease, Include, Exclude, New, Assert, OutChar, OutInt, OutString, InChar, OutLn, Invoke, If, While, Repeat, For, Case, CasePointer, CaseParameter, Statements, no_statement, next_statement, Branches, no_branch, next_branch, Parts, no_part, next_part}
use Rattle.ob_judge.specs.Texts.{Strings, in_expr, in_link, in_designator, in_place, in_call, in_arguments, in_argument, in_statement, in_statements, in_branches, in_parts, in_answer, texts_of}
use Rattle.judged_tree.specs.Outline.{outlined_expr, outlined_link, outlined_designator, outlined_place, outlined_pointer, outlined_call, outlined_arguments, outlined_argument, outlined_checked, outlined_statement, outlined_statements, outlined_branches, outlined_parts}

both : {a b c d : Strings} → a ≡ c → b ≡ d → a ++ b ≡ c ++ d
both e f = ap₂ (λ (x y : Strings). x ++ y) e f

module _ (bases : List (Option ℕ)) where
  mutual
    t_expr : (x : Expr) → in_expr (outlined_expr bases x) ≡ in_expr x
    t_expr (Literal bits) = refl
    t_expr (Routine f) = refl
    t_expr (Load d) = t_designator d
    t_expr (Guard x tag) = t_expr x
    t_expr (Apply operator x) = t_expr x
    t_expr (Linked x l) = both (t_expr x) (t_link l)
    t_expr (Compare relation x y) = both (t_expr x) (t_expr y)
    t_expr (CompareTexts relation d e) = both (t_designator d) (t_designator e)
    t_expr (In x s) = both (t_expr x) (t_expr s)
    t_expr (IsPointer x tag) = t_expr x
    t_expr (IsParameter d tag) = t_designator d
    t_expr (AsByte x) = t_expr x
    t_expr (Length d) = t_designator d
    t_expr (Result c) = t_call c

    t_link : (l : Link) → in_link (outlined_link bases l) ≡ in_link l
    t_link (Operate operator x) = t_expr x
    t_link (And x) = t_expr x
    t_link (Or x) = t_expr x
    t_link (Element x) = t_expr x
    t_link (Elements x y) = both (t_expr x) (t_expr y)

    t_designator : (d : Designator) → in_designator (outlined_designator bases d) ≡ in_designator d
    t_designator (of_type place shape) = t_place place

    t_place : (d : Place) → in_place (outlined_place bases d) ≡ in_place d
    t_place Done = refl
    t_place (Global m v) = refl
    t_place (Local v) = refl
    t_place (Parameter n) = refl
    t_place (Text cs) = refl
    t_place (Index array length element index) = both (t_place array) (t_expr index)
    t_place (Field whole adder number) = t_place whole
    t_place (Dereference x) = t_pointer x
    t_place (Narrow place tag) = t_place place

    -- a pointer that is followed
    t_pointer : (x : Expr) → in_expr (outlined_pointer bases x) ≡ in_expr x
    t_pointer (Load (of_type place shape)) = t_place place
    t_pointer (Guard x tag) = t_pointer x
    t_pointer (Literal bits) = refl
    t_pointer (Routine f) = refl
    t_pointer (Apply operator x) = refl
    t_pointer (Linked x l) = refl
    t_pointer (Compare relation x y) = refl
    t_pointer (CompareTexts relation d e) = refl
    t_pointer (In x s) = refl
    t_pointer (IsPointer x tag) = refl
    t_pointer (IsParameter d tag) = refl
    t_pointer (AsByte x) = refl
    t_pointer (Length d) = refl
    t_pointer (Result c) = refl

    t_call : (c : Call) → in_call (outlined_call bases c) ≡ in_call c
    t_call (Direct f xs) = t_arguments xs
    t_call (Indirect d xs) = both (t_designator d) (t_arguments xs)

    t_arguments : (xs : Arguments) → in_arguments (outlined_arguments bases xs) ≡ in_arguments xs
    t_arguments no_argument = refl
    t_arguments (next_argument x xs) = both (t_argument x) (t_arguments xs)

    t_argument : (x : Argument) → in_argument (outlined_argument bases x) ≡ in_argument x
    t_argument (ByValue x) = t_expr x
    t_argument (ByPlace d) = t_designator d
    t_argument (ByRecord d) = t_designator d
    t_argument (ByOpen d) = t_designator d

  mutual
    t_statement : (s : Statement) → in_statement (outlined_statement bases s) ≡ in_statement s
    t_statement (Assign d x) = both (t_designator d) (t_expr x.form)
    t_statement (CopyArray d e) = both (t_designator d) (t_designator e)
    t_statement (CopyRecord d e) = both (t_designator d) (t_designator e)
    t_statement (Increase d x) = both (t_designator d) (t_expr x.form)
    t_statement (Decrease d x) = both (t_designator d) (t_expr x.form)
    t_statement (Include d x) = both (t_designator d) (t_expr x.form)
    t_statement (Exclude d x) = both (t_designator d) (t_expr x.form)
    t_statement (New d) = t_designator d
    t_statement (Assert x) = t_expr x.form
    t_statement (OutChar x) = t_expr x.form
    t_statement (OutInt x n) = both (t_expr x.form) (t_expr n.form)
    t_statement (OutString d) = t_designator d
    t_statement (InChar d) = t_designator d
    t_statement OutLn = refl
    t_statement (Invoke c) = t_call c
    t_statement (If branches otherwise) = both (t_branches branches) (t_statements otherwise)
    t_statement (While branches) = t_branches branches
    t_statement (Repeat body x) = both (t_statements body) (t_expr x.form)
    t_statement (For d x y step body) = both (both (both (t_designator d) (t_expr x.form)) (t_expr y.form)) (t_statements body)
    t_statement (Case x parts) = both (t_expr x.form) (t_parts parts)
    t_statement (CasePointer x parts) = both (t_expr x.form) (t_parts parts)
    t_statement (CaseParameter d parts) = both (t_designator d) (t_parts parts)

    t_statements : (xs : Statements) → in_statements (outlined_statements bases xs) ≡ in_statements xs
    t_statements no_statement = refl
    t_statements (next_statement s rest) = both (t_statement s) (t_statements rest)

    t_branches : (xs : Branches) → in_branches (outlined_branches bases xs) ≡ in_branches xs
    t_branches no_branch = refl
    t_branches (next_branch x body rest) = both (both (t_expr x.form) (t_statements body)) (t_branches rest)

    t_parts : (xs : Parts) → in_parts (outlined_parts bases xs) ≡ in_parts xs
    t_parts no_part = refl
    t_parts (next_part when body rest) = both (t_statements body) (t_parts rest)

  t_answer : (a : Option Checked) → in_answer (option_map (outlined_checked bases) a) ≡ in_answer a
  t_answer None = refl
  t_answer (Some x) = t_expr x.form

  pub texts_same : (xs : Statements) (a : Option Checked) → texts_of (outlined_statements bases xs) (option_map (outlined_checked bases) a) ≡ texts_of xs a
  texts_same xs a = both (t_statements xs) (t_answer a)
