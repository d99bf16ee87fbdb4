-- The size of a tree: how many parts it has, each as often as it is lowered.
use Rattle.std.specs.Prelude.{ℕ, suc, ◌+◌, ◌*◌, ◌≤◌, List, [], ◌∷◌, length, Option, Some, None}
use Rattle.ob_types.specs.declared.program.Procedure.{Procedure}
use Rattle.ob_types.specs.declared.tree.Expr.{Expr, Literal, Routine, Load, Guard', Unary', Chain', Compare', CompareTexts', In', IsPointer', IsParameter, Byte', Length, Call', Row_of-Link, end_of-Link, more_of-Link}
use Rattle.ob_types.specs.declared.tree.Link.{Link, Operate, And, Or, Element, Elements'}
use Rattle.ob_types.specs.declared.tree.Designator.{Designator, Whole, Part', Row_of-Selector, end_of-Selector, more_of-Selector}
use Rattle.ob_types.specs.declared.tree.Selector.{Selector, Index, Field, Dereference, Narrow}
use Rattle.ob_types.specs.declared.tree.Call.{Call, Direct', Indirect', Row_of-Argument, end_of-Argument, more_of-Argument}
use Rattle.ob_types.specs.declared.tree.Argument.{Argument, ByValue, ByPlace, ByRecord, ByOpen}
use Rattle.ob_types.specs.declared.statements.Checked.{Checked}
use Rattle.ob_types.specs.declared.statements.Stmt.{Stmt, Assign, CopyArray, CopyRecord, Increase, Decrease, Include, Exclude, New, Assert, OutChar, OutInt, OutString, OutLn, InChar, If', While', Repeat', For', Case', CasePointer', CaseParameter', Row_of-Stmt, end_of-Stmt, more_of-Stmt, Row_of-Branch, end_of-Branch, more_of-Branch, Row_of-CasePart, end_of-CasePart, more_of-CasePart, Row_of-TypePart, end_of-TypePart, more_of-TypePart}
use Rattle.ob_types.specs.declared.statements.Stmt.{Call as Invoke}

abbrev mutual
  pub in_expr : Expr → ℕ
  in_expr (Literal n) = 1
  in_expr (Routine g) = 1
  in_expr (Load d) = suc (in_designator d)
  in_expr (Guard' _ d rs) = suc (in_designator d + length rs)
  in_expr (Unary' op _ x) = suc (in_expr x)
  in_expr (Chain' _ x _ links) = in_expr x + in_links links
  in_expr (Compare' r _ x _ y) = suc (in_expr x + in_expr y)
  in_expr (CompareTexts' r _ d _ e) = suc (in_designator d + in_designator e)
  in_expr (In' _ x _ s) = suc (in_expr x + in_expr s)
  in_expr (IsPointer' _ x r) = suc (in_expr x)
  in_expr (IsParameter d r) = suc (in_designator d)
  in_expr (Byte' _ x) = suc (in_expr x)
  in_expr (Length d) = suc (in_designator d)
  in_expr (Call' _ c) = suc (in_call c)

  pub in_links : {m : _} → Row_of-Link m → ℕ
  in_links end_of-Link = 0
  in_links (more_of-Link k more) = in_link k + in_links more

  pub in_link : Link → ℕ
  in_link (Operate op y) = suc (in_expr y)
  in_link (And y) = suc (in_expr y)
  in_link (Or y) = suc (in_expr y)
  in_link (Element y) = suc (in_expr y)
  in_link (Elements' _ y _ z) = suc (in_expr y + in_expr z)

  pub in_designator : Designator → ℕ
  in_designator (Whole b k) = 1
  in_designator (Part' _ b k _ selectors) = suc (in_selectors selectors)

  pub in_selectors : {m : _} → Row_of-Selector m → ℕ
  in_selectors end_of-Selector = 0
  in_selectors (more_of-Selector s more) = in_selector s + in_selectors more

  pub in_selector : Selector → ℕ
  in_selector (Index n k x) = suc (in_expr x)
  in_selector (Field r k) = 1
  in_selector (Dereference rs) = suc (length rs)
  in_selector (Narrow r) = 1

  pub in_call : Call → ℕ
  in_call (Direct' g _ args) = suc (in_arguments args)
  in_call (Indirect' d _ args) = suc (in_designator d + in_arguments args)

  pub in_argument : Argument → ℕ
  in_argument (ByValue x) = suc (in_expr x)
  in_argument (ByPlace d) = suc (in_designator d)
  in_argument (ByRecord d) = suc (in_designator d)
  in_argument (ByOpen d) = suc (in_designator d)

  pub in_arguments : {m : _} → Row_of-Argument m → ℕ
  in_arguments end_of-Argument = 0
  in_arguments (more_of-Argument x more) = in_argument x + in_arguments more

abbrev pub in_checked : Checked → ℕ
in_checked x = in_expr x.form

-- FOR's variable is lowered four times: it is assigned, read and tested, and read and assigned
abbrev mutual
  pub in_statement : Stmt → ℕ
  in_statement (Assign d x) = suc (in_designator d + in_checked x)
  in_statement (CopyArray d e) = suc (in_designator d + in_designator e)
  in_statement (CopyRecord d e) = suc (in_designator d + in_designator e)
  in_statement (Increase d x) = suc (in_designator d + in_checked x)
  in_statement (Decrease d x) = suc (in_designator d + in_checked x)
  in_statement (Include d x) = suc (in_designator d + in_checked x)
  in_statement (Exclude d x) = suc (in_designator d + in_checked x)
  in_statement (New d) = suc (in_designator d)
  in_statement (Assert x) = suc (in_checked x)
  in_statement (OutChar x) = suc (in_checked x)
  in_statement (OutInt x n) = suc (in_checked x + in_checked n)
  in_statement (OutString d) = suc (in_designator d)
  in_statement OutLn = 1
  in_statement (InChar d) = suc (in_designator d)
  in_statement (Invoke c) = suc (in_call c)
  in_statement (If' _ parts _ other) = suc (in_branches parts + in_row other)
  in_statement (While' _ parts) = suc (in_branches parts)
  in_statement (Repeat' _ body x) = suc (in_row body + in_checked x)
  in_statement (For' _ d x y step _ body) = suc (4 * in_designator d + (in_checked x + (in_checked y + in_row body)))
  in_statement (Case' x _ parts) = suc (in_checked x + in_case_parts parts)
  in_statement (CasePointer' x _ parts) = suc (in_checked x + in_type_parts parts)
  in_statement (CaseParameter' d _ parts) = suc (in_designator d + in_type_parts parts)

  pub in_row : {m : _} → Row_of-Stmt m → ℕ
  in_row end_of-Stmt = 0
  in_row (more_of-Stmt s more) = in_statement s + in_row more

  pub in_branches : {m : _} → Row_of-Branch m → ℕ
  in_branches end_of-Branch = 0
  in_branches (more_of-Branch x _ body more) = suc (in_checked x + in_row body) + in_branches more

  pub in_case_parts : {m : _} → Row_of-CasePart m → ℕ
  in_case_parts end_of-CasePart = 0
  in_case_parts (more_of-CasePart labels _ body more) = suc (length labels + in_row body) + in_case_parts more

  pub in_type_parts : {m : _} → Row_of-TypePart m → ℕ
  in_type_parts end_of-TypePart = 0
  in_type_parts (more_of-TypePart r _ body more) = suc (in_row body) + in_type_parts more

abbrev pub in_list : List Stmt → ℕ
in_list [] = 0
in_list (s ∷ more) = in_statement s + in_list more

abbrev pub in_answer : Option Checked → ℕ
in_answer None = 0
in_answer (Some x) = in_checked x

-- of a procedure: its parameters and local variables count too
abbrev pub tree_size : Procedure → ℕ
tree_size q = suc (length q.formals + (length q.locals + (in_list q.body + in_answer q.answer)))

-- at most so many
abbrev pub IsSmall : Procedure → Type 0
IsSmall q = tree_size q ≤ 31250000
