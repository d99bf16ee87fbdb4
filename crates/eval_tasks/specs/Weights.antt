-- How much a task can do before a turn is spent: each step makes what is left lighter, or spends a turn.
use Rattle.std.specs.Prelude.{ℕ, ◌+◌, List, [], ◌∷◌, length, true, false}
use Rattle.ob_types.specs.declared.tree.Expr.{Expr, Literal, Routine, Load, Guard', Unary', Chain', Compare', CompareTexts', In', IsPointer', IsParameter, Byte', Length, Call', Row_of-Link, end_of-Link, more_of-Link}
use Rattle.ob_types.specs.declared.tree.Link.{Link, Operate, And, Or, Element, Elements'}
use Rattle.ob_types.specs.declared.tree.Designator.{Designator, Whole, Part', Row_of-Selector, end_of-Selector, more_of-Selector}
use Rattle.ob_types.specs.declared.tree.Selector.{Selector, Index, Field, Dereference, Narrow}
use Rattle.ob_types.specs.declared.tree.Call.{Call, Direct', Indirect', Row_of-Argument, end_of-Argument, more_of-Argument}
use Rattle.ob_types.specs.declared.tree.Argument.{Argument, ByValue, ByPlace, ByRecord, ByOpen}
use Rattle.ob_types.specs.declared.statements.Stmt.{Stmt, Assign, CopyArray, CopyRecord, Increase, Decrease, Include, Exclude, New, Assert, OutChar, OutInt, OutString, OutLn, InChar, If', While', Repeat', For', Case', CasePointer', CaseParameter', Row_of-Stmt, end_of-Stmt, more_of-Stmt, Row_of-Branch, end_of-Branch, more_of-Branch, Row_of-CasePart, end_of-CasePart, more_of-CasePart, Row_of-TypePart, end_of-TypePart, more_of-TypePart}
use Rattle.ob_types.specs.declared.statements.Stmt.{Call as Calling}
use Rattle.ob_types.specs.declared.statements.Branch.{Branch}
use Rattle.ob_types.specs.declared.statements.CasePart.{CasePart}
use Rattle.ob_types.specs.declared.statements.TypePart.{TypePart}
use Rattle.eval_tasks.specs.declared.task.Stage.{Stage}
use Rattle.eval_tasks.specs.declared.task.Stage.TheVariants.{Begin, Rounds, Behind}
use Rattle.eval_tasks.specs.declared.task.Branching.{Branching}
use Rattle.eval_tasks.specs.declared.task.Branching.TheVariants.{Try, Chosen, Again}
use Rattle.eval_tasks.specs.declared.task.Branching.TheVariants.{Rounds as WhileRounds}
use Rattle.eval_tasks.specs.declared.task.Task.{Task}
use Rattle.eval_tasks.specs.declared.task.Task.TheVariants.{Do, Evaluate, Follow, Locate, Select, Guards, Gather, Perform, PerformAll, Branches, Cases, Types, Return, Resume}

-- an act weighs 1; a part of the tree weighs one more than the tasks that it is made of, and rounds, which spend a turn, 1
abbrev mutual
  pub of_expr : Expr → ℕ
  of_expr (Literal n) = 1
  of_expr (Routine g) = 1
  of_expr (Load d) = 2 + of_designator d
  of_expr (Guard' _ d rs) = 3 + (of_designator d + length rs)
  of_expr (Unary' op _ x) = 2 + of_expr x
  of_expr (Chain' _ x _ links) = 1 + (of_expr x + of_links links)
  of_expr (Compare' r _ x _ y) = 2 + (of_expr x + of_expr y)
  of_expr (CompareTexts' r _ d _ e) = 4 + (of_designator d + of_designator e)
  of_expr (In' _ x _ s) = 3 + (of_expr x + of_expr s)
  of_expr (IsPointer' _ x r) = 2 + of_expr x
  of_expr (IsParameter d r) = 2 + of_designator d
  of_expr (Byte' _ x) = 2 + of_expr x
  of_expr (Length d) = 2 + of_designator d
  of_expr (Call' _ c) = of_call c

  pub of_links : {m : _} → Row_of-Link m → ℕ
  of_links end_of-Link = 1
  of_links (more_of-Link k more) = of_link k + of_links more

  pub of_link : Link → ℕ
  of_link (Operate op y) = 2 + of_expr y
  of_link (And y) = 2 + of_expr y
  of_link (Or y) = 2 + of_expr y
  of_link (Element y) = 2 + of_expr y
  of_link (Elements' _ y _ z) = 3 + (of_expr y + of_expr z)

  pub of_designator : Designator → ℕ
  of_designator (Whole b k) = 1
  of_designator (Part' _ b k _ selectors) = 1 + of_selectors selectors

  pub of_selectors : {m : _} → Row_of-Selector m → ℕ
  of_selectors end_of-Selector = 1
  of_selectors (more_of-Selector s more) = of_selector s + of_selectors more

  pub of_selector : Selector → ℕ
  of_selector (Index n k x) = 3 + of_expr x
  of_selector (Field r k) = 1
  of_selector (Dereference rs) = 4 + length rs
  of_selector (Narrow r) = 1

  pub of_call : Call → ℕ
  of_call (Direct' g _ args) = 2 + of_arguments args
  of_call (Indirect' d _ args) = 3 + (of_designator d + of_arguments args)

  pub of_argument : Argument → ℕ
  of_argument (ByValue x) = 1 + of_expr x
  of_argument (ByPlace d) = 2 + of_designator d
  of_argument (ByRecord d) = 2 + of_designator d
  of_argument (ByOpen d) = 2 + of_designator d

  pub of_arguments : {m : _} → Row_of-Argument m → ℕ
  of_arguments end_of-Argument = 1
  of_arguments (more_of-Argument x more) = of_argument x + of_arguments more

abbrev mutual
  pub of_statement : Stmt → ℕ
  of_statement (Assign d x) = 3 + (of_designator d + of_expr x.form)
  of_statement (CopyArray d e) = 4 + (of_designator d + of_designator e)
  of_statement (CopyRecord d e) = 4 + (of_designator d + of_designator e)
  of_statement (Increase d x) = 3 + (of_designator d + of_expr x.form)
  of_statement (Decrease d x) = 3 + (of_designator d + of_expr x.form)
  of_statement (Include d x) = 3 + (of_designator d + of_expr x.form)
  of_statement (Exclude d x) = 3 + (of_designator d + of_expr x.form)
  of_statement (New d) = 2 + of_designator d
  of_statement (Assert x) = 2 + of_expr x.form
  of_statement (OutChar x) = 2 + of_expr x.form
  of_statement (OutInt x n) = 3 + (of_expr x.form + of_expr n.form)
  of_statement (OutString d) = 3 + of_designator d
  of_statement OutLn = 2
  of_statement (InChar d) = 2 + of_designator d
  of_statement (Calling c) = of_call c
  of_statement (If' _ parts _ other) = 2 + (of_branches parts + of_row other)
  of_statement (While' _ parts) = 2
  of_statement (Repeat' _ body x) = 2 + of_row body
  of_statement (For' _ d x y step _ body) = 5 + (of_designator d + (of_expr x.form + of_expr y.form))
  of_statement (Case' x _ parts) = 2 + (of_expr x.form + of_case_parts parts)
  of_statement (CasePointer' x _ parts) = 2 + (of_expr x.form + of_type_parts parts)
  of_statement (CaseParameter' d _ parts) = 2 + (of_designator d + of_type_parts parts)

  pub of_row : {m : _} → Row_of-Stmt m → ℕ
  of_row end_of-Stmt = 1
  of_row (more_of-Stmt s more) = 1 + (of_statement s + of_row more)

  pub of_branches : {m : _} → Row_of-Branch m → ℕ
  of_branches end_of-Branch = 1
  of_branches (more_of-Branch x _ body more) = 3 + (of_expr x.form + (of_row body + of_branches more))

  pub of_case_parts : {m : _} → Row_of-CasePart m → ℕ
  of_case_parts end_of-CasePart = 1
  of_case_parts (more_of-CasePart labels _ body more) = 2 + (of_row body + of_case_parts more)

  pub of_type_parts : {m : _} → Row_of-TypePart m → ℕ
  of_type_parts end_of-TypePart = 1
  of_type_parts (more_of-TypePart r _ body more) = 1 + (of_row body + of_type_parts more)

-- the same of lists

abbrev pub all_links : List Link → ℕ
all_links [] = 1
all_links (l ∷ ls) = of_link l + all_links ls

abbrev pub all_selectors : List Selector → ℕ
all_selectors [] = 1
all_selectors (s ∷ ss) = of_selector s + all_selectors ss

abbrev pub all_arguments : List Argument → ℕ
all_arguments [] = 1
all_arguments (x ∷ xs) = of_argument x + all_arguments xs

abbrev pub all_statements : List Stmt → ℕ
all_statements [] = 1
all_statements (s ∷ ss) = 1 + (of_statement s + all_statements ss)

abbrev pub all_branches : List Branch → ℕ
all_branches [] = 1
all_branches (b ∷ bs) = 3 + (of_expr b.condition.form + (all_statements b.body.items + all_branches bs))

abbrev pub all_case_parts : List CasePart → ℕ
all_case_parts [] = 1
all_case_parts (c ∷ ps) = 2 + (all_statements c.body.items + all_case_parts ps)

abbrev pub all_type_parts : List TypePart → ℕ
all_type_parts [] = 1
all_type_parts (c ∷ ps) = 1 + (all_statements c.body.items + all_type_parts ps)

-- of tasks

abbrev pub of_staged : Stage → Stmt → ℕ
of_staged Begin s = of_statement s
of_staged (Rounds n) s = 1
of_staged (Behind n) (Repeat' _ body y) = 2 + of_row body
of_staged (Behind n) _ = 2

abbrev pub of_branching : Branching → List Branch → ℕ
of_branching Try bs = all_branches bs
of_branching Chosen [] = 1
of_branching Chosen (b ∷ bs) = 2 + (all_statements b.body.items + all_branches bs)
of_branching (WhileRounds n) bs = 1
of_branching (Again n) bs = 2

abbrev pub weight : Task → ℕ
weight (Do a) = 1
weight (Evaluate e) = of_expr e.now
weight (Follow ls) = all_links ls.now
weight (Locate d) = of_designator d.now
weight (Select ss) = all_selectors ss.now
weight (Guards rs) = 1 + length rs.now
weight (Gather xs) = all_arguments xs.now
weight (Perform s stage) = of_staged stage s.now
weight (PerformAll ss false) = all_statements ss.now
weight (PerformAll ss true) = 1 + all_statements ss.now
weight (Branches bs stage) = of_branching stage bs.now
weight (Cases ps) = all_case_parts ps.now
weight (Types ps typing) = 1 + all_type_parts ps.now
weight (Return old wanted) = 1
weight (Resume old) = 1

abbrev pub weights : List Task → ℕ
weights [] = 0
weights (t ∷ ts) = weight t + weights ts
