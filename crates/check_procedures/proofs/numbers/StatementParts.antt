-- What becomes of statements, from what becomes of their parts.
use Rattle.std.proofs.Common.{◌≡◌, List, ◌++◌, Vec, Box, Global, refl, sym, ap, ◌∙◌}
use Rattle.std.proofs.lemmas.List.{append-nil}
use Rattle.ob_types.specs.declared.types.TypeKind.{TypeKind}
use Rattle.ob_types.specs.declared.tree.Expr.{Expr}
use Rattle.ob_types.specs.declared.tree.Designator.{Designator}
use Rattle.ob_types.specs.declared.tree.Call.{Call}
use Rattle.ob_types.specs.declared.statements.Checked.{Checked}
use Rattle.ob_types.specs.declared.statements.Branch.{Branch, out-Branch}
use Rattle.ob_types.specs.declared.statements.CasePart.{CasePart}
use Rattle.ob_types.specs.declared.statements.TypePart.{TypePart}
use Rattle.ob_types.specs.declared.statements.ForLoop.{ForLoop, out-ForLoop}
use Rattle.ob_types.specs.declared.statements.Stmt.{Stmt}
use Rattle.ob_types.specs.declared.statements.Stmt.TheVariants as TheStmt
use Rattle.ob_judge.specs.Texts.{Strings, in_expr, in_designator, in_statements}
use Rattle.ob_judge.specs.Image as I
use Rattle.judged_tree.specs.Plain.{plain_designator, plain_checked, plain_body}
use Rattle.check_statements.proofs.trees.Rows.{if_is, while_is, repeat_is, for_is, case_is, pointer_is, parameter_is}
use Rattle.check_procedures.specs.numbers.Numbering.{Numbering, Reading, Renewed, KeepsMeaning}
use Rattle.check_procedures.specs.numbers.Readings.{each, pair, kinds, expressions, designators, calls, checked, statements, bodies, loops, branches, case_parts, type_parts}
use Rattle.check_procedures.proofs.numbers.Lists.{statements_of, statements_are, in_statements_are, branches_of, branches_are, in_branches_are, parts_of, case_parts_are, type_parts_are, in_parts_are}
use Rattle.check_procedures.proofs.numbers.Keeping.{within, joined}

module _ (n : Numbering) where
  -- what becomes of a part
  abbrev Goes : {A B : Type 0} → Reading A B → A → A → Strings → Strings → Type 0
  Goes r x y a b = KeepsMeaning r n (record { tree = x; made = y; before = a; after = b })

  abbrev part : {A : Type 0} → A → A → Strings → Strings → Renewed A
  part x y a b = record { tree = x; made = y; before = a; after = b }

  -- a whole expression
  pub whole_expression : (x y : Expr) (j k : TypeKind) (a b : Strings) → Goes expressions x y a b → Goes kinds j k b b
      → Goes checked (record { form = x; kind = j }) (record { form = y; kind = k }) a b
  whole_expression x y j k a b g h =
      joined n expressions kinds checked (λ e s. record { form = e; shape = s }) (part x y a b) (part j k b b) (record { form = x; kind = j }) (record { form = y; kind = k }) refl
      (λ v all. refl) (λ v all. refl) (λ e s. sym (append-nil (in_expr e))) g h

  -- a list of statements
  pub body : (xs ys : List Stmt) (a b : Strings) → Goes (each statements) xs ys a b → Goes bodies xs ys a b
  body xs ys a b h = within n (each statements) bodies statements_of (part xs ys a b) xs ys (λ v all. statements_are v all xs) (λ v all. statements_are v all ys) (λ ss. in_statements_are ss) h

  -- ---- statements with a designator and an expression

  abbrev Pair : (d e : Designator) (x y : Checked) (a b : Strings) → Type 0
  Pair d e x y a b = Goes (pair designators checked) (d, x) (e, y) a b

  pub assign : (d e : Designator) (x y : Checked) (a b : Strings) → Pair d e x y a b → Goes statements (TheStmt.Assign d x) (TheStmt.Assign e y) a b
  assign d e x y a b h = within n (pair designators checked) statements (λ p. I.Assign p.0 p.1) (part (d, x) (e, y) a b) (TheStmt.Assign d x) (TheStmt.Assign e y) (λ v all. refl) (λ v all. refl) (λ p. refl) h

  pub increase : (d e : Designator) (x y : Checked) (a b : Strings) → Pair d e x y a b → Goes statements (TheStmt.Increase d x) (TheStmt.Increase e y) a b
  increase d e x y a b h = within n (pair designators checked) statements (λ p. I.Increase p.0 p.1) (part (d, x) (e, y) a b) (TheStmt.Increase d x) (TheStmt.Increase e y) (λ v all. refl) (λ v all. refl) (λ p. refl) h

  pub decrease : (d e : Designator) (x y : Checked) (a b : Strings) → Pair d e x y a b → Goes statements (TheStmt.Decrease d x) (TheStmt.Decrease e y) a b
  decrease d e x y a b h = within n (pair designators checked) statements (λ p. I.Decrease p.0 p.1) (part (d, x) (e, y) a b) (TheStmt.Decrease d x) (TheStmt.Decrease e y) (λ v all. refl) (λ v all. refl) (λ p. refl) h

  pub include : (d e : Designator) (x y : Checked) (a b : Strings) → Pair d e x y a b → Goes statements (TheStmt.Include d x) (TheStmt.Include e y) a b
  include d e x y a b h = within n (pair designators checked) statements (λ p. I.Include p.0 p.1) (part (d, x) (e, y) a b) (TheStmt.Include d x) (TheStmt.Include e y) (λ v all. refl) (λ v all. refl) (λ p. refl) h

  pub exclude : (d e : Designator) (x y : Checked) (a b : Strings) → Pair d e x y a b → Goes statements (TheStmt.Exclude d x) (TheStmt.Exclude e y) a b
  exclude d e x y a b h = within n (pair designators checked) statements (λ p. I.Exclude p.0 p.1) (part (d, x) (e, y) a b) (TheStmt.Exclude d x) (TheStmt.Exclude e y) (λ v all. refl) (λ v all. refl) (λ p. refl) h

  -- ---- copies

  pub copy_array : (d e d' e' : Designator) (a b : Strings) → Goes (pair designators designators) (d, e) (d', e') a b → Goes statements (TheStmt.CopyArray d e) (TheStmt.CopyArray d' e') a b
  copy_array d e d' e' a b h =
      within n (pair designators designators) statements (λ p. I.CopyArray p.0 p.1) (part (d, e) (d', e') a b) (TheStmt.CopyArray d e) (TheStmt.CopyArray d' e') (λ v all. refl) (λ v all. refl) (λ p. refl) h

  pub copy_record : (d e d' e' : Designator) (a b : Strings) → Goes (pair designators designators) (d, e) (d', e') a b → Goes statements (TheStmt.CopyRecord d e) (TheStmt.CopyRecord d' e') a b
  copy_record d e d' e' a b h =
      within n (pair designators designators) statements (λ p. I.CopyRecord p.0 p.1) (part (d, e) (d', e') a b) (TheStmt.CopyRecord d e) (TheStmt.CopyRecord d' e') (λ v all. refl) (λ v all. refl) (λ p. refl) h

  -- ---- statements with one part

  pub new_object : (d e : Designator) (a b : Strings) → Goes designators d e a b → Goes statements (TheStmt.New d) (TheStmt.New e) a b
  new_object d e a b h = within n designators statements I.New (part d e a b) (TheStmt.New d) (TheStmt.New e) (λ v all. refl) (λ v all. refl) (λ p. refl) h

  pub out_string : (d e : Designator) (a b : Strings) → Goes designators d e a b → Goes statements (TheStmt.OutString d) (TheStmt.OutString e) a b
  out_string d e a b h = within n designators statements I.OutString (part d e a b) (TheStmt.OutString d) (TheStmt.OutString e) (λ v all. refl) (λ v all. refl) (λ p. refl) h

  pub in_char : (d e : Designator) (a b : Strings) → Goes designators d e a b → Goes statements (TheStmt.InChar d) (TheStmt.InChar e) a b
  in_char d e a b h = within n designators statements I.InChar (part d e a b) (TheStmt.InChar d) (TheStmt.InChar e) (λ v all. refl) (λ v all. refl) (λ p. refl) h

  pub assert : (x y : Checked) (a b : Strings) → Goes checked x y a b → Goes statements (TheStmt.Assert x) (TheStmt.Assert y) a b
  assert x y a b h = within n checked statements I.Assert (part x y a b) (TheStmt.Assert x) (TheStmt.Assert y) (λ v all. refl) (λ v all. refl) (λ p. refl) h

  pub out_char : (x y : Checked) (a b : Strings) → Goes checked x y a b → Goes statements (TheStmt.OutChar x) (TheStmt.OutChar y) a b
  out_char x y a b h = within n checked statements I.OutChar (part x y a b) (TheStmt.OutChar x) (TheStmt.OutChar y) (λ v all. refl) (λ v all. refl) (λ p. refl) h

  pub invoke : (x y : Call) (a b : Strings) → Goes calls x y a b → Goes statements (TheStmt.Call x) (TheStmt.Call y) a b
  invoke x y a b h = within n calls statements I.Invoke (part x y a b) (TheStmt.Call x) (TheStmt.Call y) (λ v all. refl) (λ v all. refl) (λ p. refl) h

  pub out_int : (x y x' y' : Checked) (a b c : Strings) → Goes checked x x' a b → Goes checked y y' b c → Goes statements (TheStmt.OutInt x y) (TheStmt.OutInt x' y') a c
  out_int x y x' y' a b c g h =
      joined n checked checked statements I.OutInt (part x x' a b) (part y y' b c) (TheStmt.OutInt x y) (TheStmt.OutInt x' y') refl (λ v all. refl) (λ v all. refl) (λ p q. refl) g h

  -- ---- statements with statements in them

  pub branch : (x y : Branch) (a b c : Strings) → Goes checked (out-Branch x).condition (out-Branch y).condition a b → Goes bodies (out-Branch x).body.items (out-Branch y).body.items b c
      → Goes branches x y a c
  branch x y a b c g h =
      joined n checked bodies branches (λ when done. record { condition = when; body = done }) (part (out-Branch x).condition (out-Branch y).condition a b) (part (out-Branch x).body.items (out-Branch y).body.items b c) x y refl
      (λ v all. refl) (λ v all. refl) (λ when done. refl) g h

  pub if_holds : (ps qs : Vec Branch Global) (ss ts : Vec Stmt Global) (a b c : Strings) → Goes (each branches) ps.items qs.items a b → Goes bodies ss.items ts.items b c
      → Goes statements (TheStmt.If ps ss) (TheStmt.If qs ts) a c
  if_holds ps qs ss ts a b c g h =
      joined n (each branches) bodies statements (λ xs ys. I.If (branches_of xs) ys) (part ps.items qs.items a b) (part ss.items ts.items b c) (TheStmt.If ps ss) (TheStmt.If qs ts) refl
      (λ v all. if_is v all ps ss ∙ ap (λ xs. I.If xs (plain_body v all ss.items)) (branches_are v all ps.items))
      (λ v all. if_is v all qs ts ∙ ap (λ xs. I.If xs (plain_body v all ts.items)) (branches_are v all qs.items))
      (λ xs ys. ap (λ l. l ++ in_statements ys) (in_branches_are xs)) g h

  pub while_holds : (ps qs : Vec Branch Global) (a b : Strings) → Goes (each branches) ps.items qs.items a b → Goes statements (TheStmt.While ps) (TheStmt.While qs) a b
  while_holds ps qs a b h =
      within n (each branches) statements (λ xs. I.While (branches_of xs)) (part ps.items qs.items a b) (TheStmt.While ps) (TheStmt.While qs)
      (λ v all. while_is v all ps ∙ ap I.While (branches_are v all ps.items)) (λ v all. while_is v all qs ∙ ap I.While (branches_are v all qs.items)) (λ xs. in_branches_are xs) h

  pub repeat_until : (ss ts : Vec Stmt Global) (x y : Checked) (a b c : Strings) → Goes bodies ss.items ts.items a b → Goes checked x y b c
      → Goes statements (TheStmt.Repeat ss x) (TheStmt.Repeat ts y) a c
  repeat_until ss ts x y a b c g h =
      joined n bodies checked statements I.Repeat (part ss.items ts.items a b) (part x y b c) (TheStmt.Repeat ss x) (TheStmt.Repeat ts y) refl
      (λ v all. repeat_is v all ss x) (λ v all. repeat_is v all ts y) (λ p q. refl) g h

  -- FOR: its parts, and then the statement
  pub loop_turns : (x y : ForLoop) (a b c : Strings) → (out-ForLoop y).step ≡ (out-ForLoop x).step
      → Goes (pair (pair designators checked) checked) (((out-ForLoop x).variable, (out-ForLoop x).first), (out-ForLoop x).limit) (((out-ForLoop y).variable, (out-ForLoop y).first), (out-ForLoop y).limit) a b
      → Goes bodies (out-ForLoop x).body.items (out-ForLoop y).body.items b c → Goes loops x y a c
  loop_turns x y a b c same g h =
      joined n (pair (pair designators checked) checked) bodies loops (λ p q. I.For p.0.0 p.0.1 p.1 (out-ForLoop x).step q)
      (part (((out-ForLoop x).variable, (out-ForLoop x).first), (out-ForLoop x).limit) (((out-ForLoop y).variable, (out-ForLoop y).first), (out-ForLoop y).limit) a b)
      (part (out-ForLoop x).body.items (out-ForLoop y).body.items b c) x y refl
      (λ v all. refl)
      (λ v all. ap (λ k. I.For (plain_designator v all (out-ForLoop y).variable) (plain_checked v all (out-ForLoop y).first) (plain_checked v all (out-ForLoop y).limit) k (plain_body v all (out-ForLoop y).body.items)) same)
      (λ p q. refl) g h

  pub for_turns : (f g : Box ForLoop Global) (a b : Strings) → Goes loops f.value g.value a b → Goes statements (TheStmt.For f) (TheStmt.For g) a b
  for_turns f g a b h = within n loops statements (λ s. s) (part f.value g.value a b) (TheStmt.For f) (TheStmt.For g) (λ v all. for_is v all f) (λ v all. for_is v all g) (λ s. refl) h

  pub case_value : (x y : Checked) (ps qs : Vec CasePart Global) (a b c : Strings) → Goes checked x y a b → Goes (each case_parts) ps.items qs.items b c
      → Goes statements (TheStmt.Case x ps) (TheStmt.Case y qs) a c
  case_value x y ps qs a b c g h =
      joined n checked (each case_parts) statements (λ p xs. I.Case p (parts_of xs)) (part x y a b) (part ps.items qs.items b c) (TheStmt.Case x ps) (TheStmt.Case y qs) refl
      (λ v all. case_is v all x ps ∙ ap (I.Case (plain_checked v all x)) (case_parts_are v all ps.items))
      (λ v all. case_is v all y qs ∙ ap (I.Case (plain_checked v all y)) (case_parts_are v all qs.items))
      (λ p xs. ap (λ l. in_expr p.form ++ l) (in_parts_are xs)) g h

  pub case_pointer : (x y : Checked) (ps qs : Vec TypePart Global) (a b c : Strings) → Goes checked x y a b → Goes (each type_parts) ps.items qs.items b c
      → Goes statements (TheStmt.CasePointer x ps) (TheStmt.CasePointer y qs) a c
  case_pointer x y ps qs a b c g h =
      joined n checked (each type_parts) statements (λ p xs. I.CasePointer p (parts_of xs)) (part x y a b) (part ps.items qs.items b c) (TheStmt.CasePointer x ps) (TheStmt.CasePointer y qs) refl
      (λ v all. pointer_is v all x ps ∙ ap (I.CasePointer (plain_checked v all x)) (type_parts_are v all ps.items))
      (λ v all. pointer_is v all y qs ∙ ap (I.CasePointer (plain_checked v all y)) (type_parts_are v all qs.items))
      (λ p xs. ap (λ l. in_expr p.form ++ l) (in_parts_are xs)) g h

  pub case_parameter : (d e : Designator) (ps qs : Vec TypePart Global) (a b c : Strings) → Goes designators d e a b → Goes (each type_parts) ps.items qs.items b c
      → Goes statements (TheStmt.CaseParameter d ps) (TheStmt.CaseParameter e qs) a c
  case_parameter d e ps qs a b c g h =
      joined n designators (each type_parts) statements (λ p xs. I.CaseParameter p (parts_of xs)) (part d e a b) (part ps.items qs.items b c) (TheStmt.CaseParameter d ps) (TheStmt.CaseParameter e qs) refl
      (λ v all. parameter_is v all d ps ∙ ap (I.CaseParameter (plain_designator v all d)) (type_parts_are v all ps.items))
      (λ v all. parameter_is v all e qs ∙ ap (I.CaseParameter (plain_designator v all e)) (type_parts_are v all qs.items))
      (λ p xs. ap (λ l. in_designator p ++ l) (in_parts_are xs)) g h
