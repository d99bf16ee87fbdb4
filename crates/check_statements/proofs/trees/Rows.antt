-- The lists of statements and parts that code makes, against the rows that trees have.
use Rattle.std.proofs.Common.{◌≡◌, ℕ, List, [], ◌∷◌, ◌++◌, Vec, Box, Global, refl, sym, ap, ap₂, ◌∙◌}
use mathlib.Core.Former.{Count}
use Rattle.ob_types.specs.Table.{Table}
use Rattle.ob_types.specs.declared.tree.Designator.{Designator}
use Rattle.ob_types.specs.declared.statements.Checked.{Checked}
use Rattle.ob_types.specs.declared.statements.Branch.{Branch, out-Branch}
use Rattle.ob_types.specs.declared.statements.CasePart.{CasePart, out-CasePart}
use Rattle.ob_types.specs.declared.statements.TypePart.{TypePart, out-TypePart}
use Rattle.ob_types.specs.declared.statements.ForLoop.{ForLoop}
use Rattle.ob_types.specs.declared.statements.Stmt.{Stmt, If, If', While, While', Repeat, Repeat', For, For', Case, Case', CasePointer, CasePointer', CaseParameter, CaseParameter', Row_of-Stmt, end_of-Stmt, more_of-Stmt, items-the_row-Stmt, Row_of-Branch, end_of-Branch, more_of-Branch, items-the_row-Branch, Row_of-CasePart, end_of-CasePart, more_of-CasePart, items-the_row-CasePart, Row_of-TypePart, end_of-TypePart, more_of-TypePart, items-the_row-TypePart, items_hidden-the_row-Stmt-0, items_hidden-the_row-Branch-1, items_shown-the_row-Stmt-0, items_hidden-the_row-CasePart-2, items_hidden-the_row-TypePart-3}
use Rattle.ob_judge.specs.Image as I
use Rattle.judged_tree.specs.Plain.{plain_designator, plain_checked, plain_statement, plain_statements, plain_branches, plain_case_parts, plain_type_parts, plain_body}
use Rattle.check_statements.specs.trees.Onto.{statements_onto, branches_onto, case_parts_onto, type_parts_onto}

abbrev body_of : Stmt → (n : Count) × Row_of-Stmt n
body_of (If' _ parts _ other) = (_, other)
body_of (Repeat' _ body x) = (_, body)
body_of (For' _ d x y step _ body) = (_, body)
body_of _ = (_, end_of-Stmt)

abbrev branches_of : Stmt → (n : Count) × Row_of-Branch n
branches_of (If' _ parts _ other) = (_, parts)
branches_of (While' _ parts) = (_, parts)
branches_of _ = (_, end_of-Branch)

abbrev cases_of : Stmt → (n : Count) × Row_of-CasePart n
cases_of (Case' x _ parts) = (_, parts)
cases_of _ = (_, end_of-CasePart)

abbrev types_of : Stmt → (n : Count) × Row_of-TypePart n
types_of (CasePointer' x _ parts) = (_, parts)
types_of (CaseParameter' d _ parts) = (_, parts)
types_of _ = (_, end_of-TypePart)

module _ (t : Table) (texts : List (List ℕ)) where
  -- ---- rows

  body_row : (m : _) (row : Row_of-Stmt m) → plain_statements t texts row ≡ plain_body t texts (items-the_row-Stmt m row)
  body_row m end_of-Stmt = refl
  body_row m (more_of-Stmt s rest) = ap (I.next_statement (plain_statement t texts s)) (body_row _ rest)

  branch_row : (m : _) (row : Row_of-Branch m) → plain_branches t texts row ≡ branches_onto t texts (items-the_row-Branch m row) I.no_branch
  branch_row m end_of-Branch = refl
  branch_row m (more_of-Branch c s body rest) = ap₂ (I.next_branch (plain_checked t texts c)) (body_row _ body ∙ sym (ap (λ l. plain_body t texts l) (items_shown-the_row-Stmt-0 s body))) (branch_row _ rest)

  case_row : (m : _) (row : Row_of-CasePart m) → plain_case_parts t texts row ≡ case_parts_onto t texts (items-the_row-CasePart m row) I.no_part
  case_row m end_of-CasePart = refl
  case_row m (more_of-CasePart labels s body rest) = ap₂ (I.next_part (I.Labels labels)) (body_row _ body ∙ sym (ap (λ l. plain_body t texts l) (items_shown-the_row-Stmt-0 s body))) (case_row _ rest)

  type_row : (m : _) (row : Row_of-TypePart m) → plain_type_parts t texts row ≡ type_parts_onto t texts (items-the_row-TypePart m row) I.no_part
  type_row m end_of-TypePart = refl
  type_row m (more_of-TypePart r s body rest) = ap₂ (I.next_part (I.Extends r)) (body_row _ body ∙ sym (ap (λ l. plain_body t texts l) (items_shown-the_row-Stmt-0 s body))) (type_row _ rest)

  -- ---- statements

  pub if_is : (ps : Vec Branch Global) (ss : Vec Stmt Global) → plain_statement t texts (If ps ss) ≡ I.If (branches_onto t texts ps.items I.no_branch) (plain_body t texts ss.items)
  if_is ps ss =
      let r = branches_of (If ps ss) in
      let o = body_of (If ps ss) in
      ap₂ I.If (branch_row r.0 r.1 ∙ ap (λ l. branches_onto t texts l I.no_branch) (items_hidden-the_row-Branch-1 ps)) (body_row o.0 o.1 ∙ ap (plain_body t texts) (items_hidden-the_row-Stmt-0 ss))

  pub while_is : (ps : Vec Branch Global) → plain_statement t texts (While ps) ≡ I.While (branches_onto t texts ps.items I.no_branch)
  while_is ps = let r = branches_of (While ps) in ap I.While (branch_row r.0 r.1 ∙ ap (λ l. branches_onto t texts l I.no_branch) (items_hidden-the_row-Branch-1 ps))

  pub repeat_is : (ss : Vec Stmt Global) (x : Checked) → plain_statement t texts (Repeat ss x) ≡ I.Repeat (plain_body t texts ss.items) (plain_checked t texts x)
  repeat_is ss x = let r = body_of (Repeat ss x) in ap (λ b. I.Repeat b (plain_checked t texts x)) (body_row r.0 r.1 ∙ ap (plain_body t texts) (items_hidden-the_row-Stmt-0 ss))

  pub for_is : (f : Box ForLoop Global) →
      plain_statement t texts (For f) ≡ I.For (plain_designator t texts f.value.variable) (plain_checked t texts f.value.first) (plain_checked t texts f.value.limit) f.value.step (plain_body t texts f.value.body.items)
  for_is f =
      let r = body_of (For f) in
      ap (I.For (plain_designator t texts f.value.variable) (plain_checked t texts f.value.first) (plain_checked t texts f.value.limit) f.value.step) (body_row r.0 r.1 ∙ ap (plain_body t texts) (items_hidden-the_row-Stmt-0 f.value.body))

  pub case_is : (x : Checked) (ps : Vec CasePart Global) → plain_statement t texts (Case x ps) ≡ I.Case (plain_checked t texts x) (case_parts_onto t texts ps.items I.no_part)
  case_is x ps = let r = cases_of (Case x ps) in ap (I.Case (plain_checked t texts x)) (case_row r.0 r.1 ∙ ap (λ l. case_parts_onto t texts l I.no_part) (items_hidden-the_row-CasePart-2 ps))

  pub pointer_is : (x : Checked) (ps : Vec TypePart Global) → plain_statement t texts (CasePointer x ps) ≡ I.CasePointer (plain_checked t texts x) (type_parts_onto t texts ps.items I.no_part)
  pointer_is x ps = let r = types_of (CasePointer x ps) in ap (I.CasePointer (plain_checked t texts x)) (type_row r.0 r.1 ∙ ap (λ l. type_parts_onto t texts l I.no_part) (items_hidden-the_row-TypePart-3 ps))

  pub parameter_is : (d : Designator) (ps : Vec TypePart Global) → plain_statement t texts (CaseParameter d ps) ≡ I.CaseParameter (plain_designator t texts d) (type_parts_onto t texts ps.items I.no_part)
  parameter_is d ps = let r = types_of (CaseParameter d ps) in ap (I.CaseParameter (plain_designator t texts d)) (type_row r.0 r.1 ∙ ap (λ l. type_parts_onto t texts l I.no_part) (items_hidden-the_row-TypePart-3 ps))

  -- ---- one more

  pub statements_more : (ss : List Stmt) (s : Stmt) (rest : I.Statements) → statements_onto t texts (ss ++ s ∷ []) rest ≡ statements_onto t texts ss (I.next_statement (plain_statement t texts s) rest)
  statements_more [] s rest = refl
  statements_more (x ∷ ss) s rest = ap (I.next_statement (plain_statement t texts x)) (statements_more ss s rest)

  pub statements_all : (ss : List Stmt) → statements_onto t texts ss I.no_statement ≡ plain_body t texts ss
  statements_all [] = refl
  statements_all (x ∷ ss) = ap (I.next_statement (plain_statement t texts x)) (statements_all ss)

  pub branches_more : (bs : List Branch) (b : Branch) (rest : I.Branches) → branches_onto t texts (bs ++ b ∷ []) rest ≡ branches_onto t texts bs (branches_onto t texts (b ∷ []) rest)
  branches_more [] b rest = refl
  branches_more (x ∷ bs) b rest = ap (I.next_branch (plain_checked t texts (out-Branch x).condition) (plain_body t texts (out-Branch x).body.items)) (branches_more bs b rest)

  pub case_parts_more : (ps : List CasePart) (p : CasePart) (rest : I.Parts) → case_parts_onto t texts (ps ++ p ∷ []) rest ≡ case_parts_onto t texts ps (case_parts_onto t texts (p ∷ []) rest)
  case_parts_more [] p rest = refl
  case_parts_more (x ∷ ps) p rest = ap (I.next_part (I.Labels (out-CasePart x).labels) (plain_body t texts (out-CasePart x).body.items)) (case_parts_more ps p rest)

  pub type_parts_more : (ps : List TypePart) (p : TypePart) (rest : I.Parts) → type_parts_onto t texts (ps ++ p ∷ []) rest ≡ type_parts_onto t texts ps (type_parts_onto t texts (p ∷ []) rest)
  type_parts_more [] p rest = refl
  type_parts_more (x ∷ ps) p rest = ap (I.next_part (I.Extends (out-TypePart x).record) (plain_body t texts (out-TypePart x).body.items)) (type_parts_more ps p rest)
