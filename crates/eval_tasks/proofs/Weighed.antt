-- The weight of a row of the tree is that of its list.
use Rattle.std.proofs.Common.{◌≡◌, ℕ, ◌+◌, Vec, Box, Global, refl, ap, ap₂, ◌∙◌, sym}
use mathlib.Core.Former.{Count}
use Rattle.ob_types.specs.declared.tree.Expr.{Expr, Chain, Chain', Row_of-Link, end_of-Link, more_of-Link, items-the_row-Link, items_hidden-the_row-Link-2}
use Rattle.ob_types.specs.declared.tree.Designator.{Designator, Part, Part', Row_of-Selector, end_of-Selector, more_of-Selector, items-the_row-Selector, items_hidden-the_row-Selector-1}
use Rattle.ob_types.specs.declared.tree.Access.{Access}
use Rattle.ob_types.specs.declared.tree.Argument.{Argument}
use Rattle.ob_types.specs.declared.tree.Call.{Call, Direct, Direct', Indirect, Indirect', Row_of-Argument, end_of-Argument, more_of-Argument, items-the_row-Argument, items_hidden-the_row-Argument-0}
use Rattle.ob_types.specs.declared.statements.Checked.{Checked}
use Rattle.ob_types.specs.declared.statements.Branch.{Branch}
use Rattle.ob_types.specs.declared.statements.CasePart.{CasePart}
use Rattle.ob_types.specs.declared.statements.TypePart.{TypePart}
use Rattle.ob_types.specs.declared.statements.Stmt.{Stmt, If, If', While', Repeat, Repeat', For', Case, Case', CasePointer, CasePointer', CaseParameter, CaseParameter', Row_of-Stmt, end_of-Stmt, more_of-Stmt, items-the_row-Stmt, Row_of-Branch, end_of-Branch, more_of-Branch, items-the_row-Branch, Row_of-CasePart, end_of-CasePart, more_of-CasePart, items-the_row-CasePart, Row_of-TypePart, end_of-TypePart, more_of-TypePart, items-the_row-TypePart, items_hidden-the_row-Stmt-0, items_hidden-the_row-Branch-1, items_shown-the_row-Stmt-0, items_hidden-the_row-CasePart-2, items_hidden-the_row-TypePart-3}
use Rattle.eval_tasks.specs.Weights.{of_expr, of_links, of_link, of_designator, of_selectors, of_selector, of_arguments, of_argument, of_call, of_statement, of_row, of_branches, of_case_parts, of_type_parts, all_links, all_selectors, all_arguments, all_statements, all_branches, all_case_parts, all_type_parts}

links_row : (m : _) (row : Row_of-Link m) → of_links row ≡ all_links (items-the_row-Link m row)
links_row m end_of-Link = refl
links_row m (more_of-Link l rest) = ap (λ n. of_link l + n) (links_row _ rest)

selectors_row : (m : _) (row : Row_of-Selector m) → of_selectors row ≡ all_selectors (items-the_row-Selector m row)
selectors_row m end_of-Selector = refl
selectors_row m (more_of-Selector s rest) = ap (λ n. of_selector s + n) (selectors_row _ rest)

arguments_row : (m : _) (row : Row_of-Argument m) → of_arguments row ≡ all_arguments (items-the_row-Argument m row)
arguments_row m end_of-Argument = refl
arguments_row m (more_of-Argument a rest) = ap (λ n. of_argument a + n) (arguments_row _ rest)

statements_row : (m : _) (row : Row_of-Stmt m) → of_row row ≡ all_statements (items-the_row-Stmt m row)
statements_row m end_of-Stmt = refl
statements_row m (more_of-Stmt s rest) = ap (λ n. 1 + (of_statement s + n)) (statements_row _ rest)

branches_row : (m : _) (row : Row_of-Branch m) → of_branches row ≡ all_branches (items-the_row-Branch m row)
branches_row m end_of-Branch = refl
branches_row m (more_of-Branch c s body rest) = ap₂ (λ b n. 3 + (of_expr c.form + (b + n))) (statements_row _ body ∙ sym (ap all_statements (items_shown-the_row-Stmt-0 s body))) (branches_row _ rest)

cases_row : (m : _) (row : Row_of-CasePart m) → of_case_parts row ≡ all_case_parts (items-the_row-CasePart m row)
cases_row m end_of-CasePart = refl
cases_row m (more_of-CasePart c s body rest) = ap₂ (λ b n. 2 + (b + n)) (statements_row _ body ∙ sym (ap all_statements (items_shown-the_row-Stmt-0 s body))) (cases_row _ rest)

types_row : (m : _) (row : Row_of-TypePart m) → of_type_parts row ≡ all_type_parts (items-the_row-TypePart m row)
types_row m end_of-TypePart = refl
types_row m (more_of-TypePart c s body rest) = ap₂ (λ b n. 1 + (b + n)) (statements_row _ body ∙ sym (ap all_statements (items_shown-the_row-Stmt-0 s body))) (types_row _ rest)

abbrev links_of : Expr → (n : Count) × Row_of-Link n
links_of (Chain' _ x _ row) = (_, row)
links_of _ = (_, end_of-Link)

abbrev selectors_of : Designator → (n : Count) × Row_of-Selector n
selectors_of (Part' _ b k _ row) = (_, row)
selectors_of _ = (_, end_of-Selector)

abbrev arguments_of : Call → (n : Count) × Row_of-Argument n
arguments_of (Direct' g _ row) = (_, row)
arguments_of (Indirect' d _ row) = (_, row)

abbrev body_of : Stmt → (n : Count) × Row_of-Stmt n
body_of (If' _ parts _ other) = (_, other)
body_of (Repeat' _ body x) = (_, body)
body_of (For' _ d x y step _ body) = (_, body)
body_of _ = (_, end_of-Stmt)

abbrev parts_of : Stmt → (n : Count) × Row_of-Branch n
parts_of (If' _ parts _ other) = (_, parts)
parts_of (While' _ parts) = (_, parts)
parts_of _ = (_, end_of-Branch)

abbrev cases_of : Stmt → (n : Count) × Row_of-CasePart n
cases_of (Case' x _ parts) = (_, parts)
cases_of _ = (_, end_of-CasePart)

abbrev types_of : Stmt → (n : Count) × Row_of-TypePart n
types_of (CasePointer' x _ parts) = (_, parts)
types_of (CaseParameter' d _ parts) = (_, parts)
types_of _ = (_, end_of-TypePart)

pub of_chain : (e : Box Expr Global) (ks : Vec _ Global) → of_expr (Chain e ks) ≡ 1 + (of_expr e.value + all_links ks.items)
of_chain e ks =
    let r = links_of (Chain e ks) in
    ap (λ n. 1 + (of_expr e.value + n)) (links_row r.0 r.1 ∙ ap all_links (items_hidden-the_row-Link-2 ks))

pub of_part : (a : Box Access Global) → of_designator (Part a) ≡ 1 + all_selectors a.value.selectors.items
of_part a =
    let r = selectors_of (Part a) in
    ap (λ n. 1 + n) (selectors_row r.0 r.1 ∙ ap all_selectors (items_hidden-the_row-Selector-1 a.value.selectors))

pub of_direct : (g : ℕ) (xs : Vec Argument Global) → of_call (Direct g xs) ≡ 2 + all_arguments xs.items
of_direct g xs = let r = arguments_of (Direct g xs) in ap (λ n. 2 + n) (arguments_row r.0 r.1 ∙ ap all_arguments (items_hidden-the_row-Argument-0 xs))

pub of_indirect : (d : Designator) (xs : Vec Argument Global) → of_call (Indirect d xs) ≡ 3 + (of_designator d + all_arguments xs.items)
of_indirect d xs = let r = arguments_of (Indirect d xs) in ap (λ n. 3 + (of_designator d + n)) (arguments_row r.0 r.1 ∙ ap all_arguments (items_hidden-the_row-Argument-0 xs))

pub of_if : (ps : Vec Branch Global) (ss : Vec Stmt Global) → of_statement (If ps ss) ≡ 2 + (all_branches ps.items + all_statements ss.items)
of_if ps ss =
    let r = parts_of (If ps ss) in
    let o = body_of (If ps ss) in
    ap₂ (λ a b. 2 + (a + b)) (branches_row r.0 r.1 ∙ ap all_branches (items_hidden-the_row-Branch-1 ps)) (statements_row o.0 o.1 ∙ ap all_statements (items_hidden-the_row-Stmt-0 ss))

pub of_case : (e : Checked) (ps : Vec CasePart Global) → of_statement (Case e ps) ≡ 2 + (of_expr e.form + all_case_parts ps.items)
of_case e ps = let r = cases_of (Case e ps) in ap (λ n. 2 + (of_expr e.form + n)) (cases_row r.0 r.1 ∙ ap all_case_parts (items_hidden-the_row-CasePart-2 ps))

pub of_repeat : (body : Vec Stmt Global) (e : Checked) → of_statement (Repeat body e) ≡ 2 + all_statements body.items
of_repeat body e = let r = body_of (Repeat body e) in ap (λ n. 2 + n) (statements_row r.0 r.1 ∙ ap all_statements (items_hidden-the_row-Stmt-0 body))

pub of_case_pointer : (e : Checked) (ps : Vec TypePart Global) → of_statement (CasePointer e ps) ≡ 2 + (of_expr e.form + all_type_parts ps.items)
of_case_pointer e ps = let r = types_of (CasePointer e ps) in ap (λ n. 2 + (of_expr e.form + n)) (types_row r.0 r.1 ∙ ap all_type_parts (items_hidden-the_row-TypePart-3 ps))

pub of_case_parameter : (d : Designator) (ps : Vec TypePart Global) → of_statement (CaseParameter d ps) ≡ 2 + (of_designator d + all_type_parts ps.items)
of_case_parameter d ps = let r = types_of (CaseParameter d ps) in ap (λ n. 2 + (of_designator d + n)) (types_row r.0 r.1 ∙ ap all_type_parts (items_hidden-the_row-TypePart-3 ps))
