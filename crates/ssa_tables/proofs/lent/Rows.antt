-- What is said of a row of the tree is said of its list.
use Rattle.std.proofs.Common.{◌≡◌, ℕ, Vec, Box, Global, List, [], ◌∷◌, false, ◌||◌, refl, ap, ap₂, ◌∙◌, sym}
use mathlib.Core.Former.{Count}
use Rattle.ob_types.specs.declared.tree.Base.{Base}
use Rattle.ob_types.specs.declared.tree.Expr.{Expr, Chain, Chain', Row_of-Link, end_of-Link, more_of-Link, items-the_row-Link, items_hidden-the_row-Link-2}
use Rattle.ob_types.specs.declared.tree.Link.{Link}
use Rattle.ob_types.specs.declared.tree.Selector.{Selector, Index, Field, Dereference, Narrow}
use Rattle.ob_types.specs.declared.tree.Designator.{Designator, Part, Part', Row_of-Selector, end_of-Selector, more_of-Selector, items-the_row-Selector, items_hidden-the_row-Selector-1}
use Rattle.ob_types.specs.declared.tree.Access.{Access}
use Rattle.ob_types.specs.declared.tree.Argument.{Argument}
use Rattle.ob_types.specs.declared.tree.Call.{Call, Direct, Direct', Indirect, Indirect', Row_of-Argument, end_of-Argument, more_of-Argument, items-the_row-Argument, items_hidden-the_row-Argument-0}
use Rattle.ob_types.specs.declared.statements.Checked.{Checked}
use Rattle.ob_types.specs.declared.statements.Branch.{Branch}
use Rattle.ob_types.specs.declared.statements.CasePart.{CasePart}
use Rattle.ob_types.specs.declared.statements.TypePart.{TypePart}
use Rattle.ob_types.specs.declared.statements.ForLoop.{ForLoop}
use Rattle.ob_types.specs.declared.statements.Stmt.{Stmt, If, If', While, While', Repeat, Repeat', For, For', Case, Case', CasePointer, CasePointer', CaseParameter, CaseParameter', Row_of-Stmt, end_of-Stmt, more_of-Stmt, items-the_row-Stmt, Row_of-Branch, end_of-Branch, more_of-Branch, items-the_row-Branch, Row_of-CasePart, end_of-CasePart, more_of-CasePart, items-the_row-CasePart, Row_of-TypePart, end_of-TypePart, more_of-TypePart, items-the_row-TypePart, items_hidden-the_row-Stmt-0, items_hidden-the_row-Branch-1, items_shown-the_row-Stmt-0, items_hidden-the_row-CasePart-2, items_hidden-the_row-TypePart-3}
use Rattle.ssa_assigned.specs.Assigned.{unselected_by}
use Rattle.ssa_assigned.proofs.Noting.{or_assoc}
use Rattle.ssa_assigned.proofs.Rows.{unselected_part}
use Rattle.ssa_lowered.specs.Variables.{none, origin, lent, lent_links, lent_link, lent_at, lent_whole, lent_by_first, lent_selectors, lent_selector, lent_call, lent_in, lent_as, lent_by, lent_by_all, lent_by_branches, lent_by_case_parts, lent_by_type_parts, lent_by_list}
use Rattle.ssa_tables.specs.lent.Lent.{lent_by_links, lent_by_selectors, lent_by_part, lent_by_arguments, lent_by_statements, lent_by_parts, lent_by_cases, lent_by_types}

---- Expressions

links_row : (m : _) (row : Row_of-Link m) (x : ℕ) → lent_links row x ≡ lent_by_links (items-the_row-Link m row) x
links_row m end_of-Link x = refl
links_row m (more_of-Link k rest) x = ap (λ b. lent_link k x || b) (links_row _ rest x)

not_first : (s : Selector) (x : ℕ) → lent_by_first none s x ≡ false
not_first (Index n k e) x = refl
not_first (Field r f) x = refl
not_first (Dereference rs) x = refl
not_first (Narrow r) x = refl

inner_row : (m : _) (row : Row_of-Selector m) (x : ℕ) → lent_selectors none row x ≡ lent_by_selectors (items-the_row-Selector m row) x
inner_row m end_of-Selector x = refl
inner_row m (more_of-Selector s rest) x = ap₂ (λ a b. a || (lent_selector s x || b)) (not_first s x) (inner_row _ rest x)

selectors_row : (m : _) (row : Row_of-Selector m) (at : Base) (x : ℕ) → lent_selectors (origin at) row x ≡ lent_by_part at (items-the_row-Selector m row) x
selectors_row m end_of-Selector at x = refl
selectors_row m (more_of-Selector s rest) at x = ap (λ b. lent_by_first (origin at) s x || (lent_selector s x || b)) (inner_row _ rest x)

arguments_row : (m : _) (row : Row_of-Argument m) (x : ℕ) → lent_in row x ≡ lent_by_arguments (items-the_row-Argument m row) x
arguments_row m end_of-Argument x = refl
arguments_row m (more_of-Argument a rest) x = ap (λ b. lent_as a x || b) (arguments_row _ rest x)

abbrev links_of : Expr → (n : Count) × Row_of-Link n
links_of (Chain' _ x _ row) = (_, row)
links_of _ = (_, end_of-Link)

abbrev selectors_of : Designator → (n : Count) × Row_of-Selector n
selectors_of (Part' _ b k _ row) = (_, row)
selectors_of _ = (_, end_of-Selector)

abbrev arguments_of : Call → (n : Count) × Row_of-Argument n
arguments_of (Direct' g _ row) = (_, row)
arguments_of (Indirect' d _ row) = (_, row)

pub lent_chain : (e : Box Expr Global) (ks : Vec Link Global) (x : ℕ) → lent (Chain e ks) x ≡ lent e.value x || lent_by_links ks.items x
lent_chain e ks x =
    let r = links_of (Chain e ks) in
    ap (λ b. lent e.value x || b) (links_row r.0 r.1 x ∙ ap (λ l. lent_by_links l x) (items_hidden-the_row-Link-2 ks))

pub read_part : (a : Box Access Global) (x : ℕ) → lent_at (Part a) x ≡ lent_by_part a.value.base a.value.selectors.items x
read_part a x =
    let r = selectors_of (Part a) in
    selectors_row r.0 r.1 a.value.base x ∙ ap (λ l. lent_by_part a.value.base l x) (items_hidden-the_row-Selector-1 a.value.selectors)

pub whole_part : (a : Box Access Global) (x : ℕ) → lent_whole (Part a) x ≡ unselected_by (origin a.value.base) a.value.selectors.items x || lent_by_part a.value.base a.value.selectors.items x
whole_part a x = ap₂ (λ b l. b || l) (unselected_part a x) (read_part a x)

pub lent_direct : (g : ℕ) (args : Vec Argument Global) (x : ℕ) → lent_call (Direct g args) x ≡ lent_by_arguments args.items x
lent_direct g args x = let r = arguments_of (Direct g args) in arguments_row r.0 r.1 x ∙ ap (λ l. lent_by_arguments l x) (items_hidden-the_row-Argument-0 args)

pub lent_indirect : (d : Designator) (args : Vec Argument Global) (x : ℕ) → lent_call (Indirect d args) x ≡ lent_at d x || lent_by_arguments args.items x
lent_indirect d args x =
    let r = arguments_of (Indirect d args) in
    ap (λ b. lent_at d x || b) (arguments_row r.0 r.1 x ∙ ap (λ l. lent_by_arguments l x) (items_hidden-the_row-Argument-0 args))

---- Statements

statements_row : (m : _) (row : Row_of-Stmt m) (x : ℕ) → lent_by_all row x ≡ lent_by_statements (items-the_row-Stmt m row) x
statements_row m end_of-Stmt x = refl
statements_row m (more_of-Stmt s rest) x = ap (λ b. lent_by s x || b) (statements_row _ rest x)

branches_row : (m : _) (row : Row_of-Branch m) (x : ℕ) → lent_by_branches row x ≡ lent_by_parts (items-the_row-Branch m row) x
branches_row m end_of-Branch x = refl
branches_row m (more_of-Branch c s body rest) x =
    ap₂ (λ a b. lent c.form x || (a || b)) (statements_row _ body x ∙ sym (ap (λ l. lent_by_statements l x) (items_shown-the_row-Stmt-0 s body))) (branches_row _ rest x)
    ∙ sym (or_assoc (lent c.form x) _ (lent_by_parts (items-the_row-Branch _ rest) x))

cases_row : (m : _) (row : Row_of-CasePart m) (x : ℕ) → lent_by_case_parts row x ≡ lent_by_cases (items-the_row-CasePart m row) x
cases_row m end_of-CasePart x = refl
cases_row m (more_of-CasePart c s body rest) x = ap₂ (λ a b. a || b) (statements_row _ body x ∙ sym (ap (λ l. lent_by_statements l x) (items_shown-the_row-Stmt-0 s body))) (cases_row _ rest x)

types_row : (m : _) (row : Row_of-TypePart m) (x : ℕ) → lent_by_type_parts row x ≡ lent_by_types (items-the_row-TypePart m row) x
types_row m end_of-TypePart x = refl
types_row m (more_of-TypePart r s body rest) x = ap₂ (λ a b. a || b) (statements_row _ body x ∙ sym (ap (λ l. lent_by_statements l x) (items_shown-the_row-Stmt-0 s body))) (types_row _ rest x)

abbrev body_of : Stmt → (n : Count) × Row_of-Stmt n
body_of (If' _ parts _ other) = (_, other)
body_of (Repeat' _ body x) = (_, body)
body_of (For' _ d x y step _ body) = (_, body)
body_of _ = (_, end_of-Stmt)

abbrev parts_of : Stmt → (n : Count) × Row_of-Branch n
parts_of (If' _ parts _ other) = (_, parts)
parts_of (While' _ parts) = (_, parts)
parts_of _ = (_, end_of-Branch)

abbrev cases_of : Stmt → (n : Count) × Row_of-CasePart n
cases_of (Case' x _ parts) = (_, parts)
cases_of _ = (_, end_of-CasePart)

abbrev types_of : Stmt → (n : Count) × Row_of-TypePart n
types_of (CasePointer' x _ parts) = (_, parts)
types_of (CaseParameter' d _ parts) = (_, parts)
types_of _ = (_, end_of-TypePart)

pub lent_if : (ps : Vec Branch Global) (ss : Vec Stmt Global) (x : ℕ) → lent_by (If ps ss) x ≡ lent_by_parts ps.items x || lent_by_statements ss.items x
lent_if ps ss x =
    let r = parts_of (If ps ss) in
    let o = body_of (If ps ss) in
    ap₂ (λ a b. a || b) (branches_row r.0 r.1 x ∙ ap (λ l. lent_by_parts l x) (items_hidden-the_row-Branch-1 ps)) (statements_row o.0 o.1 x ∙ ap (λ l. lent_by_statements l x) (items_hidden-the_row-Stmt-0 ss))

pub lent_while : (ps : Vec Branch Global) (x : ℕ) → lent_by (While ps) x ≡ lent_by_parts ps.items x
lent_while ps x = let r = parts_of (While ps) in branches_row r.0 r.1 x ∙ ap (λ l. lent_by_parts l x) (items_hidden-the_row-Branch-1 ps)

pub lent_repeat : (ss : Vec Stmt Global) (e : Checked) (x : ℕ) → lent_by (Repeat ss e) x ≡ lent_by_statements ss.items x || lent e.form x
lent_repeat ss e x = let r = body_of (Repeat ss e) in ap (λ b. b || lent e.form x) (statements_row r.0 r.1 x ∙ ap (λ l. lent_by_statements l x) (items_hidden-the_row-Stmt-0 ss))

pub lent_for : (f : Box ForLoop Global) (x : ℕ) → lent_by (For f) x ≡ lent_at f.value.variable x || (lent f.value.first.form x || (lent f.value.limit.form x || lent_by_statements f.value.body.items x))
lent_for f x =
    let r = body_of (For f) in
    ap (λ b. lent_at f.value.variable x || (lent f.value.first.form x || (lent f.value.limit.form x || b))) (statements_row r.0 r.1 x ∙ ap (λ l. lent_by_statements l x) (items_hidden-the_row-Stmt-0 f.value.body))

pub lent_case : (e : Checked) (ps : Vec CasePart Global) (x : ℕ) → lent_by (Case e ps) x ≡ lent e.form x || lent_by_cases ps.items x
lent_case e ps x = let r = cases_of (Case e ps) in ap (λ b. lent e.form x || b) (cases_row r.0 r.1 x ∙ ap (λ l. lent_by_cases l x) (items_hidden-the_row-CasePart-2 ps))

pub lent_pointer : (e : Checked) (ps : Vec TypePart Global) (x : ℕ) → lent_by (CasePointer e ps) x ≡ lent e.form x || lent_by_types ps.items x
lent_pointer e ps x = let r = types_of (CasePointer e ps) in ap (λ b. lent e.form x || b) (types_row r.0 r.1 x ∙ ap (λ l. lent_by_types l x) (items_hidden-the_row-TypePart-3 ps))

pub lent_parameter : (d : Designator) (ps : Vec TypePart Global) (x : ℕ) → lent_by (CaseParameter d ps) x ≡ lent_whole d x || lent_by_types ps.items x
lent_parameter d ps x = let r = types_of (CaseParameter d ps) in ap (λ b. lent_whole d x || b) (types_row r.0 r.1 x ∙ ap (λ l. lent_by_types l x) (items_hidden-the_row-TypePart-3 ps))

-- statements in a list
pub list_of : (ss : List Stmt) (x : ℕ) → lent_by_list ss x ≡ lent_by_statements ss x
list_of [] x = refl
list_of (s ∷ more) x = ap (λ b. lent_by s x || b) (list_of more x)
