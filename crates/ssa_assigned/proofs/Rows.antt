-- What is said of a row of statements or parts is said of its list.
use Rattle.std.proofs.Common.{◌≡◌, ℕ, Vec, Box, Global, ◌||◌, refl, ap, ap₂, ◌∙◌, sym}
use mathlib.Core.Former.{Count}
use Rattle.ob_types.specs.declared.tree.Selector.{Selector}
use Rattle.ob_types.specs.declared.tree.Access.{Access}
use Rattle.ob_types.specs.declared.tree.Designator.{Designator, Part, Part', Row_of-Selector, end_of-Selector, more_of-Selector, items-the_row-Selector, items_hidden-the_row-Selector-1}
use Rattle.ssa_lowered.specs.Pieces.{Mask}
use Rattle.ob_types.specs.declared.statements.Checked.{Checked}
use Rattle.ob_types.specs.declared.statements.Branch.{Branch}
use Rattle.ob_types.specs.declared.statements.CasePart.{CasePart}
use Rattle.ob_types.specs.declared.statements.TypePart.{TypePart}
use Rattle.ob_types.specs.declared.statements.ForLoop.{ForLoop}
use Rattle.ob_types.specs.declared.statements.Stmt.{Stmt, If, If', While, While', Repeat, Repeat', For, For', Case, Case', CasePointer, CasePointer', CaseParameter, CaseParameter', Row_of-Stmt, end_of-Stmt, more_of-Stmt, items-the_row-Stmt, Row_of-Branch, end_of-Branch, more_of-Branch, items-the_row-Branch, Row_of-CasePart, end_of-CasePart, more_of-CasePart, items-the_row-CasePart, Row_of-TypePart, end_of-TypePart, more_of-TypePart, items-the_row-TypePart, items_hidden-the_row-Stmt-0, items_hidden-the_row-Branch-1, items_shown-the_row-Stmt-0, items_hidden-the_row-CasePart-2, items_hidden-the_row-TypePart-3}
use Rattle.ssa_lowered.specs.Variables.{origin, unselected, assigned, assigned_all, assigned_branches, assigned_case_parts, assigned_type_parts, itself}
use Rattle.ssa_assigned.specs.Assigned.{unselected_by, assigned_list, assigned_parts, assigned_cases, assigned_types}

assigned_row : (m : _) (row : Row_of-Stmt m) (x : ℕ) → assigned_all row x ≡ assigned_list (items-the_row-Stmt m row) x
assigned_row m end_of-Stmt x = refl
assigned_row m (more_of-Stmt s rest) x = ap (λ b. assigned s x || b) (assigned_row _ rest x)

assigned_branch_row : (m : _) (row : Row_of-Branch m) (x : ℕ) → assigned_branches row x ≡ assigned_parts (items-the_row-Branch m row) x
assigned_branch_row m end_of-Branch x = refl
assigned_branch_row m (more_of-Branch c s body rest) x = ap₂ (λ a b. a || b) (assigned_row _ body x ∙ sym (ap (λ l. assigned_list l x) (items_shown-the_row-Stmt-0 s body))) (assigned_branch_row _ rest x)

assigned_case_row : (m : _) (row : Row_of-CasePart m) (x : ℕ) → assigned_case_parts row x ≡ assigned_cases (items-the_row-CasePart m row) x
assigned_case_row m end_of-CasePart x = refl
assigned_case_row m (more_of-CasePart c s body rest) x = ap₂ (λ a b. a || b) (assigned_row _ body x ∙ sym (ap (λ l. assigned_list l x) (items_shown-the_row-Stmt-0 s body))) (assigned_case_row _ rest x)

assigned_type_row : (m : _) (row : Row_of-TypePart m) (x : ℕ) → assigned_type_parts row x ≡ assigned_types (items-the_row-TypePart m row) x
assigned_type_row m end_of-TypePart x = refl
assigned_type_row m (more_of-TypePart r s body rest) x = ap₂ (λ a b. a || b) (assigned_row _ body x ∙ sym (ap (λ l. assigned_list l x) (items_shown-the_row-Stmt-0 s body))) (assigned_type_row _ rest x)

abbrev selectors_of : Designator → (n : Count) × Row_of-Selector n
selectors_of (Part' _ b k _ row) = (_, row)
selectors_of _ = (_, end_of-Selector)

unselected_row : (m : _) (row : Row_of-Selector m) (first : Mask) (x : ℕ) → unselected first row x ≡ unselected_by first (items-the_row-Selector m row) x
unselected_row m end_of-Selector first x = refl
unselected_row m (more_of-Selector s rest) first x = refl

pub unselected_part : (a : Box Access Global) (x : ℕ) → itself (Part a) x ≡ unselected_by (origin a.value.base) a.value.selectors.items x
unselected_part a x = let r = selectors_of (Part a) in unselected_row r.0 r.1 (origin a.value.base) x ∙ ap (λ l. unselected_by (origin a.value.base) l x) (items_hidden-the_row-Selector-1 a.value.selectors)

abbrev body_of : Stmt → (n : Count) × Row_of-Stmt n
body_of (If' _ parts _ other) = (_, other)
body_of (Repeat' _ body x) = (_, body)
body_of (For' _ d x y step _ body) = (_, body)
body_of _ = (_, end_of-Stmt)

abbrev parts_of : Stmt → (n : Count) × Row_of-Branch n
parts_of (If' _ parts _ other) = (_, parts)
parts_of (While' _ parts) = (_, parts)
parts_of _ = (_, end_of-Branch)

abbrev cases_of : Stmt → (n : Count) × Row_of-CasePart n
cases_of (Case' x _ parts) = (_, parts)
cases_of _ = (_, end_of-CasePart)

abbrev types_of : Stmt → (n : Count) × Row_of-TypePart n
types_of (CasePointer' x _ parts) = (_, parts)
types_of (CaseParameter' d _ parts) = (_, parts)
types_of _ = (_, end_of-TypePart)

pub assigned_if : (ps : Vec Branch Global) (ss : Vec Stmt Global) (x : ℕ) → assigned (If ps ss) x ≡ assigned_parts ps.items x || assigned_list ss.items x
assigned_if ps ss x =
    let r = parts_of (If ps ss) in
    let o = body_of (If ps ss) in
    ap₂ (λ a b. a || b) (assigned_branch_row r.0 r.1 x ∙ ap (λ l. assigned_parts l x) (items_hidden-the_row-Branch-1 ps)) (assigned_row o.0 o.1 x ∙ ap (λ l. assigned_list l x) (items_hidden-the_row-Stmt-0 ss))

pub assigned_while : (ps : Vec Branch Global) (x : ℕ) → assigned (While ps) x ≡ assigned_parts ps.items x
assigned_while ps x = let r = parts_of (While ps) in assigned_branch_row r.0 r.1 x ∙ ap (λ l. assigned_parts l x) (items_hidden-the_row-Branch-1 ps)

pub assigned_repeat : (ss : Vec Stmt Global) (e : Checked) (x : ℕ) → assigned (Repeat ss e) x ≡ assigned_list ss.items x
assigned_repeat ss e x = let r = body_of (Repeat ss e) in assigned_row r.0 r.1 x ∙ ap (λ l. assigned_list l x) (items_hidden-the_row-Stmt-0 ss)

pub assigned_case : (e : Checked) (ps : Vec CasePart Global) (x : ℕ) → assigned (Case e ps) x ≡ assigned_cases ps.items x
assigned_case e ps x = let r = cases_of (Case e ps) in assigned_case_row r.0 r.1 x ∙ ap (λ l. assigned_cases l x) (items_hidden-the_row-CasePart-2 ps)

pub assigned_pointer : (e : Checked) (ps : Vec TypePart Global) (x : ℕ) → assigned (CasePointer e ps) x ≡ assigned_types ps.items x
assigned_pointer e ps x = let r = types_of (CasePointer e ps) in assigned_type_row r.0 r.1 x ∙ ap (λ l. assigned_types l x) (items_hidden-the_row-TypePart-3 ps)

pub assigned_parameter : (d : Designator) (ps : Vec TypePart Global) (x : ℕ) → assigned (CaseParameter d ps) x ≡ assigned_types ps.items x
assigned_parameter d ps x = let r = types_of (CaseParameter d ps) in assigned_type_row r.0 r.1 x ∙ ap (λ l. assigned_types l x) (items_hidden-the_row-TypePart-3 ps)

pub assigned_for : (f : Box ForLoop Global) (x : ℕ) → assigned (For f) x ≡ itself f.value.variable x || assigned_list f.value.body.items x
assigned_for f x = let r = body_of (For f) in ap (λ b. itself f.value.variable x || b) (assigned_row r.0 r.1 x ∙ ap (λ l. assigned_list l x) (items_hidden-the_row-Stmt-0 f.value.body))
