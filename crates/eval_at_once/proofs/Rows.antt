-- The meaning of a row of the tree is that of its list.
use Rattle.std.proofs.Common.{◌≡◌, ℕ, Vec, Box, Global, Option, refl, ap, ap₂, ◌∙◌, sym}
use mathlib.Core.Former.{Count}
use Rattle.run_laws.specs.Turns.{◌>>=◌, give, repeat}
use Rattle.ob_types.specs.Layout.{extends}
use Rattle.ob_types.specs.Store.{Cell, Act, Handed, Here}
use Rattle.ob_types.specs.Operators.{labels_have}
use Rattle.ob_types.specs.Expressions.{Calls, cons, is_of, called_by_number, called_by_value, load}
use Rattle.ob_types.specs.Statements.{test, try, otherwise}
use Rattle.ob_types.specs.Meaning.{base_of, value, linked, link, designated, selected, select, called, argument, arguments, effect, effects, branches, case_parts, type_parts, effects_of}
use Rattle.ob_types.specs.declared.tree.Expr.{Expr, Chain, Chain', Row_of-Link, end_of-Link, more_of-Link, items-the_row-Link, items_hidden-the_row-Link-2}
use Rattle.ob_types.specs.declared.tree.Designator.{Designator, Part, Part', Row_of-Selector, end_of-Selector, more_of-Selector, items-the_row-Selector, items_hidden-the_row-Selector-1}
use Rattle.ob_types.specs.declared.tree.Access.{Access}
use Rattle.ob_types.specs.declared.tree.Argument.{Argument}
use Rattle.ob_types.specs.declared.tree.Call.{Call, Direct, Direct', Indirect, Indirect', Row_of-Argument, end_of-Argument, more_of-Argument, items-the_row-Argument, items_hidden-the_row-Argument-0}
use Rattle.ob_types.specs.declared.statements.Checked.{Checked}
use Rattle.ob_types.specs.declared.statements.Branch.{Branch}
use Rattle.ob_types.specs.declared.statements.CasePart.{CasePart}
use Rattle.ob_types.specs.declared.statements.TypePart.{TypePart}
use Rattle.ob_types.specs.declared.statements.Stmt.{Stmt, If, If', While, While', Repeat', For', Case, Case', CasePointer, CasePointer', CaseParameter', Row_of-Stmt, end_of-Stmt, more_of-Stmt, items-the_row-Stmt, Row_of-Branch, end_of-Branch, more_of-Branch, items-the_row-Branch, Row_of-CasePart, end_of-CasePart, more_of-CasePart, items-the_row-CasePart, Row_of-TypePart, end_of-TypePart, more_of-TypePart, items-the_row-TypePart, items_hidden-the_row-Stmt-0, items_hidden-the_row-Branch-1, items_shown-the_row-Stmt-0, items_hidden-the_row-CasePart-2, items_hidden-the_row-TypePart-3}
use Rattle.ob_types.specs.declared.program.Program.{Program}
use Rattle.eval_at_once.specs.Lists.{linked_by, selected_by, arguments_by, branches_by, case_parts_by, type_parts_by}

module _ (p : Program) (calls : Calls) (here : Here) where
  links_row : (m : _) (row : Row_of-Link m) (x : Act Cell) → linked p calls here row x ≡ linked_by p calls here (items-the_row-Link m row) x
  links_row m end_of-Link x = refl
  links_row m (more_of-Link l rest) x = links_row _ rest (link p calls here l x)

  selectors_row : (m : _) (row : Row_of-Selector m) (x : Act Handed) → selected p calls here row x ≡ selected_by p calls here (items-the_row-Selector m row) x
  selectors_row m end_of-Selector x = refl
  selectors_row m (more_of-Selector s rest) x = selectors_row _ rest (select p calls here s x)

  arguments_row : (m : _) (row : Row_of-Argument m) → arguments p calls here row ≡ arguments_by p calls here (items-the_row-Argument m row)
  arguments_row m end_of-Argument = refl
  arguments_row m (more_of-Argument a rest) = ap (λ r. cons (argument p calls here a) r) (arguments_row _ rest)

  abbrev links_of : Expr → (n : Count) × Row_of-Link n
  links_of (Chain' _ x _ row) = (_, row)
  links_of _ = (_, end_of-Link)

  abbrev selectors_of : Designator → (n : Count) × Row_of-Selector n
  selectors_of (Part' _ b k _ row) = (_, row)
  selectors_of _ = (_, end_of-Selector)

  abbrev arguments_of : Call → (n : Count) × Row_of-Argument n
  arguments_of (Direct' g _ row) = (_, row)
  arguments_of (Indirect' d _ row) = (_, row)

  pub value_chain : (e : Box Expr Global) (ks : Vec _ Global) → value p calls here (Chain e ks) ≡ linked_by p calls here ks.items (value p calls here e.value)
  value_chain e ks =
      let r = links_of (Chain e ks) in
      links_row r.0 r.1 (value p calls here e.value) ∙ ap (λ l. linked_by p calls here l (value p calls here e.value)) (items_hidden-the_row-Link-2 ks)

  pub designated_part : (a : Box Access Global) → designated p calls here (Part a) ≡ selected_by p calls here a.value.selectors.items (base_of p calls here a.value.base)
  designated_part a =
      let r = selectors_of (Part a) in
      selectors_row r.0 r.1 (base_of p calls here a.value.base) ∙ ap (λ l. selected_by p calls here l (base_of p calls here a.value.base)) (items_hidden-the_row-Selector-1 a.value.selectors)

  pub called_direct : (g : ℕ) (xs : Vec Argument Global) → called p calls here (Direct g xs) ≡ called_by_number calls g (arguments_by p calls here xs.items)
  called_direct g xs = let r = arguments_of (Direct g xs) in ap (λ a. called_by_number calls g a) (arguments_row r.0 r.1 ∙ ap (λ l. arguments_by p calls here l) (items_hidden-the_row-Argument-0 xs))

  pub called_indirect : (d : Designator) (xs : Vec Argument Global) → called p calls here (Indirect d xs) ≡ called_by_value here.procedure calls (load (designated p calls here d)) (arguments_by p calls here xs.items)
  called_indirect d xs = let r = arguments_of (Indirect d xs) in ap (λ a. called_by_value here.procedure calls (load (designated p calls here d)) a) (arguments_row r.0 r.1 ∙ ap (λ l. arguments_by p calls here l) (items_hidden-the_row-Argument-0 xs))

  module _ (fuel : ℕ) where
    statements_row : (m : _) (row : Row_of-Stmt m) → effects p calls here fuel row ≡ effects_of p calls here fuel (items-the_row-Stmt m row)
    statements_row m end_of-Stmt = refl
    statements_row m (more_of-Stmt s rest) = ap (λ r. effect p calls here fuel s >>= λ _. r) (statements_row _ rest)

    body_row : (i : Vec Stmt Global) (m : _) (row : Row_of-Stmt m) → items-the_row-Stmt m row ≡ i.items → effects p calls here fuel row ≡ effects_of p calls here fuel i.items
    body_row i m row e = statements_row m row ∙ ap (λ l. effects_of p calls here fuel l) e

    branches_row : (m : _) (row : Row_of-Branch m) → branches p calls here fuel row ≡ branches_by p calls here fuel (items-the_row-Branch m row)
    branches_row m end_of-Branch = refl
    branches_row m (more_of-Branch c s body rest) = ap₂ (λ b r. try (test (value p calls here c.form)) b r) (statements_row _ body ∙ sym (ap (λ l. effects_of p calls here fuel l) (items_shown-the_row-Stmt-0 s body))) (branches_row _ rest)

    cases_row : (v : ℕ) (m : _) (row : Row_of-CasePart m) → case_parts p calls here fuel v row ≡ case_parts_by p calls here fuel v (items-the_row-CasePart m row)
    cases_row v m end_of-CasePart = refl
    cases_row v m (more_of-CasePart c s body rest) = ap₂ (λ b r. try (give (labels_have v c)) b r) (statements_row _ body ∙ sym (ap (λ l. effects_of p calls here fuel l) (items_shown-the_row-Stmt-0 s body))) (cases_row v _ rest)

    types_row : (t : Option ℕ) (m : _) (row : Row_of-TypePart m) → type_parts p calls here fuel t row ≡ type_parts_by p calls here fuel t (items-the_row-TypePart m row)
    types_row t m end_of-TypePart = refl
    types_row t m (more_of-TypePart c s body rest) = ap₂ (λ b r. try (give (is_of (extends p.types) t c)) b r) (statements_row _ body ∙ sym (ap (λ l. effects_of p calls here fuel l) (items_shown-the_row-Stmt-0 s body))) (types_row t _ rest)

    abbrev body_of : Stmt → (n : Count) × Row_of-Stmt n
    body_of (If' _ parts _ other) = (_, other)
    body_of (Repeat' _ body x) = (_, body)
    body_of (For' _ d x y step _ body) = (_, body)
    body_of _ = (_, end_of-Stmt)

    abbrev parts_of : Stmt → (n : Count) × Row_of-Branch n
    parts_of (If' _ parts _ other) = (_, parts)
    parts_of (While' _ parts) = (_, parts)
    parts_of _ = (_, end_of-Branch)

    abbrev cases_of : Stmt → (n : Count) × Row_of-CasePart n
    cases_of (Case' x _ parts) = (_, parts)
    cases_of _ = (_, end_of-CasePart)

    abbrev types_of : Stmt → (n : Count) × Row_of-TypePart n
    types_of (CasePointer' x _ parts) = (_, parts)
    types_of (CaseParameter' d _ parts) = (_, parts)
    types_of _ = (_, end_of-TypePart)

    pub effect_if : (ps : Vec Branch Global) (ss : Vec Stmt Global) → effect p calls here fuel (If ps ss) ≡ otherwise (branches_by p calls here fuel ps.items) (effects_of p calls here fuel ss.items)
    effect_if ps ss =
        let r = parts_of (If ps ss) in
        let o = body_of (If ps ss) in
        ap₂ (λ a b. otherwise a b) (branches_row r.0 r.1 ∙ ap (λ l. branches_by p calls here fuel l) (items_hidden-the_row-Branch-1 ps)) (statements_row o.0 o.1 ∙ ap (λ l. effects_of p calls here fuel l) (items_hidden-the_row-Stmt-0 ss))

    pub effect_while : (ps : Vec Branch Global) → effect p calls here fuel (While ps) ≡ repeat fuel (branches_by p calls here fuel ps.items)
    effect_while ps = let r = parts_of (While ps) in ap (λ b. repeat fuel b) (branches_row r.0 r.1 ∙ ap (λ l. branches_by p calls here fuel l) (items_hidden-the_row-Branch-1 ps))

    pub effect_case : (e : Checked) (ps : Vec CasePart Global) (v : ℕ) → case_parts p calls here fuel v (cases_of (Case e ps)).1 ≡ case_parts_by p calls here fuel v ps.items
    effect_case e ps v = let r = cases_of (Case e ps) in cases_row v r.0 r.1 ∙ ap (λ l. case_parts_by p calls here fuel v l) (items_hidden-the_row-CasePart-2 ps)

    pub effect_types : (e : Checked) (ps : Vec TypePart Global) (t : Option ℕ) → type_parts p calls here fuel t (types_of (CasePointer e ps)).1 ≡ type_parts_by p calls here fuel t ps.items
    effect_types e ps t = let r = types_of (CasePointer e ps) in types_row t r.0 r.1 ∙ ap (λ l. type_parts_by p calls here fuel t l) (items_hidden-the_row-TypePart-3 ps)
