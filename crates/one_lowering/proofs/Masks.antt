-- Which variables a tree lends and assigns is told by its form.
use Rattle.std.proofs.Common.{◌≡◌, ℕ, List, [], ◌∷◌, Bool, true, false, ◌||◌, Option, Some, None, refl, sym, ap, ap₂, ◌∙◌, slice_get}
use Rattle.std.specs.Prelude.{option_map}
use Rattle.ob_types.specs.declared.tree.Expr.{Expr, Literal, Routine, Load, Guard', Unary', Chain', Compare', CompareTexts', In', IsPointer', IsParameter, Byte', Length, Call', Row_of-Link, end_of-Link, more_of-Link}
use Rattle.ob_types.specs.declared.tree.Link.{Link, Operate, And, Or, Element, Elements'}
use Rattle.ob_types.specs.declared.tree.Base.{Base}
use Rattle.ob_types.specs.declared.tree.Base.TheVariants as TheBase
use Rattle.ob_types.specs.declared.tree.Designator.{Designator, Whole, Part', Row_of-Selector, end_of-Selector, more_of-Selector}
use Rattle.ob_types.specs.declared.tree.Selector.{Selector, Index, Field, Dereference, Narrow}
use Rattle.ob_types.specs.declared.tree.Call.{Call, Direct', Indirect', Row_of-Argument, end_of-Argument, more_of-Argument}
use Rattle.ob_types.specs.declared.tree.Argument.{Argument, ByValue, ByPlace, ByRecord, ByOpen}
use Rattle.ob_types.specs.declared.statements.Checked.{Checked}
use Rattle.ob_types.specs.declared.statements.Stmt.{Stmt, Assign, CopyArray, CopyRecord, Increase, Decrease, Include, Exclude, New, Assert, OutChar, OutInt, OutString, OutLn, InChar, If', While', Repeat', For', Case', CasePointer', CaseParameter', Row_of-Stmt, end_of-Stmt, more_of-Stmt, Row_of-Branch, end_of-Branch, more_of-Branch, Row_of-CasePart, end_of-CasePart, more_of-CasePart, Row_of-TypePart, end_of-TypePart, more_of-TypePart}
use Rattle.ob_types.specs.declared.statements.Stmt.{Call as Invoke}
use Rattle.ob_types.specs.Table.{Table}
use Rattle.ssa_lowered.specs.Pieces.{Mask}
use Rattle.ssa_lowered.specs.Variables.{none, either, origin, unselected, itself, lent_by_first, lent, lent_links, lent_at, lent_whole, lent_selectors, lent_selector, lent_as, lent_in, lent_by, lent_by_all, lent_by_branches, lent_by_case_parts, lent_by_type_parts, lent_by_list, lent_by_answer, assigned, assigned_all, assigned_branches, assigned_case_parts, assigned_type_parts}
use Rattle.ssa_lowered.specs.Variables
use Rattle.ob_judge.specs.Image as I
use Rattle.judged_tree.specs.Plain.{guarded, pointer_at, text_place, plain_base, plain_expr, plain_links, plain_link, plain_designator, plain_selectors, plain_selector, plain_call, plain_arguments, plain_argument, plain_checked, plain_statement, plain_statements, plain_branches, plain_case_parts, plain_type_parts, plain_body}
use Rattle.one_lowering.proofs.Middle.{itself_at, itself_in, lent_expr, lent_link, lent_read, lent_named, lent_place, lent_call, lent_arguments, lent_argument, lent_statement, lent_statements, lent_branches, lent_parts, lent_answer, assigned_statement, assigned_statements, assigned_parts}
use Rattle.one_lowering.proofs.Middle

or_false : (a : Bool) → (a || false) ≡ a
or_false true = refl
or_false false = refl

or_assoc : (a b c : Bool) → (a || (b || c)) ≡ ((a || b) || c)
or_assoc true b c = refl
or_assoc false b c = refl

module _ (t : Table) (texts : List (List ℕ)) (v : ℕ) where
  -- ---- where a designator begins

  text_apart : (o : Option (List ℕ)) → (itself_at (text_place o) v ≡ false) × (lent_place (text_place o) v ≡ false)
  text_apart None = (refl, refl)
  text_apart (Some cs) = (refl, refl)

  base_itself : (b : Base) → origin b v ≡ itself_at (plain_base t texts b) v
  base_itself TheBase.Done = refl
  base_itself (TheBase.Global m n) = refl
  base_itself (TheBase.Local x) = refl
  base_itself (TheBase.Parameter k) = refl
  base_itself (TheBase.Text k) = sym (text_apart (slice_get texts k)).0

  base_lent : (b : Base) → lent_place (plain_base t texts b) v ≡ false
  base_lent TheBase.Done = refl
  base_lent (TheBase.Global m n) = refl
  base_lent (TheBase.Local x) = refl
  base_lent (TheBase.Parameter k) = refl
  base_lent (TheBase.Text k) = (text_apart (slice_get texts k)).1

  -- what a selector leads to is no whole variable
  selector_itself : (s : Selector) (place : I.Place) → itself_at (plain_selector t texts s place) v ≡ false
  selector_itself (Index n e x) place = refl
  selector_itself (Field r field) place = refl
  selector_itself (Dereference rs) place = refl
  selector_itself (Narrow r) place = refl

  behind_selectors : {m : _} (row : Row_of-Selector m) (place : I.Place) → itself_at place v ≡ false → itself_at (plain_selectors t texts row place) v ≡ false
  behind_selectors end_of-Selector place h = h
  behind_selectors (more_of-Selector s more) place h = behind_selectors more (plain_selector t texts s place) (selector_itself s place)

  unselected_same : {m : _} (first : Mask) (row : Row_of-Selector m) (place : I.Place) → first v ≡ itself_at place v → unselected first row v ≡ itself_at (plain_selectors t texts row place) v
  unselected_same first end_of-Selector place h = h
  unselected_same first (more_of-Selector s more) place h = sym (behind_selectors more (plain_selector t texts s place) (selector_itself s place))

  pub same_itself : (d : Designator) → itself d v ≡ itself_in (plain_designator t texts d) v
  same_itself (Whole b k) = base_itself b
  same_itself (Part' _ b k _ row) = unselected_same (origin b) row (plain_base t texts b) (base_itself b)

  -- ---- what is lent

  guards_lend : (rs : List ℕ) (x : I.Expr) → lent_expr (guarded rs x) v ≡ lent_expr x v
  guards_lend [] x = refl
  guards_lend (r ∷ rs) x = guards_lend rs (I.Guard x r)

  mutual
    pub same_lent : (x : Expr) → lent x v ≡ lent_expr (plain_expr t texts x) v
    same_lent (Literal n) = refl
    same_lent (Routine g) = refl
    same_lent (Load d) = at_same d
    same_lent (Guard' _ d rs) = at_same d ∙ sym (guards_lend rs (I.Load (plain_designator t texts d)))
    same_lent (Unary' op _ x) = same_lent x
    same_lent (Chain' _ x _ links) = ap (λ b. b || lent_links links v) (same_lent x) ∙ links_same links (plain_expr t texts x)
    same_lent (Compare' r _ x _ y) = ap₂ (λ a b. a || b) (same_lent x) (same_lent y)
    same_lent (CompareTexts' r _ d _ e) = ap₂ (λ a b. a || b) (whole_same d) (whole_same e)
    same_lent (In' _ x _ s) = ap₂ (λ a b. a || b) (same_lent x) (same_lent s)
    same_lent (IsPointer' _ x r) = same_lent x
    same_lent (IsParameter d r) = whole_same d
    same_lent (Byte' _ x) = same_lent x
    same_lent (Length d) = whole_same d
    same_lent (Call' _ c) = call_same c

    links_same : {m : _} (row : Row_of-Link m) (y : I.Expr) → (lent_expr y v || lent_links row v) ≡ lent_expr (plain_links t texts row y) v
    links_same end_of-Link y = or_false (lent_expr y v)
    links_same (more_of-Link k more) y =
        or_assoc (lent_expr y v) (Variables.lent_link k v) (lent_links more v)
        ∙ ap (λ b. (lent_expr y v || b) || lent_links more v) (link_same k)
        ∙ links_same more (I.Linked y (plain_link t texts k))

    link_same : (k : Link) → Variables.lent_link k v ≡ lent_link (plain_link t texts k) v
    link_same (Operate op y) = same_lent y
    link_same (And y) = same_lent y
    link_same (Or y) = same_lent y
    link_same (Element y) = same_lent y
    link_same (Elements' _ y _ z) = ap₂ (λ a b. a || b) (same_lent y) (same_lent z)

    at_same : (d : Designator) → lent_at d v ≡ lent_read (plain_designator t texts d) v
    at_same (Whole b k) = sym (base_lent b)
    at_same (Part' _ b k _ row) =
        ap (λ a. a || lent_selectors (origin b) row v) (sym (base_lent b))
        ∙ selectors_same row (origin b) (plain_base t texts b) (base_itself b)

    whole_same : (d : Designator) → lent_whole d v ≡ lent_named (plain_designator t texts d) v
    whole_same (Whole b k) = base_itself b ∙ sym (ap (λ a. itself_at (plain_base t texts b) v || a) (base_lent b) ∙ or_false (itself_at (plain_base t texts b) v))
    whole_same (Part' _ b k _ row) =
        ap₂ (λ a c. a || c) (unselected_same (origin b) row (plain_base t texts b) (base_itself b))
        (ap (λ a. a || lent_selectors (origin b) row v) (sym (base_lent b)) ∙ selectors_same row (origin b) (plain_base t texts b) (base_itself b))

    selectors_same : {m : _} (row : Row_of-Selector m) (first : Mask) (place : I.Place) → first v ≡ itself_at place v
        → (lent_place place v || lent_selectors first row v) ≡ lent_place (plain_selectors t texts row place) v
    selectors_same end_of-Selector first place h = or_false (lent_place place v)
    selectors_same (more_of-Selector s more) first place h =
        let a = lent_place place v in
        let b = lent_by_first first s v in
        let c = Variables.lent_selector s v in
        let d = lent_selectors none more v in
        ap (λ e. a || e) (or_assoc b c d)
        ∙ or_assoc a (b || c) d
        ∙ ap (λ e. e || d) (sym (selector_same s first place h))
        ∙ selectors_same more none (plain_selector t texts s place) (sym (selector_itself s place))

    selector_same : (s : Selector) (first : Mask) (place : I.Place) → first v ≡ itself_at place v
        → lent_place (plain_selector t texts s place) v ≡ (lent_place place v || (lent_by_first first s v || Variables.lent_selector s v))
    selector_same (Index n e x) first place h = ap₂ (λ a b. lent_place place v || (a || b)) (sym h) (sym (same_lent x))
    selector_same (Field r field) first place h = ap (λ a. lent_place place v || a) (sym h ∙ sym (or_false (first v)))
    selector_same (Dereference rs) first place h = guards_lend rs (pointer_at place) ∙ sym (or_false (lent_place place v))
    selector_same (Narrow r) first place h = ap (λ a. lent_place place v || a) (sym h ∙ sym (or_false (first v)))

    call_same : (c : Call) → Variables.lent_call c v ≡ lent_call (plain_call t texts c) v
    call_same (Direct' g _ xs) = in_same xs
    call_same (Indirect' d _ xs) = ap₂ (λ a b. a || b) (at_same d) (in_same xs)

    as_same : (x : Argument) → lent_as x v ≡ lent_argument (plain_argument t texts x) v
    as_same (ByValue x) = same_lent x
    as_same (ByPlace d) = whole_same d
    as_same (ByRecord d) = whole_same d
    as_same (ByOpen d) = whole_same d

    in_same : {m : _} (row : Row_of-Argument m) → lent_in row v ≡ lent_arguments (plain_arguments t texts row) v
    in_same end_of-Argument = refl
    in_same (more_of-Argument x more) = ap₂ (λ a b. a || b) (as_same x) (in_same more)

  -- ---- statements

  mutual
    by_same : (s : Stmt) → lent_by s v ≡ lent_statement (plain_statement t texts s) v
    by_same (Assign d x) = ap₂ (λ a b. a || b) (at_same d) (same_lent x.form)
    by_same (CopyArray d e) = ap₂ (λ a b. a || b) (whole_same d) (whole_same e)
    by_same (CopyRecord d e) = ap₂ (λ a b. a || b) (whole_same d) (whole_same e)
    by_same (Increase d x) = ap₂ (λ a b. a || b) (at_same d) (same_lent x.form)
    by_same (Decrease d x) = ap₂ (λ a b. a || b) (at_same d) (same_lent x.form)
    by_same (Include d x) = ap₂ (λ a b. a || b) (at_same d) (same_lent x.form)
    by_same (Exclude d x) = ap₂ (λ a b. a || b) (at_same d) (same_lent x.form)
    by_same (New d) = at_same d
    by_same (Assert x) = same_lent x.form
    by_same (OutChar x) = same_lent x.form
    by_same (OutInt x n) = ap₂ (λ a b. a || b) (same_lent x.form) (same_lent n.form)
    by_same (OutString d) = whole_same d
    by_same OutLn = refl
    by_same (InChar d) = whole_same d
    by_same (Invoke c) = call_same c
    by_same (If' _ parts _ other) = ap₂ (λ a b. a || b) (branches_same parts) (all_same other)
    by_same (While' _ parts) = branches_same parts
    by_same (Repeat' _ body x) = ap₂ (λ a b. a || b) (all_same body) (same_lent x.form)
    by_same (For' _ d x y step _ body) = ap₂ (λ a b. a || b) (at_same d) (ap₂ (λ a b. a || b) (same_lent x.form) (ap₂ (λ a b. a || b) (same_lent y.form) (all_same body)))
    by_same (Case' x _ parts) = ap₂ (λ a b. a || b) (same_lent x.form) (case_parts_same parts)
    by_same (CasePointer' x _ parts) = ap₂ (λ a b. a || b) (same_lent x.form) (type_parts_same parts)
    by_same (CaseParameter' d _ parts) = ap₂ (λ a b. a || b) (whole_same d) (type_parts_same parts)

    all_same : {m : _} (row : Row_of-Stmt m) → lent_by_all row v ≡ lent_statements (plain_statements t texts row) v
    all_same end_of-Stmt = refl
    all_same (more_of-Stmt s more) = ap₂ (λ a b. a || b) (by_same s) (all_same more)

    branches_same : {m : _} (row : Row_of-Branch m) → lent_by_branches row v ≡ lent_branches (plain_branches t texts row) v
    branches_same end_of-Branch = refl
    branches_same (more_of-Branch x _ body more) = ap₂ (λ a b. a || b) (same_lent x.form) (ap₂ (λ a b. a || b) (all_same body) (branches_same more))

    case_parts_same : {m : _} (row : Row_of-CasePart m) → lent_by_case_parts row v ≡ lent_parts (plain_case_parts t texts row) v
    case_parts_same end_of-CasePart = refl
    case_parts_same (more_of-CasePart labels _ body more) = ap₂ (λ a b. a || b) (all_same body) (case_parts_same more)

    type_parts_same : {m : _} (row : Row_of-TypePart m) → lent_by_type_parts row v ≡ lent_parts (plain_type_parts t texts row) v
    type_parts_same end_of-TypePart = refl
    type_parts_same (more_of-TypePart r _ body more) = ap₂ (λ a b. a || b) (all_same body) (type_parts_same more)

  pub body_lends : (body : List Stmt) → lent_by_list body v ≡ lent_statements (plain_body t texts body) v
  body_lends [] = refl
  body_lends (s ∷ more) = ap₂ (λ a b. a || b) (by_same s) (body_lends more)

  pub answer_lends : (o : Option Checked) → lent_by_answer o v ≡ lent_answer (option_map (plain_checked t texts) o) v
  answer_lends None = refl
  answer_lends (Some x) = same_lent x.form

  -- ---- what is assigned

  mutual
    assigned_same : (s : Stmt) → assigned s v ≡ assigned_statement (plain_statement t texts s) v
    assigned_same (Assign d x) = same_itself d
    assigned_same (Increase d x) = same_itself d
    assigned_same (Decrease d x) = same_itself d
    assigned_same (Include d x) = same_itself d
    assigned_same (Exclude d x) = same_itself d
    assigned_same (New d) = same_itself d
    assigned_same (If' _ parts _ other) = ap₂ (λ a b. a || b) (assigned_branches_same parts) (assigned_all_same other)
    assigned_same (While' _ parts) = assigned_branches_same parts
    assigned_same (Repeat' _ body x) = assigned_all_same body
    assigned_same (For' _ d x y step _ body) = ap₂ (λ a b. a || b) (same_itself d) (assigned_all_same body)
    assigned_same (Case' x _ parts) = assigned_case_parts_same parts
    assigned_same (CasePointer' x _ parts) = assigned_type_parts_same parts
    assigned_same (CaseParameter' d _ parts) = assigned_type_parts_same parts
    assigned_same _ = refl

    pub assigned_all_same : {m : _} (row : Row_of-Stmt m) → assigned_all row v ≡ assigned_statements (plain_statements t texts row) v
    assigned_all_same end_of-Stmt = refl
    assigned_all_same (more_of-Stmt s more) = ap₂ (λ a b. a || b) (assigned_same s) (assigned_all_same more)

    pub assigned_branches_same : {m : _} (row : Row_of-Branch m) → assigned_branches row v ≡ Middle.assigned_branches (plain_branches t texts row) v
    assigned_branches_same end_of-Branch = refl
    assigned_branches_same (more_of-Branch x _ body more) = ap₂ (λ a b. a || b) (assigned_all_same body) (assigned_branches_same more)

    pub assigned_case_parts_same : {m : _} (row : Row_of-CasePart m) → assigned_case_parts row v ≡ assigned_parts (plain_case_parts t texts row) v
    assigned_case_parts_same end_of-CasePart = refl
    assigned_case_parts_same (more_of-CasePart labels _ body more) = ap₂ (λ a b. a || b) (assigned_all_same body) (assigned_case_parts_same more)

    pub assigned_type_parts_same : {m : _} (row : Row_of-TypePart m) → assigned_type_parts row v ≡ assigned_parts (plain_type_parts t texts row) v
    assigned_type_parts_same end_of-TypePart = refl
    assigned_type_parts_same (more_of-TypePart r _ body more) = ap₂ (λ a b. a || b) (assigned_all_same body) (assigned_type_parts_same more)
