-- A tree whose uses of strings have numbers below a procedure's count of strings: its form with those strings and its form
-- with the numbers differ in the strings alone.
use Rattle.std.proofs.Common.{◌≡◌, ℕ, zero, suc, ◌+◌, ◌<◌, ◌≤◌, List, [], ◌∷◌, ◌++◌, length, Bool, true, false, Option, Some, None, refl, sym, ap, ap₂, subst, ◌∙◌, slice_get, arith, ltb-true, ◌⊎◌, inl, inr}
use Rattle.std.specs.Prelude.{nat_lt, option_map}
use Rattle.std.proofs.lemmas.Bool.{lt-ltb}
use Rattle.ob_types.specs.declared.tree.Expr.{Expr, Literal, Routine, Load, Guard', Unary', Chain', Compare', CompareTexts', In', IsPointer', IsParameter, Byte', Length, Call', Row_of-Link, end_of-Link, more_of-Link}
use Rattle.ob_types.specs.declared.tree.Link.{Link, Operate, And, Or, Element, Elements'}
use Rattle.ob_types.specs.declared.tree.Base.{Base}
use Rattle.ob_types.specs.declared.tree.Base.TheVariants as TheBase
use Rattle.ob_types.specs.declared.tree.Designator.{Designator, Whole, Part', Row_of-Selector, end_of-Selector, more_of-Selector}
use Rattle.ob_types.specs.declared.tree.Selector.{Selector, Index, Field, Dereference, Narrow}
use Rattle.ob_types.specs.declared.tree.Call.{Call, Direct', Indirect', Row_of-Argument, end_of-Argument, more_of-Argument}
use Rattle.ob_types.specs.declared.tree.Argument.{Argument, ByValue, ByPlace, ByRecord, ByOpen}
use Rattle.ob_types.specs.declared.statements.Checked.{Checked}
use Rattle.ob_types.specs.declared.statements.Stmt.{Stmt, Assign, CopyArray, CopyRecord, Increase, Decrease, Include, Exclude, New, Assert, OutChar, OutInt, OutString, OutLn, InChar, If', While', Repeat', For', Case', CasePointer', CaseParameter', Row_of-Stmt, end_of-Stmt, more_of-Stmt, Row_of-Branch, end_of-Branch, more_of-Branch, Row_of-CasePart, end_of-CasePart, more_of-CasePart, Row_of-TypePart, end_of-TypePart, more_of-TypePart}
use Rattle.ob_types.specs.declared.statements.Stmt.{Call as Invoke}
use Rattle.ob_types.specs.Forms.{all}
use Rattle.ob_types.specs.Table.{Table}
use Rattle.ob_types.proofs.Tests.{and_of, and_from}
use Rattle.ob_judge.specs.Shapes.{Nothing}
use Rattle.ob_judge.specs.Image as I
use Rattle.ob_judge.specs.Texts.{in_expr, in_link, in_designator, in_place, in_call, in_arguments, in_argument, in_statement, in_statements, in_branches, in_parts, in_answer}
use Rattle.judged_tree.specs.TypeShapes.{shape_of, shape_of_kind}
use Rattle.judged_tree.specs.Plain.{guarded, pointer_at, text_place, plain_base, plain_expr, plain_links, plain_link, plain_designator, plain_selectors, plain_selector, plain_call, plain_arguments, plain_argument, plain_checked, plain_statement, plain_statements, plain_branches, plain_case_parts, plain_type_parts, plain_body}
use Rattle.one_lowering.specs.Forms.{tally}
use Rattle.one_lowering.proofs.Expressions.{tally_at}
use Rattle.one_lowering.proofs.Erased.{erased_expr, erased_link, erased_designator, erased_place, erased_call, erased_arguments, erased_argument, erased_checked, erased_statement, erased_statements, erased_branches, erased_parts, erased_answer}

-- a number in a string's place that is below this
abbrev pub below : ℕ → List ℕ → Bool
below n (k ∷ []) = nat_lt k n
below n cs = false

abbrev pub AllBelow : ℕ → List (List ℕ) → Type 0
AllBelow n xs = all (below n) xs ≡ true

-- what is below in two lists, one after the other
pub parts : (n : ℕ) (xs ys : List (List ℕ)) → AllBelow n (xs ++ ys) → AllBelow n xs × AllBelow n ys
parts n [] ys h = (refl, h)
parts n (x ∷ xs) ys h =
    let a = and_of (below n x) (all (below n) (xs ++ ys)) h in
    let b = parts n xs ys a.1 in
    (and_from (below n x) (all (below n) xs) a.0 b.0, b.1)

there : {A : Type 0} (xs : List A) (i : ℕ) → i < length xs → (x : A) × (slice_get xs i ≡ Some x)
there [] i l = absurd (omega (arith, l))
there (x ∷ xs) zero l = (x, refl)
there (x ∷ xs) (suc i) l = there xs i (omega (arith, l))

past : {A : Type 0} (xs : List A) (i : ℕ) → length xs ≤ i → slice_get xs i ≡ None
past [] i l = refl
past (x ∷ xs) zero l = absurd (omega (arith, l))
past (x ∷ xs) (suc i) l = past xs i (omega (arith, l))

pub tally_length : (i n : ℕ) → length (tally i n) ≡ n
tally_length i zero = refl
tally_length i (suc n) = ap (λ m. suc m) (tally_length (suc i) n)

-- N numbers; strings, no more than those
module _ (t : Table) (many : ℕ) (texts : List (List ℕ)) (few : length texts ≤ many) where
  abbrev uses : List (List ℕ)
  uses = tally 0 many

  abbrev n : ℕ
  n = length texts

  same_text : (k : ℕ) → AllBelow n (in_place (text_place (slice_get uses k))) → erased_place (text_place (slice_get uses k)) ≡ erased_place (text_place (slice_get texts k))
  same_text k h = by (side k many)
    where
      side : (a b : ℕ) → (a < b) ⊎ (b ≤ a)
      side a b = grind arith

      by : (k < many) ⊎ (many ≤ k) → erased_place (text_place (slice_get uses k)) ≡ erased_place (text_place (slice_get texts k))
      by (inl l) =
          let at = tally_at many 0 k l in
          let own = subst (λ o. AllBelow n (in_place (text_place o))) at h in
          let less : 0 + k < n = ltb-true (0 + k) n (and_of (nat_lt (0 + k) n) true own).0 in
          let x = there texts k (omega (arith, less)) in
          ap (λ o. erased_place (text_place o)) at ∙ sym (ap (λ o. erased_place (text_place o)) x.1)
      by (inr l) =
          let size = tally_length 0 many in
          ap (λ o. erased_place (text_place o)) (past uses k (omega (arith, l, size)) ∙ sym (past texts k (omega (arith, l, few))))

  same_base : (b : Base) → AllBelow n (in_place (plain_base t uses b)) → erased_place (plain_base t uses b) ≡ erased_place (plain_base t texts b)
  same_base TheBase.Done h = refl
  same_base (TheBase.Global m v) h = refl
  same_base (TheBase.Local v) h = refl
  same_base (TheBase.Parameter k) h = refl
  same_base (TheBase.Text k) h = same_text k h

  -- guards add no string
  guards_in : (rs : List ℕ) (x : I.Expr) → in_expr (guarded rs x) ≡ in_expr x
  guards_in [] x = refl
  guards_in (r ∷ rs) x = guards_in rs (I.Guard x r)

  guards_same : (rs : List ℕ) (x y : I.Expr) → erased_expr x ≡ erased_expr y → erased_expr (guarded rs x) ≡ erased_expr (guarded rs y)
  guards_same [] x y e = e
  guards_same (r ∷ rs) x y e = guards_same rs (I.Guard x r) (I.Guard y r) (ap (λ z. I.Guard z r) e)

  -- what a list of links or selectors is added to has its strings among those of all
  links_front : {m : _} (row : Row_of-Link m) (x : I.Expr) → AllBelow n (in_expr (plain_links t uses row x)) → AllBelow n (in_expr x)
  links_front end_of-Link x h = h
  links_front (more_of-Link k more) x h = (parts n (in_expr x) (in_link (plain_link t uses k)) (links_front more (I.Linked x (plain_link t uses k)) h)).0

  select_front : (s : Selector) (place : I.Place) → AllBelow n (in_place (plain_selector t uses s place)) → AllBelow n (in_place place)
  select_front (Index length element x) place h = (parts n (in_place place) (in_expr (plain_expr t uses x)) h).0
  select_front (Field r field) place h = h
  select_front (Dereference rs) place h = subst (λ xs. AllBelow n xs) (guards_in rs (pointer_at place)) h
  select_front (Narrow r) place h = h

  selectors_front : {m : _} (row : Row_of-Selector m) (place : I.Place) → AllBelow n (in_place (plain_selectors t uses row place)) → AllBelow n (in_place place)
  selectors_front end_of-Selector place h = h
  selectors_front (more_of-Selector s more) place h = select_front s place (selectors_front more (plain_selector t uses s place) h)

  mutual
    s_expr : (x : Expr) → AllBelow n (in_expr (plain_expr t uses x)) → erased_expr (plain_expr t uses x) ≡ erased_expr (plain_expr t texts x)
    s_expr (Literal bits) h = refl
    s_expr (Routine f) h = refl
    s_expr (Load d) h = ap (λ u. I.Load u) (s_designator d h)
    s_expr (Guard' _ d rs) h =
        let own = subst (λ xs. AllBelow n xs) (guards_in rs (I.Load (plain_designator t uses d))) h in
        guards_same rs (I.Load (plain_designator t uses d)) (I.Load (plain_designator t texts d)) (ap (λ u. I.Load u) (s_designator d own))
    s_expr (Unary' operator _ x) h = ap (λ u. I.Apply operator u) (s_expr x h)
    s_expr (Chain' _ x _ links) h = s_links links (plain_expr t uses x) (plain_expr t texts x) h (s_expr x (links_front links (plain_expr t uses x) h))
    s_expr (Compare' relation _ x _ y) h =
        let b = parts n (in_expr (plain_expr t uses x)) (in_expr (plain_expr t uses y)) h in
        ap₂ (λ u v. I.Compare relation u v) (s_expr x b.0) (s_expr y b.1)
    s_expr (CompareTexts' relation _ d _ e) h =
        let b = parts n (in_designator (plain_designator t uses d)) (in_designator (plain_designator t uses e)) h in
        ap₂ (λ u v. I.CompareTexts relation u v) (s_designator d b.0) (s_designator e b.1)
    s_expr (In' _ x _ s) h =
        let b = parts n (in_expr (plain_expr t uses x)) (in_expr (plain_expr t uses s)) h in
        ap₂ (λ u v. I.In u v) (s_expr x b.0) (s_expr s b.1)
    s_expr (IsPointer' _ x tag) h = ap (λ u. I.IsPointer u tag) (s_expr x h)
    s_expr (IsParameter d tag) h = ap (λ u. I.IsParameter u tag) (s_designator d h)
    s_expr (Byte' _ x) h = ap (λ u. I.AsByte u) (s_expr x h)
    s_expr (Length d) h = ap (λ u. I.Length u) (s_designator d h)
    s_expr (Call' _ c) h = ap (λ u. I.Result u) (s_call c h)

    s_links : {m : _} (row : Row_of-Link m) (x y : I.Expr) → AllBelow n (in_expr (plain_links t uses row x)) → erased_expr x ≡ erased_expr y
        → erased_expr (plain_links t uses row x) ≡ erased_expr (plain_links t texts row y)
    s_links end_of-Link x y h e = e
    s_links (more_of-Link k more) x y h e =
        let front = links_front more (I.Linked x (plain_link t uses k)) h in
        s_links more (I.Linked x (plain_link t uses k)) (I.Linked y (plain_link t texts k)) h
        (ap₂ (λ u v. I.Linked u v) e (s_link k (parts n (in_expr x) (in_link (plain_link t uses k)) front).1))

    s_link : (k : Link) → AllBelow n (in_link (plain_link t uses k)) → erased_link (plain_link t uses k) ≡ erased_link (plain_link t texts k)
    s_link (Operate operator y) h = ap (λ u. I.Operate operator u) (s_expr y h)
    s_link (And y) h = ap (λ u. I.And u) (s_expr y h)
    s_link (Or y) h = ap (λ u. I.Or u) (s_expr y h)
    s_link (Element y) h = ap (λ u. I.Element u) (s_expr y h)
    s_link (Elements' _ y _ z) h =
        let b = parts n (in_expr (plain_expr t uses y)) (in_expr (plain_expr t uses z)) h in
        ap₂ (λ u v. I.Elements u v) (s_expr y b.0) (s_expr z b.1)

    s_designator : (d : Designator) → AllBelow n (in_designator (plain_designator t uses d)) → erased_designator (plain_designator t uses d) ≡ erased_designator (plain_designator t texts d)
    s_designator (Whole b kind) h = ap (λ u. I.of_type u (shape_of_kind t kind)) (same_base b h)
    s_designator (Part' _ b kind _ row) h =
        ap (λ u. I.of_type u (shape_of_kind t kind))
        (s_selectors row (plain_base t uses b) (plain_base t texts b) h (same_base b (selectors_front row (plain_base t uses b) h)))

    s_selectors : {m : _} (row : Row_of-Selector m) (x y : I.Place) → AllBelow n (in_place (plain_selectors t uses row x)) → erased_place x ≡ erased_place y
        → erased_place (plain_selectors t uses row x) ≡ erased_place (plain_selectors t texts row y)
    s_selectors end_of-Selector x y h e = e
    s_selectors (more_of-Selector s more) x y h e =
        s_selectors more (plain_selector t uses s x) (plain_selector t texts s y) h (s_selector s x y (selectors_front more (plain_selector t uses s x) h) e)

    s_selector : (s : Selector) (x y : I.Place) → AllBelow n (in_place (plain_selector t uses s x)) → erased_place x ≡ erased_place y
        → erased_place (plain_selector t uses s x) ≡ erased_place (plain_selector t texts s y)
    s_selector (Index length element i) x y h e =
        ap₂ (λ u v. I.Index u length (shape_of t element) v) e (s_expr i (parts n (in_place x) (in_expr (plain_expr t uses i)) h).1)
    s_selector (Field r field) x y h e = ap (λ u. I.Field u r field) e
    s_selector (Dereference rs) x y h e = ap (λ u. I.Dereference u) (guards_same rs (pointer_at x) (pointer_at y) (ap (λ u. I.Load (I.of_type u Nothing)) e))
    s_selector (Narrow r) x y h e = ap (λ u. I.Narrow u r) e

    s_call : (c : Call) → AllBelow n (in_call (plain_call t uses c)) → erased_call (plain_call t uses c) ≡ erased_call (plain_call t texts c)
    s_call (Direct' f _ xs) h = ap (λ u. I.Direct f u) (s_arguments xs h)
    s_call (Indirect' d _ xs) h =
        let b = parts n (in_designator (plain_designator t uses d)) (in_arguments (plain_arguments t uses xs)) h in
        ap₂ (λ u v. I.Indirect u v) (s_designator d b.0) (s_arguments xs b.1)

    s_arguments : {m : _} (row : Row_of-Argument m) → AllBelow n (in_arguments (plain_arguments t uses row)) → erased_arguments (plain_arguments t uses row) ≡ erased_arguments (plain_arguments t texts row)
    s_arguments end_of-Argument h = refl
    s_arguments (more_of-Argument x more) h =
        let b = parts n (in_argument (plain_argument t uses x)) (in_arguments (plain_arguments t uses more)) h in
        ap₂ (λ u v. I.next_argument u v) (s_argument x b.0) (s_arguments more b.1)

    s_argument : (x : Argument) → AllBelow n (in_argument (plain_argument t uses x)) → erased_argument (plain_argument t uses x) ≡ erased_argument (plain_argument t texts x)
    s_argument (ByValue x) h = ap (λ u. I.ByValue u) (s_expr x h)
    s_argument (ByPlace d) h = ap (λ u. I.ByPlace u) (s_designator d h)
    s_argument (ByRecord d) h = ap (λ u. I.ByRecord u) (s_designator d h)
    s_argument (ByOpen d) h = ap (λ u. I.ByOpen u) (s_designator d h)

  s_checked : (x : Checked) → AllBelow n (in_expr (plain_expr t uses x.form)) → erased_checked (plain_checked t uses x) ≡ erased_checked (plain_checked t texts x)
  s_checked x h = ap (λ u. record { form = u; shape = shape_of_kind t x.kind }) (s_expr x.form h)

  -- a designator and an expression, two designators, an expression and more
  abbrev own : Designator → List (List ℕ)
  own d = in_designator (plain_designator t uses d)

  abbrev its : Checked → List (List ℕ)
  its x = in_expr (plain_expr t uses x.form)

  mutual
    s_statement : (s : Stmt) → AllBelow n (in_statement (plain_statement t uses s)) → erased_statement (plain_statement t uses s) ≡ erased_statement (plain_statement t texts s)
    s_statement (Assign d x) h = let b = parts n (own d) (its x) h in ap₂ (λ u v. I.Assign u v) (s_designator d b.0) (s_checked x b.1)
    s_statement (CopyArray d e) h = let b = parts n (own d) (own e) h in ap₂ (λ u v. I.CopyArray u v) (s_designator d b.0) (s_designator e b.1)
    s_statement (CopyRecord d e) h = let b = parts n (own d) (own e) h in ap₂ (λ u v. I.CopyRecord u v) (s_designator d b.0) (s_designator e b.1)
    s_statement (Increase d x) h = let b = parts n (own d) (its x) h in ap₂ (λ u v. I.Increase u v) (s_designator d b.0) (s_checked x b.1)
    s_statement (Decrease d x) h = let b = parts n (own d) (its x) h in ap₂ (λ u v. I.Decrease u v) (s_designator d b.0) (s_checked x b.1)
    s_statement (Include d x) h = let b = parts n (own d) (its x) h in ap₂ (λ u v. I.Include u v) (s_designator d b.0) (s_checked x b.1)
    s_statement (Exclude d x) h = let b = parts n (own d) (its x) h in ap₂ (λ u v. I.Exclude u v) (s_designator d b.0) (s_checked x b.1)
    s_statement (New d) h = ap (λ u. I.New u) (s_designator d h)
    s_statement (Assert x) h = ap (λ u. I.Assert u) (s_checked x h)
    s_statement (OutChar x) h = ap (λ u. I.OutChar u) (s_checked x h)
    s_statement (OutInt x y) h = let b = parts n (its x) (its y) h in ap₂ (λ u v. I.OutInt u v) (s_checked x b.0) (s_checked y b.1)
    s_statement (OutString d) h = ap (λ u. I.OutString u) (s_designator d h)
    s_statement OutLn h = refl
    s_statement (InChar d) h = ap (λ u. I.InChar u) (s_designator d h)
    s_statement (Invoke c) h = ap (λ u. I.Invoke u) (s_call c h)
    s_statement (If' _ branches _ other) h =
        let b = parts n (in_branches (plain_branches t uses branches)) (in_statements (plain_statements t uses other)) h in
        ap₂ (λ u v. I.If u v) (s_branches branches b.0) (s_statements other b.1)
    s_statement (While' _ branches) h = ap (λ u. I.While u) (s_branches branches h)
    s_statement (Repeat' _ body x) h =
        let b = parts n (in_statements (plain_statements t uses body)) (its x) h in
        ap₂ (λ u v. I.Repeat u v) (s_statements body b.0) (s_checked x b.1)
    s_statement (For' _ d x y step _ body) h =
        let b = parts n ((own d ++ its x) ++ its y) (in_statements (plain_statements t uses body)) h in
        let c = parts n (own d ++ its x) (its y) b.0 in
        let e = parts n (own d) (its x) c.0 in
        let u = s_designator d e.0 in
        let v = s_checked x e.1 in
        let w = s_checked y c.1 in
        let z = s_statements body b.1 in
        λ k. I.For (u k) (v k) (w k) step (z k)
    s_statement (Case' x _ cases) h =
        let b = parts n (its x) (in_parts (plain_case_parts t uses cases)) h in
        ap₂ (λ u v. I.Case u v) (s_checked x b.0) (s_case_parts cases b.1)
    s_statement (CasePointer' x _ cases) h =
        let b = parts n (its x) (in_parts (plain_type_parts t uses cases)) h in
        ap₂ (λ u v. I.CasePointer u v) (s_checked x b.0) (s_type_parts cases b.1)
    s_statement (CaseParameter' d _ cases) h =
        let b = parts n (own d) (in_parts (plain_type_parts t uses cases)) h in
        ap₂ (λ u v. I.CaseParameter u v) (s_designator d b.0) (s_type_parts cases b.1)

    s_statements : {m : _} (row : Row_of-Stmt m) → AllBelow n (in_statements (plain_statements t uses row)) → erased_statements (plain_statements t uses row) ≡ erased_statements (plain_statements t texts row)
    s_statements end_of-Stmt h = refl
    s_statements (more_of-Stmt s more) h =
        let b = parts n (in_statement (plain_statement t uses s)) (in_statements (plain_statements t uses more)) h in
        ap₂ (λ u v. I.next_statement u v) (s_statement s b.0) (s_statements more b.1)

    s_branches : {m : _} (row : Row_of-Branch m) → AllBelow n (in_branches (plain_branches t uses row)) → erased_branches (plain_branches t uses row) ≡ erased_branches (plain_branches t texts row)
    s_branches end_of-Branch h = refl
    s_branches (more_of-Branch x _ body more) h =
        let b = parts n (its x ++ in_statements (plain_statements t uses body)) (in_branches (plain_branches t uses more)) h in
        let c = parts n (its x) (in_statements (plain_statements t uses body)) b.0 in
        let u = s_checked x c.0 in
        let v = s_statements body c.1 in
        let w = s_branches more b.1 in
        λ k. I.next_branch (u k) (v k) (w k)

    s_case_parts : {m : _} (row : Row_of-CasePart m) → AllBelow n (in_parts (plain_case_parts t uses row)) → erased_parts (plain_case_parts t uses row) ≡ erased_parts (plain_case_parts t texts row)
    s_case_parts end_of-CasePart h = refl
    s_case_parts (more_of-CasePart labels _ body more) h =
        let b = parts n (in_statements (plain_statements t uses body)) (in_parts (plain_case_parts t uses more)) h in
        ap₂ (λ u v. I.next_part (I.Labels labels) u v) (s_statements body b.0) (s_case_parts more b.1)

    s_type_parts : {m : _} (row : Row_of-TypePart m) → AllBelow n (in_parts (plain_type_parts t uses row)) → erased_parts (plain_type_parts t uses row) ≡ erased_parts (plain_type_parts t texts row)
    s_type_parts end_of-TypePart h = refl
    s_type_parts (more_of-TypePart tag _ body more) h =
        let b = parts n (in_statements (plain_statements t uses body)) (in_parts (plain_type_parts t uses more)) h in
        ap₂ (λ u v. I.next_part (I.Extends tag) u v) (s_statements body b.0) (s_type_parts more b.1)

  pub same_body : (body : List Stmt) → AllBelow n (in_statements (plain_body t uses body)) → erased_statements (plain_body t uses body) ≡ erased_statements (plain_body t texts body)
  same_body [] h = refl
  same_body (s ∷ ss) h =
      let b = parts n (in_statement (plain_statement t uses s)) (in_statements (plain_body t uses ss)) h in
      ap₂ (λ u v. I.next_statement u v) (s_statement s b.0) (same_body ss b.1)

  pub same_answer : (x : Option Checked) → AllBelow n (in_answer (option_map (plain_checked t uses) x)) → erased_answer (option_map (plain_checked t uses) x) ≡ erased_answer (option_map (plain_checked t texts) x)
  same_answer None h = refl
  same_answer (Some x) h = ap (λ u. Some u) (s_checked x h)

-- numbers in order are all below their count
pub tally_below : (bound i n : ℕ) → i + n ≤ bound → AllBelow bound (tally i n)
tally_below bound i zero l = refl
tally_below bound i (suc n) l = and_from (nat_lt i bound) (all (below bound) (tally (suc i) n)) (less i bound (omega (arith, l))) (tally_below bound (suc i) n (omega (arith, l)))
  where
    less : (a b : ℕ) → a < b → nat_lt a b ≡ true
    less a b l = lt-ltb a b l
