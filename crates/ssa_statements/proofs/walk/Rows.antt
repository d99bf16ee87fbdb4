-- What is said of a row of statements or parts is said of its list.
use Rattle.std.proofs.Common.{◌≡◌, ℕ, suc, List, [], ◌∷◌, ◌++◌, map, Vec, Box, Global, refl, sym, ap, ap₂, ◌∙◌, subst}
use mathlib.Core.Former.{Count}
use Rattle.block_runs.specs.declared.end.End.TheVariants.{Jump, Trap}
use Rattle.ob_types.specs.declared.program.Program.{Program}
use Rattle.ob_types.specs.declared.tree.Designator.{Designator}
use Rattle.ob_types.specs.declared.statements.Checked.{Checked}
use Rattle.ob_types.specs.declared.statements.Branch.{Branch}
use Rattle.ob_types.specs.declared.statements.CasePart.{CasePart}
use Rattle.ob_types.specs.declared.statements.Label.{Label}
use Rattle.ob_types.specs.declared.statements.TypePart.{TypePart}
use Rattle.ob_types.specs.declared.statements.ForLoop.{ForLoop}
use Rattle.ob_types.specs.declared.statements.Stmt.{Stmt, If, If', While, While', Repeat, Repeat', For, For', Case, Case', CasePointer, CasePointer', CaseParameter, CaseParameter', Row_of-Stmt, end_of-Stmt, more_of-Stmt, items-the_row-Stmt, Row_of-Branch, end_of-Branch, more_of-Branch, items-the_row-Branch, Row_of-CasePart, end_of-CasePart, more_of-CasePart, items-the_row-CasePart, Row_of-TypePart, end_of-TypePart, more_of-TypePart, items-the_row-TypePart, items_hidden-the_row-Stmt-0, items_hidden-the_row-Branch-1, items_shown-the_row-Stmt-0, items_hidden-the_row-CasePart-2, items_hidden-the_row-TypePart-3}
use Rattle.ssa_lowered.specs.Control.{choose, Round, loop, repeat, case, Rung}
use Rattle.ssa_lowered.specs.Data.{layout}
use Rattle.ssa_lowered.specs.Lowered.{Here, deeds, alternatives, guarded_rounds, case_bodies, type_bodies, label_test, type_test, rungs_from, label_tests, type_tests}
use Rattle.ssa_lowered.specs.Pieces.{Low, ◌>>=◌, Mask}
use Rattle.ssa_lowered.specs.Statements.{Deed, assign}
use Rattle.ssa_lowered.specs.Values.{home_of, tag_of, is_pointer, is_tag}
use Rattle.ssa_lowered.specs.Variables.{either, itself, assigned, assigned_all, assigned_branches, assigned_case_parts, assigned_type_parts}
use Rattle.ssa_exprs.specs.Making.{View, Gives}
use Rattle.ssa_exprs.specs.Tables.{small_in, expr_in, named_in}
use Rattle.ssa_assigned.specs.Assigned.{assigned_list, assigned_parts, assigned_cases, assigned_types}
use Rattle.ssa_assigned.specs.Registers.{registers_in}
use Rattle.ssa_statements.specs.Meeting.{reached_in, advance_in}
use Rattle.ssa_statements.specs.Steps.{Steps, deed_in}
use Rattle.ssa_statements.specs.Rungs.{rung_in, rungs_in}
use Rattle.ssa_statements.proofs.Joining.{steps_after, steps_as, steps_on}
use Rattle.ssa_statements.specs.declared.walk.rungs.Dynamic.{Dynamic}
use Rattle.ssa_statements.specs.declared.walk.rungs.Dynamic.TheVariants.{Pointer, Parameter}
use Rattle.ssa_statements.specs.walk.Lists.{deeds_in, alternatives_in, rounds_in, loop_in, repeat_in, count_in, case_bodies_in, type_bodies_in, case_in, types_in}
use Rattle.ssa_statements.specs.walk.Rungs.{coded_labels, coded_cases, coded_types}

---- The variables that are assigned, as masks

assigned_row : (m : _) (row : Row_of-Stmt m) → assigned_all row ≡ assigned_list (items-the_row-Stmt m row)
assigned_row m end_of-Stmt = refl
assigned_row m (more_of-Stmt s rest) = ap (either (assigned s)) (assigned_row _ rest)

branches_row : (m : _) (row : Row_of-Branch m) → assigned_branches row ≡ assigned_parts (items-the_row-Branch m row)
branches_row m end_of-Branch = refl
branches_row m (more_of-Branch c s body rest) = ap₂ either (assigned_row _ body ∙ sym (ap assigned_list (items_shown-the_row-Stmt-0 s body))) (branches_row _ rest)

case_parts_row : (m : _) (row : Row_of-CasePart m) → assigned_case_parts row ≡ assigned_cases (items-the_row-CasePart m row)
case_parts_row m end_of-CasePart = refl
case_parts_row m (more_of-CasePart c s body rest) = ap₂ either (assigned_row _ body ∙ sym (ap assigned_list (items_shown-the_row-Stmt-0 s body))) (case_parts_row _ rest)

type_parts_row : (m : _) (row : Row_of-TypePart m) → assigned_type_parts row ≡ assigned_types (items-the_row-TypePart m row)
type_parts_row m end_of-TypePart = refl
type_parts_row m (more_of-TypePart r s body rest) = ap₂ either (assigned_row _ body ∙ sym (ap assigned_list (items_shown-the_row-Stmt-0 s body))) (type_parts_row _ rest)

---- Rows of a statement

abbrev body_of : Stmt → (n : Count) × Row_of-Stmt n
body_of (If' _ parts _ other) = (_, other)
body_of (Repeat' _ body x) = (_, body)
body_of (For' _ d x y step _ body) = (_, body)
body_of _ = (_, end_of-Stmt)

abbrev parts_of : Stmt → (n : Count) × Row_of-Branch n
parts_of (If' _ parts _ other) = (_, parts)
parts_of (While' _ parts) = (_, parts)
parts_of _ = (_, end_of-Branch)

abbrev cases_of : Stmt → (n : Count) × Row_of-CasePart n
cases_of (Case' x _ parts) = (_, parts)
cases_of _ = (_, end_of-CasePart)

abbrev types_of : Stmt → (n : Count) × Row_of-TypePart n
types_of (CasePointer' x _ parts) = (_, parts)
types_of (CaseParameter' d _ parts) = (_, parts)
types_of _ = (_, end_of-TypePart)

map_on : {A B : Type 0} (f : A → B) (xs ys : List A) → map f (xs ++ ys) ≡ map f xs ++ map f ys
map_on f [] ys = refl
map_on f (x ∷ xs) ys = ap (λ l. f x ∷ l) (map_on f xs ys)

module _ (p : Program) (here : Here) where
  deeds_row : (m : _) (row : Row_of-Stmt m) → deeds p (layout p.types) here row ≡ deeds_in p here (items-the_row-Stmt m row)
  deeds_row m end_of-Stmt = refl
  deeds_row m (more_of-Stmt s rest) = ap (λ d. deed_in p here s >>= λ _. d) (deeds_row _ rest)

  more_alternatives : (x : Checked) (l : List Stmt) {m n : _} (body : Row_of-Stmt m) (rest : Row_of-Branch n) (rs : List Branch) (ss : List Stmt) (mask : Mask) (g h : Deed) → items-the_row-Stmt m body ≡ l → assigned_branches rest ≡ assigned_parts rs → mask ≡ assigned_list ss
      → alternatives p (layout p.types) here rest mask g ≡ alternatives_in p here rs ss h
      → choose (registers_in p here (either (assigned_all body) (either (assigned_branches rest) mask))) (expr_in p here x.form).test (deeds p (layout p.types) here body) (alternatives p (layout p.types) here rest mask g)
      ≡ choose (registers_in p here (either (assigned_list l) (either (assigned_parts rs) (assigned_list ss)))) (expr_in p here x.form).test (deeds_in p here l) (alternatives_in p here rs ss h)
  more_alternatives x l body rest rs ss mask g h is parts others again =
      ap₂ (λ (k : Mask) (d : Deed). choose (registers_in p here k) (expr_in p here x.form).test d (alternatives p (layout p.types) here rest mask g))
      (ap₂ either (assigned_row _ body ∙ ap assigned_list is) (ap₂ either parts others)) (deeds_row _ body ∙ ap (deeds_in p here) is)
      ∙ ap (λ (d : Deed). choose (registers_in p here (either (assigned_list l) (either (assigned_parts rs) (assigned_list ss)))) (expr_in p here x.form).test (deeds_in p here l) d) again

  alternatives_row : (m : _) (row : Row_of-Branch m) (ss : List Stmt) (mask : Mask) (g h : Deed) → mask ≡ assigned_list ss → g ≡ h → alternatives p (layout p.types) here row mask g ≡ alternatives_in p here (items-the_row-Branch m row) ss h
  alternatives_row m end_of-Branch ss mask g h e f = f
  alternatives_row m (more_of-Branch x s body rest) ss mask g h e f =
      more_alternatives x _ body rest (items-the_row-Branch _ rest) ss mask g h (sym (items_shown-the_row-Stmt-0 s body)) (branches_row _ rest) e (alternatives_row _ rest ss mask g h e f)

  rounds_row : (m : _) (row : Row_of-Branch m) → guarded_rounds p (layout p.types) here row ≡ rounds_in p here (items-the_row-Branch m row)
  rounds_row m end_of-Branch = refl
  rounds_row m (more_of-Branch x s body rest) =
      ap₂ (λ (d : Deed) (rs : List Round). record { test = (expr_in p here x.form).test; body = d } ∷ rs) (deeds_row _ body ∙ sym (ap (deeds_in p here) (items_shown-the_row-Stmt-0 s body))) (rounds_row _ rest)

  case_bodies_row : (m : _) (row : Row_of-CasePart m) → case_bodies p (layout p.types) here row ≡ case_bodies_in p here (items-the_row-CasePart m row)
  case_bodies_row m end_of-CasePart = refl
  case_bodies_row m (more_of-CasePart ls s body rest) = ap₂ (λ (d : Deed) (ds : List Deed). d ∷ ds) (deeds_row _ body ∙ sym (ap (deeds_in p here) (items_shown-the_row-Stmt-0 s body))) (case_bodies_row _ rest)

  type_bodies_row : (m : _) (row : Row_of-TypePart m) → type_bodies p (layout p.types) here row ≡ type_bodies_in p here (items-the_row-TypePart m row)
  type_bodies_row m end_of-TypePart = refl
  type_bodies_row m (more_of-TypePart r s body rest) = ap₂ (λ (d : Deed) (ds : List Deed). d ∷ ds) (deeds_row _ body ∙ sym (ap (deeds_in p here) (items_shown-the_row-Stmt-0 s body))) (type_bodies_row _ rest)

  labels_coded : (v i : ℕ) (ls : List Label) → map (λ t. record { test = t; part = i }) (map (label_test p (layout p.types) here v) ls) ≡ rungs_in p here v (coded_labels i ls)
  labels_coded v i [] = refl
  labels_coded v i (l ∷ ls) = ap (λ (rs : List Rung). record { test = label_test p (layout p.types) here v l; part = i } ∷ rs) (labels_coded v i ls)

  rungs_row : (m : _) (row : Row_of-CasePart m) (v i : ℕ) → rungs_from p (layout p.types) here i (label_tests p (layout p.types) here row v) ≡ rungs_in p here v (coded_cases i (items-the_row-CasePart m row))
  rungs_row m end_of-CasePart v i = refl
  rungs_row m (more_of-CasePart ls s body rest) v i =
      ap₂ (λ (a b : List Rung). a ++ b) (labels_coded v i ls) (rungs_row _ rest v (suc i))
      ∙ sym (map_on (rung_in p here v) (coded_labels i ls) (coded_cases (suc i) (items-the_row-CasePart _ rest)))

  -- how a dynamic type is tested
  abbrev test_of : Dynamic → ℕ → ℕ → ℕ → Low ℕ
  test_of Pointer = is_pointer
  test_of Parameter = is_tag

  types_row : (kind : Dynamic) (m : _) (row : Row_of-TypePart m) (v i : ℕ) → rungs_from p (layout p.types) here i (type_tests p (layout p.types) here row (test_of kind) v) ≡ rungs_in p here v (coded_types kind i (items-the_row-TypePart m row))
  types_row kind m end_of-TypePart v i = refl
  types_row Pointer m (more_of-TypePart r s body rest) v i = ap (λ (rs : List Rung). record { test = type_test p (layout p.types) here is_pointer v r; part = i } ∷ rs) (types_row Pointer _ rest v (suc i))
  types_row Parameter m (more_of-TypePart r s body rest) v i = ap (λ (rs : List Rung). record { test = type_test p (layout p.types) here is_tag v r; part = i } ∷ rs) (types_row Parameter _ rest v (suc i))

  ---- Each statement with blocks

  pub deed_if : (ps : Vec Branch Global) (ss : Vec Stmt Global) → deed_in p here (If ps ss) ≡ alternatives_in p here ps.items ss.items (deeds_in p here ss.items)
  deed_if ps ss =
      let r = parts_of (If ps ss) in
      let o = body_of (If ps ss) in
      let list_is = items_hidden-the_row-Stmt-0 ss in
      alternatives_row r.0 r.1 ss.items (assigned_all o.1) (deeds p (layout p.types) here o.1) (deeds_in p here ss.items) (assigned_row o.0 o.1 ∙ ap assigned_list list_is) (deeds_row o.0 o.1 ∙ ap (deeds_in p here) list_is)
      ∙ ap (λ l. alternatives_in p here l ss.items (deeds_in p here ss.items)) (items_hidden-the_row-Branch-1 ps)

  pub deed_while : (ps : Vec Branch Global) → deed_in p here (While ps) ≡ loop_in p here ps.items
  deed_while ps =
      let r = parts_of (While ps) in
      ap₂ (λ k rs. loop (registers_in p here k) rs) (branches_row r.0 r.1) (rounds_row r.0 r.1) ∙ ap (loop_in p here) (items_hidden-the_row-Branch-1 ps)

  pub deed_repeat : (ss : Vec Stmt Global) (x : Checked) → deed_in p here (Repeat ss x) ≡ repeat_in p here ss.items x
  deed_repeat ss x =
      let r = body_of (Repeat ss x) in
      ap₂ (λ k d. repeat (registers_in p here k) d (expr_in p here x.form).test) (assigned_row r.0 r.1) (deeds_row r.0 r.1) ∙ ap (λ l. repeat_in p here l x) (items_hidden-the_row-Stmt-0 ss)

  module _ {u v w z : View} {a : ℕ} where
    -- FOR, by its loop
    counts_held : (f : Box ForLoop Global) → Steps u v (assign (home_of (named_in p here f.value.variable) (small_in p f.value.variable)) (expr_in p here f.value.first.form).value) → Gives v w (expr_in p here f.value.limit.form).value a
        → Steps w z (count_in p here f.value.variable f.value.step f.value.body.items a) → Steps u z (deed_in p here (For f))
    counts_held f first limit rest =
        let d = f.value.variable in
        let step = f.value.step in
        let r = body_of (For f) in
        let list_is = items_hidden-the_row-Stmt-0 f.value.body in
        steps_on first (steps_after (λ l. loop (registers_in p here (either (itself d) (assigned_all r.1))) (record { test = reached_in p here d l step; body = deeds p (layout p.types) here r.1 >>= λ _. advance_in p here d step } ∷ [])) limit (steps_as
        (ap₂ (λ k b. loop (registers_in p here (either (itself d) k)) (record { test = reached_in p here d a step; body = b >>= λ _. advance_in p here d step } ∷ [])) (assigned_row r.0 r.1 ∙ ap assigned_list list_is) (deeds_row r.0 r.1 ∙ ap (deeds_in p here) list_is)) rest))

    pub steps_count : (f : Box ForLoop Global) (l : ForLoop) → l ≡ f.value → Steps u v (assign (home_of (named_in p here l.variable) (small_in p l.variable)) (expr_in p here l.first.form).value) → Gives v w (expr_in p here l.limit.form).value a
        → Steps w z (count_in p here l.variable l.step l.body.items a) → Steps u z (deed_in p here (For f))
    steps_count f l is = subst (λ (k : ForLoop). Steps u v (assign (home_of (named_in p here k.variable) (small_in p k.variable)) (expr_in p here k.first.form).value) → Gives v w (expr_in p here k.limit.form).value a
        → Steps w z (count_in p here k.variable k.step k.body.items a) → Steps u z (deed_in p here (For f)))
        (sym is) (counts_held f)

  module _ {u v w : View} {a : ℕ} where
    pub steps_case_on : (x : Checked) (ps : Vec CasePart Global) → Gives u v (expr_in p here x.form).value a → Steps v w (case_in p here ps.items a) → Steps u w (deed_in p here (Case x ps))
    steps_case_on x ps value rest =
        let r = cases_of (Case x ps) in
        let list_is = items_hidden-the_row-CasePart-2 ps in
        steps_after (λ v. case (registers_in p here (assigned_case_parts r.1)) (rungs_from p (layout p.types) here 0 (label_tests p (layout p.types) here r.1 v)) (case_bodies p (layout p.types) here r.1) (λ out args. Trap 6)) value (steps_as
        (ap₂ (λ k ds. case (registers_in p here k) (rungs_from p (layout p.types) here 0 (label_tests p (layout p.types) here r.1 a)) ds (λ out args. Trap 6)) (case_parts_row r.0 r.1) (case_bodies_row r.0 r.1)
        ∙ ap (λ rs. case (registers_in p here (assigned_cases (items-the_row-CasePart r.0 r.1))) rs (case_bodies_in p here (items-the_row-CasePart r.0 r.1)) (λ out args. Trap 6)) (rungs_row r.0 r.1 a 0)
        ∙ ap (λ l. case_in p here l a) list_is) rest)

    pub steps_case_pointer : (x : Checked) (ps : Vec TypePart Global) → Gives u v (expr_in p here x.form).value a → Steps v w (types_in p here Pointer ps.items a) → Steps u w (deed_in p here (CasePointer x ps))
    steps_case_pointer x ps value rest =
        let r = types_of (CasePointer x ps) in
        let list_is = items_hidden-the_row-TypePart-3 ps in
        steps_after (λ v. case (registers_in p here (assigned_type_parts r.1)) (rungs_from p (layout p.types) here 0 (type_tests p (layout p.types) here r.1 is_pointer v)) (type_bodies p (layout p.types) here r.1) (λ out args. Jump out args)) value (steps_as
        (ap₂ (λ k ds. case (registers_in p here k) (rungs_from p (layout p.types) here 0 (type_tests p (layout p.types) here r.1 is_pointer a)) ds (λ out args. Jump out args)) (type_parts_row r.0 r.1) (type_bodies_row r.0 r.1)
        ∙ ap (λ rs. case (registers_in p here (assigned_types (items-the_row-TypePart r.0 r.1))) rs (type_bodies_in p here (items-the_row-TypePart r.0 r.1)) (λ out args. Jump out args)) (types_row Pointer r.0 r.1 a 0)
        ∙ ap (λ l. types_in p here Pointer l a) list_is) rest)

    pub steps_case_parameter : (d : Designator) (ps : Vec TypePart Global) → Gives u v (tag_of (named_in p here d)) a → Steps v w (types_in p here Parameter ps.items a) → Steps u w (deed_in p here (CaseParameter d ps))
    steps_case_parameter d ps tag rest =
        let r = types_of (CaseParameter d ps) in
        let list_is = items_hidden-the_row-TypePart-3 ps in
        steps_after (λ v. case (registers_in p here (assigned_type_parts r.1)) (rungs_from p (layout p.types) here 0 (type_tests p (layout p.types) here r.1 is_tag v)) (type_bodies p (layout p.types) here r.1) (λ out args. Jump out args)) tag (steps_as
        (ap₂ (λ k ds. case (registers_in p here k) (rungs_from p (layout p.types) here 0 (type_tests p (layout p.types) here r.1 is_tag a)) ds (λ out args. Jump out args)) (type_parts_row r.0 r.1) (type_bodies_row r.0 r.1)
        ∙ ap (λ rs. case (registers_in p here (assigned_types (items-the_row-TypePart r.0 r.1))) rs (type_bodies_in p here (items-the_row-TypePart r.0 r.1)) (λ out args. Jump out args)) (types_row Parameter r.0 r.1 a 0)
        ∙ ap (λ l. types_in p here Parameter l a) list_is) rest)
