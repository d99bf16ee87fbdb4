-- How much code a procedure becomes at most, by the parts of its tree.
use Rattle.std.proofs.Common.{◌≡◌, ℕ, zero, suc, ◌+◌, ◌-◌, ◌*◌, ◌≤◌, List, [], ◌∷◌, map, length, length-append, Bool, true, false, Option, Some, None, refl, slice_get, arith}
use Rattle.std.proofs.lemmas.List.{length-map}
use Rattle.ob_types.specs.Meaning.{is_byte, kind_in, length_of_kind, element_kind, record_of_kind}
use Rattle.ob_types.specs.declared.tree.Binary.TheVariants.{Add, Subtract, Union, Difference}
use Rattle.block_runs.specs.declared.code.Code.TheVariants.{Arg}
use Rattle.block_runs.specs.declared.code.Code.TheVariants.{Local as LocalOp, Zero as ZeroOp}
use Rattle.block_runs.specs.declared.end.End.{End}
use Rattle.block_runs.specs.declared.end.End.TheVariants.{Jump, Trap}
use Rattle.ssa_lowered.specs.Pieces.{Low, Mask}
use Rattle.ssa_lowered.specs.Control.{Test, Lowers, Rung}
use Rattle.ssa_lowered.specs.Values.{condition, Named, At, Held, is_pointer, is_tag}
use Rattle.ssa_lowered.specs.Statements.{Deed}
use Rattle.ssa_lowered.specs.Lowered.{Here, by_mode, parameter_by, variable_of, local_by, based, descriptor, level, all_guarded, small, expr, linked, link, named, selected, select, called, argument, arguments, value, test, home, label_test, type_test, rungs_from, case_of, labels_of, records_of, label_tests, type_tests, bound, deed, deeds, alternatives, guarded_rounds, case_bodies, type_bodies, deeds_of, answer, enters, whole}
use Rattle.ssa_lowered.proofs.Everywhere.{Each, each_on}
use Rattle.wrapping_numbers.specs.Numbers.{unsigned}
use Rattle.ob_types.specs.Layout.{kind_of, record_cells}
use Rattle.ob_types.specs.declared.types.TypeKind.TheVariants.{Bool as Boolean}
use Rattle.ob_types.specs.declared.types.Formal.{Formal}
use Rattle.ob_types.specs.declared.tree.Expr.{Expr, Literal, Routine, Load, Guard', Unary', Chain', Compare', CompareTexts', In', IsPointer', IsParameter, Byte', Length, Call', Row_of-Link, end_of-Link, more_of-Link}
use Rattle.ob_types.specs.declared.tree.Link.{Link, Operate, Element, Elements'}
use Rattle.ob_types.specs.declared.tree.Link.{And as AndLink, Or as OrLink}
use Rattle.ob_types.specs.declared.tree.Base.{Base}
use Rattle.ob_types.specs.declared.tree.Base.TheVariants.{Done, Global, Local, Parameter, Text}
use Rattle.ob_types.specs.declared.tree.Designator.{Designator, Whole, Part', Row_of-Selector, end_of-Selector, more_of-Selector}
use Rattle.ob_types.specs.declared.tree.Selector.{Selector, Index, Field, Dereference, Narrow}
use Rattle.ob_types.specs.declared.tree.Call.{Row_of-Argument, end_of-Argument, more_of-Argument, Direct', Indirect'}
use Rattle.ob_types.specs.declared.tree.Call.{Call as CallForm}
use Rattle.ob_types.specs.declared.tree.Argument.{Argument, ByValue, ByPlace, ByRecord, ByOpen}
use Rattle.ob_types.specs.declared.statements.Checked.{Checked}
use Rattle.ob_types.specs.declared.statements.Label.{Label}
use Rattle.ob_types.specs.declared.statements.Label.TheVariants.{One, Range}
use Rattle.ob_types.specs.declared.statements.Stmt.{Stmt, Assign, CopyArray, CopyRecord, Increase, Decrease, Include, Exclude, New, Assert, OutChar, OutInt, OutString, OutLn, InChar, If', While', Repeat', For', Case', CasePointer', CaseParameter', Row_of-Stmt, end_of-Stmt, more_of-Stmt, Row_of-Branch, end_of-Branch, more_of-Branch, Row_of-CasePart, end_of-CasePart, more_of-CasePart, Row_of-TypePart, end_of-TypePart, more_of-TypePart}
use Rattle.ob_types.specs.declared.statements.Stmt.{Call as Invoke}
use Rattle.ob_types.specs.declared.program.Program.{Program}
use Rattle.ssa_lowered.specs.Data.{Layout, rounded}
use Rattle.ssa_lowered.specs.Variables.{Site, Register, Memory, Variable, some_structured, further, zeroing, first_value, store_first, stored, first_of, opened, is_structured, assigned_all}
use Rattle.lowered_valid.specs.TreeSizes.{in_expr, in_links, in_link, in_designator, in_selectors, in_selector, in_call, in_argument, in_arguments, in_checked, in_statement, in_row, in_branches, in_case_parts, in_type_parts, in_list, in_answer}
use Rattle.lowered_valid.proofs.Costs.{Costs, CostsTest, at_most, test_at_most, seq, free, emitted, done, c_const, f_value, f_branch, f_and, f_or, c_choose, Rounds, c_loop, c_repeat, Bodies, c_case, c_data_at, c_local_at, c_element, c_field, c_dereferenced, c_narrowed, c_binary, c_compared, c_texts, c_guarded, c_contained, c_with_element, c_with_range, c_is_pointer, c_is_tag, c_tag_of, c_as_byte, c_length_of, c_by_word, c_address, c_by_record, c_by_open, c_also, c_call, c_call_at, c_with_result, c_without_result, c_home_of, c_load, Good, g_valued, g_tested, g_one, c_store, c_assign, c_if, c_change_number, c_change_set, c_new, c_copy_array, c_copy_record, c_assert, c_out_char, c_out_int, c_out_string, c_in_char, c_for}
use Rattle.block_runs.specs.declared.code.Code.TheVariants.{Zero as ZeroOp}

good_at_most : {n k : ℕ} {x : Lowers} → Good n x → n ≤ k → Good k x
good_at_most q l = record { value = at_most q.value l; test = test_at_most q.test l }

module _ (p : Program) (l : Layout) (here : Here) where
  c_local_by : (s : Site) (x : ℕ) → Costs 1 (local_by p l here s x)
  c_local_by Register x = at_most (free (Held x)) (omega arith)
  c_local_by (Memory n) x = c_local_at (here.bytes - n)

  c_parameter_by : (x : Option Formal) (w : ℕ) → Costs 1 (parameter_by x w)
  c_parameter_by (Some x) w = at_most (free (by_mode x.mode w)) (omega arith)
  c_parameter_by None w = seq (c_const 0) (λ a. free (At a))

  c_based : (b : Base) → Costs 1 (based p l here b)
  c_based Done = c_data_at 0
  c_based (Global m v) = c_data_at _
  c_based (Local x) = c_local_by (variable_of p l here x).site x
  c_based (Parameter k) = c_parameter_by (slice_get here.procedure.formals k) _
  c_based (Text k) = c_data_at _

  c_all_guarded : (rs : List ℕ) (a : ℕ) {x : Low ℕ} → Costs a x → Costs (a + 2 * length rs) (all_guarded p l here rs x)
  c_all_guarded [] a q = at_most q (omega arith)
  c_all_guarded (r ∷ rs) a q = at_most (c_all_guarded rs (a + 2) (c_guarded (descriptor p l here r) (level p l here r) q)) (omega arith)

  abbrev place : Designator → ℕ
  place d = 16 * in_designator d

  mutual
    g_expr : (x : Expr) → Good (16 * in_expr x) (expr p l here x)
    g_expr (Literal n) = g_valued (c_const n) (omega arith)
    g_expr (Routine g) = g_valued (emitted _ _) (omega arith)
    g_expr (Load d) = g_valued (c_load (c_home_of (small p l here d) (c_named d))) (omega arith)
    g_expr (Guard' _ d rs) = g_valued (c_all_guarded rs (place d + 1 + 1) (c_load (c_home_of (small p l here d) (c_named d)))) (omega arith)
    g_expr (Unary' op _ x) = g_one op (g_expr x) (omega arith)
    g_expr (Chain' _ x _ links) = g_linked links (in_expr x) (g_expr x)
    g_expr (Compare' r _ x _ y) = record {
      value = at_most (c_compared r (g_expr x).value (g_expr y).value) (omega arith);
      test = test_at_most (f_branch (condition r) (g_expr x).value (g_expr y).value) (omega arith);
    }
    g_expr (CompareTexts' r _ d _ e) = g_valued (c_texts l.character r (length_of_kind (kind_in d)) (length_of_kind (kind_in e)) (c_named d) (c_named e)) (omega arith)
    g_expr (In' _ x _ s) = g_valued (c_contained (g_expr x).value (g_expr s).value) (omega arith)
    g_expr (IsPointer' _ x r) = g_valued (seq (g_expr x).value (λ a. c_is_pointer (descriptor p l here r) (level p l here r) a)) (omega arith)
    g_expr (IsParameter d r) = g_valued (seq (c_tag_of (c_named d)) (λ a. c_is_tag (descriptor p l here r) (level p l here r) a)) (omega arith)
    g_expr (Byte' _ x) = g_valued (c_as_byte (g_expr x).value) (omega arith)
    g_expr (Length d) = g_valued (c_length_of (length_of_kind (kind_in d)) (c_named d)) (omega arith)
    g_expr (Call' _ c) = g_valued (c_with_result (c_called c)) (omega arith)

    g_linked : {m : _} (row : Row_of-Link m) (n : ℕ) {x : Lowers} → Good (16 * n) x → Good (16 * (n + in_links row)) (linked p l here row x)
    g_linked end_of-Link n q = good_at_most q (omega arith)
    g_linked (more_of-Link k more) n q = good_at_most (g_linked more (n + in_link k) (g_link k n q)) (omega arith)

    g_link : (k : Link) (n : ℕ) {x : Lowers} → Good (16 * n) x → Good (16 * (n + in_link k)) (link p l here k x)
    g_link (Operate op y) n q = g_valued (c_binary op q.value (g_expr y).value) (omega arith)
    g_link (AndLink y) n q = g_tested (f_and q.test (g_expr y).test) (omega arith)
    g_link (OrLink y) n q = g_tested (f_or q.test (g_expr y).test) (omega arith)
    g_link (Element y) n q = g_valued (c_with_element q.value (g_expr y).value) (omega arith)
    g_link (Elements' _ y _ z) n q = g_valued (c_with_range q.value (g_expr y).value (g_expr z).value) (omega arith)

    c_named : (d : Designator) → Costs (place d) (named p l here d)
    c_named (Whole b k) = at_most (c_based b) (omega arith)
    c_named (Part' _ b k _ row) = at_most (c_selected row 1 (at_most (c_based b) (omega arith))) (omega arith)

    c_selected : {m : _} (row : Row_of-Selector m) (n : ℕ) {d : Low Named} → Costs (16 * n) d → Costs (16 * (n + in_selectors row)) (selected p l here row d)
    c_selected end_of-Selector n q = at_most q (omega arith)
    c_selected (more_of-Selector s more) n q = at_most (c_selected more (n + in_selector s) (c_select s n q)) (omega arith)

    c_select : (s : Selector) (n : ℕ) {d : Low Named} → Costs (16 * n) d → Costs (16 * (n + in_selector s)) (select p l here s d)
    c_select (Index n k x) m q = at_most (c_element n (l.bytes k) q (g_expr x).value) (omega arith)
    c_select (Field r k) n q = at_most (c_field (l.offset r k) q) (omega arith)
    c_select (Dereference rs) n q = at_most (c_dereferenced (c_all_guarded rs (16 * n + 1 + 1) (c_load (c_home_of false q)))) (omega arith)
    c_select (Narrow r) n q = at_most (c_narrowed (descriptor p l here r) (level p l here r) q) (omega arith)

    c_called : (c : CallForm) → Costs (16 * in_call c) (called p l here c)
    c_called (Direct' g _ args) = at_most (c_call g (c_arguments args)) (omega arith)
    c_called (Indirect' d _ args) = at_most (c_call_at (c_load (c_home_of (small p l here d) (c_named d))) (c_arguments args)) (omega arith)

    c_argument : (a : Argument) → Costs (16 * in_argument a) (argument p l here a)
    c_argument (ByValue x) = at_most (c_by_word (g_expr x).value) (omega arith)
    c_argument (ByPlace d) = at_most (c_by_word (c_address (c_named d))) (omega arith)
    c_argument (ByRecord d) = at_most (c_by_record _ (c_named d)) (omega arith)
    c_argument (ByOpen d) = at_most (c_by_open (length_of_kind (kind_in d)) (c_named d)) (omega arith)

    c_arguments : {m : _} (row : Row_of-Argument m) → Costs (16 * in_arguments row) (arguments p l here row)
    c_arguments end_of-Argument = at_most (free []) (omega arith)
    c_arguments (more_of-Argument x more) = at_most (c_also (c_argument x) (c_arguments more)) (omega arith)

  c_home : (d : Designator) → Costs (place d + 1) (home p l here d)
  c_home d = c_home_of (small p l here d) (c_named d)

  c_value : (x : Checked) → Costs (16 * in_checked x) (value p l here x)
  c_value x = (g_expr x.form).value

  c_test : (x : Checked) → CostsTest (16 * in_checked x) (test p l here x)
  c_test x = (g_expr x.form).test

  ---- CASE

  f_label : (v : ℕ) (x : Label) → CostsTest 4 (label_test p l here v x)
  f_label v (One a) = test_at_most (f_branch 0 (free v) (c_const (unsigned a))) (omega arith)
  f_label v (Range a b) = f_and (f_branch 10 (free v) (c_const (unsigned a))) (f_branch 13 (free v) (c_const (unsigned b)))

  abbrev Cheap : Test → Type 0
  Cheap t = CostsTest 4 t

  f_labels : (v : ℕ) (ls : List Label) → Each Cheap (map (label_test p l here v) ls)
  f_labels v [] = tt
  f_labels v (x ∷ xs) = (f_label v x, f_labels v xs)

  abbrev Tests : List (List Test) → Type 0
  Tests tests = Each (λ (ts : List Test). Each Cheap ts) tests

  f_all_labels : (v : ℕ) (lss : List (List Label)) → Tests (map (λ ls. map (label_test p l here v) ls) lss)
  f_all_labels v [] = tt
  f_all_labels v (ls ∷ lss) = (f_labels v ls, f_all_labels v lss)

  f_all_types : (is : ℕ → ℕ → ℕ → Low ℕ) → ((g j x : ℕ) → Costs 2 (is g j x)) → (v : ℕ) (rs : List ℕ) → Tests (map (λ r. type_test p l here is v r ∷ []) rs)
  f_all_types is q v [] = tt
  f_all_types is q v (r ∷ rs) = ((test_at_most (f_value (q (descriptor p l here r) (level p l here r) v)) (omega arith), tt), f_all_types is q v rs)

  abbrev rung : ℕ → Test → Rung
  rung i t = record { test = t; part = i }

  abbrev Rungs : List Rung → Type 0
  Rungs rs = Each (λ (r : Rung). CostsTest 4 r.test) rs

  each_rung : (i : ℕ) (ts : List Test) → Each Cheap ts → Rungs (map (λ (t : Test). rung i t) ts)
  each_rung i [] q = tt
  each_rung i (t ∷ ts) q = (q.0, each_rung i ts q.1)

  each_rungs : (i : ℕ) (tests : List (List Test)) → Tests tests → Rungs (rungs_from p l here i tests)
  each_rungs i [] q = tt
  each_rungs i (ts ∷ more) q = each_on (λ (r : Rung). CostsTest 4 r.test) (map (λ (t : Test). rung i t) ts) (rungs_from p l here (suc i) more) (each_rung i ts q.0) (each_rungs (suc i) more q.1)

  -- how many tests there are
  abbrev tests_in : List (List Test) → ℕ
  tests_in [] = 0
  tests_in (ts ∷ more) = length ts + tests_in more

  many_rungs : (i : ℕ) (tests : List (List Test)) → length (rungs_from p l here i tests) ≡ tests_in tests
  many_rungs i [] = refl
  many_rungs i (ts ∷ more) =
      let a = length-append (map (λ (t : Test). rung i t) ts) (rungs_from p l here (suc i) more) in
      let b = length-map ts (λ (t : Test). rung i t) in
      let c = many_rungs (suc i) more in
      omega (arith, a, b, c)

  c_case_of : {a : ℕ} {x : Low ℕ} (mask : Mask) (tests : ℕ → List (List Test)) (bodies : List Deed) (unmatched : ℕ → List ℕ → End) (n k : ℕ) → Costs a x → ((v : ℕ) → Tests (tests v)) → ((v : ℕ) → tests_in (tests v) ≡ k) → Bodies n bodies
      → Costs (a + (4 * k + (n + 2))) (case_of p l here mask x tests bodies unmatched)
  c_case_of mask tests bodies unmatched n k q r e t =
      seq q (λ v. at_most (c_case n mask (rungs_from p l here 0 (tests v)) bodies unmatched (each_rungs 0 (tests v) (r v)) t) (let a = many_rungs 0 (tests v) in let b = e v in omega (arith, a, b)))

  -- the parts of a CASE: tests, and the rest
  abbrev labels_in : {m : _} → Row_of-CasePart m → ℕ
  labels_in end_of-CasePart = 0
  labels_in (more_of-CasePart labels _ body more) = length labels + labels_in more

  abbrev bodies_in : {m : _} → Row_of-CasePart m → ℕ
  bodies_in end_of-CasePart = 0
  bodies_in (more_of-CasePart labels _ body more) = suc (16 * in_row body) + bodies_in more

  case_parts : {m : _} (row : Row_of-CasePart m) → 4 * labels_in row + bodies_in row ≤ 16 * in_case_parts row
  case_parts end_of-CasePart = omega arith
  case_parts (more_of-CasePart labels _ body more) = let a = case_parts more in omega (arith, a)

  many_labels : {m : _} (row : Row_of-CasePart m) (v : ℕ) → tests_in (label_tests p l here row v) ≡ labels_in row
  many_labels end_of-CasePart v = refl
  many_labels (more_of-CasePart labels _ body more) v = let a = many_labels more v in let b = length-map labels (label_test p l here v) in omega (arith, a, b)

  abbrev types_in : {m : _} → Row_of-TypePart m → ℕ
  types_in end_of-TypePart = 0
  types_in (more_of-TypePart r _ body more) = suc (types_in more)

  abbrev type_bodies_in : {m : _} → Row_of-TypePart m → ℕ
  type_bodies_in end_of-TypePart = 0
  type_bodies_in (more_of-TypePart r _ body more) = suc (16 * in_row body) + type_bodies_in more

  type_parts : {m : _} (row : Row_of-TypePart m) → 4 * types_in row + type_bodies_in row ≤ 16 * in_type_parts row
  type_parts end_of-TypePart = omega arith
  type_parts (more_of-TypePart r _ body more) = let a = type_parts more in omega (arith, a)

  many_types : {m : _} (row : Row_of-TypePart m) (is : ℕ → ℕ → ℕ → Low ℕ) (v : ℕ) → tests_in (type_tests p l here row is v) ≡ types_in row
  many_types end_of-TypePart is v = refl
  many_types (more_of-TypePart r _ body more) is v = let a = many_types more is v in omega (arith, a)

  mutual
    c_deed : (s : Stmt) → Costs (16 * in_statement s) (deed p l here s)
    c_deed (Assign d x) = at_most (c_assign (c_home d) (c_value x)) (omega arith)
    c_deed (CopyArray d e) = at_most (c_copy_array (length_of_kind (kind_in d)) (length_of_kind (kind_in e)) (l.bytes (element_kind (kind_in d))) (c_named d) (c_named e)) (omega arith)
    c_deed (CopyRecord d e) = at_most (c_copy_record (l.record_bytes (record_of_kind (kind_in d))) (c_named d) (c_named e)) (omega arith)
    c_deed (Increase d x) = at_most (c_change_number Add (is_byte (kind_in d)) (c_home d) (c_value x)) (omega arith)
    c_deed (Decrease d x) = at_most (c_change_number Subtract (is_byte (kind_in d)) (c_home d) (c_value x)) (omega arith)
    c_deed (Include d x) = at_most (c_change_set Union (c_home d) (c_value x)) (omega arith)
    c_deed (Exclude d x) = at_most (c_change_set Difference (c_home d) (c_value x)) (omega arith)
    c_deed (New d) = at_most (c_new (record_cells p.types (record_of_kind (kind_in d))) (rounded (l.record_bytes (record_of_kind (kind_in d)))) (descriptor p l here (record_of_kind (kind_in d))) (c_home d)) (omega arith)
    c_deed (Assert x) = at_most (c_assert (c_value x)) (omega arith)
    c_deed (OutChar x) = at_most (c_out_char (c_value x)) (omega arith)
    c_deed (OutInt x n) = at_most (c_out_int (c_value x) (c_value n)) (omega arith)
    c_deed (OutString d) = at_most (c_out_string l.character (length_of_kind (kind_in d)) (c_named d)) (omega arith)
    c_deed OutLn = at_most (c_out_char (c_const 10)) (omega arith)
    c_deed (InChar d) = at_most (c_in_char (l.is_small Boolean) (l.is_small (kind_in d)) (c_named d)) (omega arith)
    c_deed (Invoke c) = at_most (c_without_result (c_called c)) (omega arith)
    c_deed (If' _ parts _ other) = at_most (c_alternatives parts (assigned_all other) (c_deeds other)) (omega arith)
    c_deed (While' _ parts) = at_most (c_loop (16 * in_branches parts) _ (guarded_rounds p l here parts) (each_round parts)) (omega arith)
    c_deed (Repeat' _ body x) = at_most (c_repeat _ (c_deeds body) (c_test x)) (omega arith)
    c_deed (For' _ d x y step _ body) =
        at_most (c_for _ (bound p l here step) (c_assign (c_home d) (c_value x)) (c_value y) (c_load (c_home d))
        (seq (c_deeds body) (λ _. c_assign (c_home d) (c_binary Add (c_load (c_home d)) (c_const (unsigned step)))))) (omega arith)
    c_deed (Case' x _ parts) =
        at_most (c_case_of _ (label_tests p l here parts) (case_bodies p l here parts) (λ out args. Trap 6) (bodies_in parts) (labels_in parts) (c_value x) (λ v. f_all_labels v (labels_of p l here parts)) (many_labels parts) (each_case_body parts)) (let a = case_parts parts in omega (arith, a))
    c_deed (CasePointer' x _ parts) =
        at_most (c_case_of _ (type_tests p l here parts is_pointer) (type_bodies p l here parts) (λ out args. Jump out args) (type_bodies_in parts) (types_in parts) (c_value x) (λ v. f_all_types is_pointer c_is_pointer v (records_of p l here parts)) (many_types parts is_pointer) (each_type_body parts)) (let a = type_parts parts in omega (arith, a))
    c_deed (CaseParameter' d _ parts) =
        at_most (c_case_of _ (type_tests p l here parts is_tag) (type_bodies p l here parts) (λ out args. Jump out args) (type_bodies_in parts) (types_in parts) (c_tag_of (c_named d)) (λ v. f_all_types is_tag c_is_tag v (records_of p l here parts)) (many_types parts is_tag) (each_type_body parts)) (let a = type_parts parts in omega (arith, a))

    c_deeds : {m : _} (row : Row_of-Stmt m) → Costs (16 * in_row row) (deeds p l here row)
    c_deeds end_of-Stmt = at_most (free tt) (omega arith)
    c_deeds (more_of-Stmt s more) = at_most (seq (c_deed s) (λ _. c_deeds more)) (omega arith)

    c_alternatives : {m : _} (row : Row_of-Branch m) (mask : Mask) {n : ℕ} {other : Deed} → Costs n other → Costs (16 * in_branches row + n) (alternatives p l here row mask other)
    c_alternatives end_of-Branch mask q = at_most q (omega arith)
    c_alternatives (more_of-Branch x _ body more) mask q = at_most (c_choose _ (c_test x) (c_deeds body) (c_alternatives more mask q)) (omega arith)

    each_round : {m : _} (row : Row_of-Branch m) → Rounds (16 * in_branches row) (guarded_rounds p l here row)
    each_round end_of-Branch = tt
    each_round (more_of-Branch x _ body more) = (16 * in_checked x, 16 * in_row body, 16 * in_branches more, c_test x, c_deeds body, each_round more, omega arith)

    each_case_body : {m : _} (row : Row_of-CasePart m) → Bodies (bodies_in row) (case_bodies p l here row)
    each_case_body end_of-CasePart = tt
    each_case_body (more_of-CasePart labels _ body more) = (16 * in_row body, bodies_in more, c_deeds body, each_case_body more, omega arith)

    each_type_body : {m : _} (row : Row_of-TypePart m) → Bodies (type_bodies_in row) (type_bodies p l here row)
    each_type_body end_of-TypePart = tt
    each_type_body (more_of-TypePart r _ body more) = (16 * in_row body, type_bodies_in more, c_deeds body, each_type_body more, omega arith)

  c_deeds_of : (ss : List Stmt) → Costs (16 * in_list ss) (deeds_of p l here ss)
  c_deeds_of [] = at_most (free tt) (omega arith)
  c_deeds_of (s ∷ more) = at_most (seq (c_deed s) (λ _. c_deeds_of more)) (omega arith)

  c_answer : (x : Option Checked) → Costs (16 * in_answer x) (answer p l here x)
  c_answer None = at_most (free None) (omega arith)
  c_answer (Some x) = at_most (seq (c_value x) (λ v. free (Some v))) (omega arith)

  ---- A whole procedure

  c_further : (i n : ℕ) → Costs n (further i n)
  c_further i zero = free tt
  c_further i (suc n) = at_most (seq (emitted (Arg i) []) (λ _. c_further (suc i) n)) (omega arith)

  c_zeroing : (b : Bool) (size : ℕ) → Costs 3 (zeroing b here.bytes size)
  c_zeroing false size = at_most (free tt) (omega arith)
  c_zeroing true size = seq (emitted (LocalOp here.bytes) []) (λ a. seq (c_const size) (λ b. done ZeroOp (a ∷ b ∷ [])))

  c_first_value : (w : Option ℕ) → Costs 1 (first_value w)
  c_first_value None = c_const 0
  c_first_value (Some w) = at_most (free w) (omega arith)

  c_store_first : (v : Variable) (s : Site) → Costs 3 (store_first p.types l here.bytes v s)
  c_store_first v Register = at_most (free tt) (omega arith)
  c_store_first v (Memory n) = c_if (is_structured (kind_of p.types v.type_number)) (at_most (free tt) (omega arith))
      (seq (emitted (LocalOp (here.bytes - n)) []) (λ a. seq (c_first_value v.word) (λ u. c_store (l.is_small (kind_of p.types v.type_number)) a u)))

  c_stored : (vs : List Variable) → Costs (3 * length vs) (stored p.types l here.bytes vs)
  c_stored [] = at_most (free tt) (omega arith)
  c_stored (v ∷ vs) = at_most (seq (c_store_first v v.site) (λ _. c_stored vs)) (omega arith)

  c_first_of : (w : Option ℕ) (s : Site) → Costs 1 (first_of w s)
  c_first_of w Register = c_first_value w
  c_first_of w (Memory n) = at_most (free 0) (omega arith)

  c_opened : (vs : List Variable) → Costs (length vs) (opened vs)
  c_opened [] = free []
  c_opened (v ∷ vs) = at_most (seq (c_first_of v.word v.site) (λ u. seq (c_opened vs) (λ more. free (u ∷ more)))) (omega arith)

  c_enters : (env : List ℕ) → Costs 0 (enters p l here env)
  c_enters env = record { by = λ c. omega arith }

  pub whole_costs : (words size : ℕ) → Costs (words + (3 + (4 * length here.variables + (16 * in_list here.procedure.body + 16 * in_answer here.procedure.answer)))) (whole p l here words size)
  whole_costs words size =
      at_most (seq (c_further 4 (words - 4)) (λ _. seq (c_zeroing (some_structured p.types here.procedure.locals) size) (λ _. seq (c_stored here.variables) (λ _. seq (c_opened here.variables) (λ env. seq (c_enters env) (λ _. seq (c_deeds_of here.procedure.body) (λ _. c_answer here.procedure.answer)))))))
      (omega arith)
