-- The operations of the tree's constructs fit, where the tree is well-formed.
use Rattle.std.proofs.Common.{◌≡◌, ℕ, zero, suc, ◌+◌, ◌-◌, ◌<◌, ◌≤◌, List, [], ◌∷◌, map, Bool, true, false, ◌&&◌, Option, Some, None, refl, sym, ap, subst, slice_get, arith}
use Rattle.std.specs.Prelude.{is_some, nat_lt, nat_le}
use Rattle.std.proofs.lemmas.Bool.{lt-ltb, le-leb, and_from}
use Rattle.std.proofs.lemmas.List.Sums.{sum_by-cons}
use Rattle.wrapping_numbers.specs.Numbers.{unsigned}
use Rattle.ob_types.specs.Layout.{kind_of, record_cells}
use Rattle.ob_types.specs.Meaning.{kind_in, length_of_kind, element_kind, record_of_kind, is_byte}
use Rattle.ob_types.specs.declared.types.TypeKind.TheVariants.{Bool as Boolean}
use Rattle.ob_types.specs.declared.types.Formal.{Formal}
use Rattle.ob_types.specs.declared.tree.Binary.TheVariants.{Add, Subtract, Union, Difference}
use Rattle.ob_types.specs.declared.tree.Expr.{Expr, Literal, Routine, Load, Guard', Unary', Chain', Compare', CompareTexts', In', IsPointer', IsParameter, Byte', Length, Call', Row_of-Link, end_of-Link, more_of-Link}
use Rattle.ob_types.specs.declared.tree.Link.{Link, Operate, Element, Elements'}
use Rattle.ob_types.specs.declared.tree.Link.{And as AndLink, Or as OrLink}
use Rattle.ob_types.specs.declared.tree.Base.{Base}
use Rattle.ob_types.specs.declared.tree.Base.TheVariants.{Done, Global, Local, Parameter, Text}
use Rattle.ob_types.specs.declared.tree.Designator.{Designator, Whole, Part', Row_of-Selector, end_of-Selector, more_of-Selector}
use Rattle.ob_types.specs.declared.tree.Selector.{Selector, Index, Field, Dereference, Narrow}
use Rattle.ob_types.specs.declared.tree.Call.{Row_of-Argument, end_of-Argument, more_of-Argument, Direct', Indirect'}
use Rattle.ob_types.specs.declared.tree.Call.{Call as CallForm}
use Rattle.ob_types.specs.declared.tree.Argument.{Argument, ByValue, ByPlace, ByRecord, ByOpen}
use Rattle.ob_types.specs.declared.statements.Checked.{Checked}
use Rattle.ob_types.specs.declared.statements.Label.{Label}
use Rattle.ob_types.specs.declared.statements.Label.TheVariants.{One, Range}
use Rattle.ob_types.specs.declared.statements.Stmt.{Stmt, Assign, CopyArray, CopyRecord, Increase, Decrease, Include, Exclude, New, Assert, OutChar, OutInt, OutString, OutLn, InChar, If', While', Repeat', For', Case', CasePointer', CaseParameter', Row_of-Stmt, end_of-Stmt, more_of-Stmt, Row_of-Branch, end_of-Branch, more_of-Branch, Row_of-CasePart, end_of-CasePart, more_of-CasePart, Row_of-TypePart, end_of-TypePart, more_of-TypePart}
use Rattle.ob_types.specs.declared.statements.Stmt.{Call as Invoke}
use Rattle.ob_types.specs.declared.program.Program.{Program}
use Rattle.ob_types.specs.Forms.{Form, Zero, Truth, Small, Number, ToRecord, Routines, Exactly, all}
use Rattle.ob_types.specs.Layout.{signature_of}
use Rattle.ob_types.specs.Meaning.{procedure_of}
use Rattle.ob_types.specs.WellFormed
use Rattle.ob_types.specs.WellFormed.{Named as Thing, Of, provided, with_some, holds_of, gives_number, gives_truth, gives_pointer, is_number, is_truth, argument_words}
use Rattle.ob_types.specs.declared.types.Mode.{Mode}
use Rattle.ob_types.specs.declared.types.Mode.TheVariants.{Place}
use Rattle.ob_types.specs.declared.types.Mode.TheVariants.{Value as AsValue, Record as AsRecord, Open as AsOpen}
use Rattle.ob_types.proofs.Tests.{no, and_of}
use Rattle.block_runs.specs.declared.end.End.{End}
use Rattle.ssa_lowered.specs.Data.{Layout, rounded, within, global_at}
use Rattle.ssa_lowered.specs.Pieces.{Low, Mask}
use Rattle.ssa_lowered.specs.Control.{Test, Lowers, Rung}
use Rattle.ssa_lowered.specs.Values.{condition, Named, At, Held, is_pointer, is_tag}
use Rattle.ssa_lowered.specs.Statements.{Deed}
use Rattle.ssa_lowered.specs.Variables.{Site, Register, Memory, Variable, some_structured, further, zeroing, first_value, store_first, stored, first_of, opened, is_structured, assigned_all}
use Rattle.ssa_lowered.specs.Lowered.{Here, by_mode, parameter_by, variable_of, local_by, based, descriptor, level, all_guarded, small, expr, linked, link, named, selected, select, called, argument, arguments, value, test, home, label_test, type_test, rungs_from, case_of, labels_of, records_of, label_tests, type_tests, bound, deed, deeds, alternatives, guarded_rounds, case_bodies, type_bodies, deeds_of, answer, enters, whole}
use Rattle.ssa_lowered.proofs.Everywhere.{Each, each_on}
use Rattle.block_runs.specs.declared.code.Code.TheVariants.{Arg}
use Rattle.block_runs.specs.declared.code.Code.TheVariants.{Zero as ZeroOp}
use Rattle.block_runs.specs.declared.end.End.TheVariants.{Jump, Trap}
use Rattle.ob_types.specs.LegalTypes.{is_record_type}
use Rattle.lowered_valid.proofs.Suits.{Is, of_provided, of_with, with_is, of_holds, holds_is, given_is, guarded_is, linked_is, operand_is, condition_is, element_is, elements_are, selected_is, index_is, checked_is, number_checked}
use Rattle.lowered_valid.proofs.Fitting.{Fit, FitTest, Plainly, seq, gives, plainly, emitted, done, s_const, s_local, f_value, f_branch, f_and, f_or, s_choose, FitRound, s_loop, s_repeat, s_case, s_data_at, s_local_at, s_element, s_field, s_dereferenced, s_narrowed, s_binary, s_compared, s_texts, s_guarded, s_contained, s_with_element, s_with_range, TypeTest, s_is_pointer, s_is_tag, s_tag_of, s_as_byte, s_length_of, Long, s_by_word, s_address, s_by_record, s_by_open, s_also, OfRequest, s_call, s_call_at, s_with_result, s_without_result, s_home_of, s_load, Good, g_valued, g_tested, g_one, s_skip, s_store, s_assign, s_if, s_change_number, s_change_set, s_new, s_copy_array, s_copy_record, s_assert, s_out_char, s_out_int, s_out_string, s_in_char, s_for}

---- The tree

-- numbers of a program and a procedure that are small enough
pub record Numbers (p : Program) (l : Layout) (here : Here) : Type 0 where
  pub level_few : (r : ℕ) → level p l here r < 16
  pub global_near : (m v : ℕ) → global_at p l m v < 16777216
  pub frame_small : here.bytes < 16777216
  pub field_near : (r k : ℕ) → 8 + l.offset r k < 16777216
  pub procedure_words : (g : ℕ) → argument_words (procedure_of p g).formals ≤ 24
  pub signature_words : (k : ℕ) → argument_words (signature_of p.types k).formals ≤ 24

within_small : (n : ℕ) → within n < 16777216
within_small n = omega arith

words_more : (x : Formal) (xs : List Formal) → argument_words (x ∷ xs) ≡ WellFormed.words_of x.mode + argument_words xs
words_more x xs = sum_by-cons (λ (x : Formal). WellFormed.words_of x.mode) x xs

module _ (args : ℕ) (p : Program) (l : Layout) (here : Here) (small_enough : Numbers p l here) where
  abbrev f : ℕ
  f = here.number

  abbrev Sensible : Expr → Type 0
  Sensible x = Is (WellFormed.form p f x)

  abbrev Nameable : Designator → Type 0
  Nameable d = Is (WellFormed.named p f d)

  -- what an argument's mode says of its words and of its part
  value_parts : (m : Mode) (a b : Option Form) → WellFormed.value_suits p m a b ≡ true → (WellFormed.words_of m ≡ 1) × Is a
  value_parts AsValue a b h = (refl, given_is p f a b h)
  value_parts Place a b h = no h
  value_parts AsRecord a b h = no h
  value_parts AsOpen a b h = no h

  place_parts : (m : Mode) (k : ℕ) (w : Bool) (d : Option Thing) → WellFormed.place_argument p m k w d ≡ true → (WellFormed.words_of m ≡ 1) × Is d
  place_parts AsValue k w d h = no h
  place_parts Place k w d h = (refl, holds_is (WellFormed.place_suits p k w) d h)
  place_parts AsRecord k w d h = no h
  place_parts AsOpen k w d h = no h

  record_parts : (m : Mode) (b : Option ℕ) (r : ℕ) (d : Option Thing) → WellFormed.record_argument p m b r d ≡ true → (WellFormed.words_of m ≡ 2) × Is d
  record_parts AsValue b r d h = no h
  record_parts Place b r d h = no h
  record_parts AsRecord None r d h = no h
  record_parts AsRecord (Some b) r d h = (refl, holds_is (WellFormed.record_suits p b r) d h)
  record_parts AsOpen b r d h = no h

  open_parts : (m : Mode) (e : Option ℕ) (w : Bool) (n : Option ℕ) (d : Option Thing) → WellFormed.open_argument p m e w n d ≡ true → (WellFormed.words_of m ≡ 2) × Is d
  open_parts AsValue e w n d h = no h
  open_parts Place e w n d h = no h
  open_parts AsRecord e w n d h = no h
  open_parts AsOpen None w n d h = no h
  open_parts AsOpen (Some e) w n d h = (refl, holds_is (WellFormed.open_suits p e w n) d h)

  -- a call through a value: its arguments are those of some procedure type
  through_parts : (suit : List Formal → Bool) (x : Form) → WellFormed.suits_through p suit x ≡ true → (k : ℕ) × (suit (signature_of p.types k).formals ≡ true)
  through_parts suit (Routines k) h = (k, h)
  through_parts suit Zero h = no h
  through_parts suit Truth h = no h
  through_parts suit Small h = no h
  through_parts suit Number h = no h
  through_parts suit (ToRecord r) h = no h
  through_parts suit (Exactly g) h = no h

  s_local_by : (s : Site) (x : ℕ) → Plainly args (local_by p l here s x)
  s_local_by Register x = plainly args (Held x)
  s_local_by (Memory n) x = s_local_at args (here.bytes - n) (let k = small_enough.frame_small in omega (arith, k))

  s_parameter_by : (x : Option Formal) (w : ℕ) → Plainly args (parameter_by x w)
  s_parameter_by (Some x) w = plainly args (by_mode x.mode w)
  s_parameter_by None w = seq args (s_const args 0) (λ a. plainly args (At a))

  s_based : (b : Base) → Plainly args (based p l here b)
  s_based Done = s_data_at args 0 (omega arith)
  s_based (Global m v) = s_data_at args (global_at p l m v) (small_enough.global_near m v)
  s_based (Local x) = s_local_by (variable_of p l here x).site x
  s_based (Parameter k) = s_parameter_by (slice_get here.procedure.formals k) _
  s_based (Text k) = s_data_at args _ (within_small _)

  s_all_guarded : (rs : List ℕ) {x : Low ℕ} → Plainly args x → Plainly args (all_guarded p l here rs x)
  s_all_guarded [] q = q
  s_all_guarded (r ∷ rs) q = s_all_guarded rs (s_guarded args (descriptor p l here r) (level p l here r) (within_small _) (small_enough.level_few r) q)

  mutual
    g_expr : (x : Expr) → Sensible x → Good args (expr p l here x)
    g_expr (Literal n) h = g_valued args (s_const args n)
    g_expr (Routine g) h = g_valued args (emitted args _ _ refl)
    g_expr (Load d) h = g_valued args (s_load args (s_home_of args (small p l here d) (s_named d (with_is (WellFormed.named p f d) (WellFormed.scalar_in p) h))))
    g_expr (Guard' _ d rs) h =
        let o = with_some (WellFormed.named p f d) (WellFormed.scalar_in p) in
        g_valued args (s_all_guarded rs (s_load args (s_home_of args (small p l here d) (s_named d (with_is (WellFormed.named p f d) (WellFormed.scalar_in p) (guarded_is p f rs o h))))))
    g_expr (Unary' op _ x) h = g_one args op (g_expr x (holds_is is_number (WellFormed.form p f x) (of_provided (gives_number (WellFormed.form p f x)) (Some (WellFormed.unary_form op)) h).0))
    g_expr (Chain' _ x _ links) h = g_linked links (WellFormed.form p f x) h (g_expr x (linked_is p f links (WellFormed.form p f x) h))
    g_expr (Compare' r _ x _ y) h =
        let a = of_with (WellFormed.form p f x) (λ a. with_some (WellFormed.form p f y) (λ b. provided (WellFormed.comparable r a b) (Some Truth))) h in
        let i = with_is (WellFormed.form p f x) (λ a. with_some (WellFormed.form p f y) (λ b. provided (WellFormed.comparable r a b) (Some Truth))) h in
        let j = with_is (WellFormed.form p f y) (λ b. provided (WellFormed.comparable r a.0 b) (Some Truth)) a.2 in
        record { value = s_compared args r (g_expr x i).value (g_expr y j).value; test = f_branch args (condition r) (g_expr x i).value (g_expr y j).value }
    g_expr (CompareTexts' r _ d _ e) h =
        let second = provided (holds_of (WellFormed.is_text p (length_of_kind (kind_in e))) (WellFormed.named p f e)) (Some Truth) in
        let a = of_provided (holds_of (WellFormed.is_text p (length_of_kind (kind_in d))) (WellFormed.named p f d)) second h in
        let b = of_provided (holds_of (WellFormed.is_text p (length_of_kind (kind_in e))) (WellFormed.named p f e)) (Some Truth) a.1 in
        g_valued args (s_texts args l.character r (length_of_kind (kind_in d)) (length_of_kind (kind_in e)) (s_named d (holds_is (WellFormed.is_text p (length_of_kind (kind_in d))) (WellFormed.named p f d) a.0)) (s_named e (holds_is (WellFormed.is_text p (length_of_kind (kind_in e))) (WellFormed.named p f e) b.0)))
    g_expr (In' _ x _ s) h =
        let a = of_provided (gives_number (WellFormed.form p f x)) (provided (gives_number (WellFormed.form p f s)) (Some Truth)) h in
        let b = of_provided (gives_number (WellFormed.form p f s)) (Some Truth) a.1 in
        g_valued args (s_contained args (g_expr x (holds_is is_number (WellFormed.form p f x) a.0)).value (g_expr s (holds_is is_number (WellFormed.form p f s) b.0)).value)
    g_expr (IsPointer' _ x r) h =
        let a = of_provided (is_record_type p.types r) (provided (gives_pointer (WellFormed.form p f x)) (Some Truth)) h in
        let b = of_provided (gives_pointer (WellFormed.form p f x)) (Some Truth) a.1 in
        g_valued args (seq args (g_expr x (holds_is WellFormed.is_pointer (WellFormed.form p f x) b.0)).value (λ a. s_is_pointer args (descriptor p l here r) (level p l here r) a (within_small _) (small_enough.level_few r)))
    g_expr (IsParameter d r) h =
        let a = of_provided (is_record_type p.types r) (provided (holds_of (WellFormed.is_dynamic p) (WellFormed.named p f d)) (Some Truth)) h in
        let b = of_provided (holds_of (WellFormed.is_dynamic p) (WellFormed.named p f d)) (Some Truth) a.1 in
        g_valued args (seq args (s_tag_of args (s_named d (holds_is (WellFormed.is_dynamic p) (WellFormed.named p f d) b.0))) (λ a. s_is_tag args (descriptor p l here r) (level p l here r) a (within_small _) (small_enough.level_few r)))
    g_expr (Byte' _ x) h = g_valued args (s_as_byte args (g_expr x (holds_is is_number (WellFormed.form p f x) (of_provided (gives_number (WellFormed.form p f x)) (Some Small) h).0)).value)
    g_expr (Length d) h =
        let a = of_provided (holds_of (WellFormed.any_array p (length_of_kind (kind_in d))) (WellFormed.named p f d)) (Some Number) h in
        g_valued args (s_length_of args (length_of_kind (kind_in d)) (s_named d (holds_is (WellFormed.any_array p (length_of_kind (kind_in d))) (WellFormed.named p f d) a.0)))
    g_expr (Call' _ c) h = g_valued args (s_with_result args (s_called c (of_provided (WellFormed.call_suits p f c) (WellFormed.call_form p f c) h).0))

    g_linked : {m : _} (row : Row_of-Link m) (o : Option Form) → Is (WellFormed.linked_form p f row o) → {x : Lowers} → Good args x → Good args (linked p l here row x)
    g_linked end_of-Link o h q = q
    g_linked (more_of-Link k more) o h q = g_linked more (WellFormed.link_form p f k o) h (g_link k o (linked_is p f more (WellFormed.link_form p f k o) h) q)

    g_link : (k : Link) (o : Option Form) → Is (WellFormed.link_form p f k o) → {x : Lowers} → Good args x → Good args (link p l here k x)
    g_link (Operate op y) o h q = g_valued args (s_binary args op q.value (g_expr y (operand_is p f op y o h)).value)
    g_link (AndLink y) o h q = g_tested args (f_and args q.test (g_expr y (condition_is p f y o h)).test)
    g_link (OrLink y) o h q = g_tested args (f_or args q.test (g_expr y (condition_is p f y o h)).test)
    g_link (Element y) o h q = g_valued args (s_with_element args q.value (g_expr y (element_is p f y o h)).value)
    g_link (Elements' b y c z) o h q = let r = elements_are p f b y c z o h in g_valued args (s_with_range args q.value (g_expr y r.0).value (g_expr z r.1).value)

    s_named : (d : Designator) → Nameable d → Plainly args (named p l here d)
    s_named (Whole b k) h = s_based b
    s_named (Part' _ b k _ row) h = s_selected row (WellFormed.base_named p f b) (with_is (WellFormed.selected_named p f row (WellFormed.base_named p f b)) (WellFormed.of_kind p k) h) (s_based b)

    s_selected : {m : _} (row : Row_of-Selector m) (o : Option Thing) → Is (WellFormed.selected_named p f row o) → {d : Low Named} → Plainly args d → Plainly args (selected p l here row d)
    s_selected end_of-Selector o h q = q
    s_selected (more_of-Selector s more) o h q = s_selected more (WellFormed.select_named p f s o) h (s_select s o (selected_is p f more (WellFormed.select_named p f s o) h) q)

    s_select : (s : Selector) (o : Option Thing) → Is (WellFormed.select_named p f s o) → {d : Low Named} → Plainly args d → Plainly args (select p l here s d)
    s_select (Index n k x) o h q = s_element args n (l.bytes k) q (g_expr x (index_is p f n k x o h)).value
    s_select (Field r k) o h q = s_field args (l.offset r k) (small_enough.field_near r k) q
    s_select (Dereference rs) o h q = s_dereferenced args (s_all_guarded rs (s_load args (s_home_of args false q)))
    s_select (Narrow r) o h q = s_narrowed args (descriptor p l here r) (level p l here r) (within_small _) (small_enough.level_few r) q

    s_called : (c : CallForm) → WellFormed.call_suits p f c ≡ true → Fit args (OfRequest args) (called p l here c)
    s_called (Direct' g _ row) h =
        let formals = (procedure_of p g).formals in
        s_call args g (argument_words formals) (small_enough.procedure_words g) (s_arguments row formals (and_of (WellFormed.callable p g) (WellFormed.all_suit p f row formals) h).1)
    s_called (Indirect' d _ row) h =
        let o = with_some (WellFormed.named p f d) (WellFormed.scalar_in p) in
        let a = of_holds (WellFormed.suits_through p (WellFormed.all_suit p f row)) o h in
        let k = through_parts (WellFormed.all_suit p f row) a.0 a.2 in
        let formals = (signature_of p.types k.0).formals in
        s_call_at args (argument_words formals) (small_enough.signature_words k.0) (s_load args (s_home_of args (small p l here d) (s_named d (with_is (WellFormed.named p f d) (WellFormed.scalar_in p) (holds_is (WellFormed.suits_through p (WellFormed.all_suit p f row)) o h))))) (s_arguments row formals k.1)

    s_argument : (a : Argument) (x : Formal) → WellFormed.argument_suits p f a x ≡ true → Fit args (Long args (WellFormed.words_of x.mode)) (argument p l here a)
    s_argument (ByValue e) x h =
        let r = value_parts x.mode (WellFormed.form p f e) (WellFormed.form_of p x.type_number) h in
        subst (λ n. Fit args (Long args n) (argument p l here (ByValue e))) (sym r.0) (s_by_word args (g_expr e r.1).value)
    s_argument (ByPlace d) x h =
        let r = place_parts x.mode x.type_number x.variable (WellFormed.named p f d) h in
        subst (λ n. Fit args (Long args n) (argument p l here (ByPlace d))) (sym r.0) (s_by_word args (s_address args (s_named d r.1)))
    s_argument (ByRecord d) x h =
        let r = record_parts x.mode (WellFormed.record_by (kind_of p.types x.type_number)) (record_of_kind (kind_in d)) (WellFormed.named p f d) h in
        subst (λ n. Fit args (Long args n) (argument p l here (ByRecord d))) (sym r.0) (s_by_record args (descriptor p l here (record_of_kind (kind_in d))) (within_small _) (s_named d r.1))
    s_argument (ByOpen d) x h =
        let r = open_parts x.mode (WellFormed.open_element (kind_of p.types x.type_number)) x.variable (length_of_kind (kind_in d)) (WellFormed.named p f d) h in
        subst (λ n. Fit args (Long args n) (argument p l here (ByOpen d))) (sym r.0) (s_by_open args (length_of_kind (kind_in d)) (s_named d r.1))

    s_arguments : {m : _} (row : Row_of-Argument m) (xs : List Formal) → WellFormed.all_suit p f row xs ≡ true → Fit args (Long args (argument_words xs)) (arguments p l here row)
    s_arguments end_of-Argument [] h = gives args [] refl
    s_arguments end_of-Argument (x ∷ xs) h = no h
    s_arguments (more_of-Argument a more) [] h = no h
    s_arguments (more_of-Argument a more) (x ∷ xs) h =
        let q = and_of (WellFormed.argument_suits p f a x) (WellFormed.all_suit p f more xs) h in
        s_also args (WellFormed.words_of x.mode) (argument_words xs) (argument_words (x ∷ xs)) (words_more x xs) (s_argument a x q.0) (s_arguments more xs q.1)

  s_home : (d : Designator) → Nameable d → Plainly args (home p l here d)
  s_home d h = s_home_of args (small p l here d) (s_named d h)

  abbrev Checks : Checked → Type 0
  Checks x = Is (WellFormed.form p f x.form)

  s_value : (x : Checked) → Checks x → Plainly args (value p l here x)
  s_value x h = (g_expr x.form h).value

  f_test : (x : Checked) → Checks x → FitTest args (test p l here x)
  f_test x h = (g_expr x.form h).test

  ---- Statements

  f_label : (v : ℕ) (x : Label) → FitTest args (label_test p l here v x)
  f_label v (One a) = f_branch args 0 (plainly args v) (s_const args (unsigned a))
  f_label v (Range a b) = f_and args (f_branch args 10 (plainly args v) (s_const args (unsigned a))) (f_branch args 13 (plainly args v) (s_const args (unsigned b)))

  f_labels : (v : ℕ) (ls : List Label) → Each (λ (t : Test). FitTest args t) (map (label_test p l here v) ls)
  f_labels v [] = tt
  f_labels v (x ∷ xs) = (f_label v x, f_labels v xs)

  abbrev Tests : List (List Test) → Type 0
  Tests tests = Each (λ (ts : List Test). Each (λ (t : Test). FitTest args t) ts) tests

  abbrev all_labels : ℕ → List (List Label) → List (List Test)
  all_labels v lss = map (λ ls. map (label_test p l here v) ls) lss

  f_all_labels : (v : ℕ) (lss : List (List Label)) → Tests (all_labels v lss)
  f_all_labels v [] = tt
  f_all_labels v (ls ∷ lss) = (f_labels v ls, f_all_labels v lss)

  abbrev all_types : (ℕ → ℕ → ℕ → Low ℕ) → ℕ → List ℕ → List (List Test)
  all_types is v rs = map (λ r. type_test p l here is v r ∷ []) rs

  f_all_types : (is : ℕ → ℕ → ℕ → Low ℕ) → TypeTest args is → (v : ℕ) (rs : List ℕ) → Tests (all_types is v rs)
  f_all_types is q v [] = tt
  f_all_types is q v (r ∷ rs) = ((f_value args (q (descriptor p l here r) (level p l here r) v (within_small _) (small_enough.level_few r)), tt), f_all_types is q v rs)

  abbrev rung : ℕ → Test → Rung
  rung i t = record { test = t; part = i }

  abbrev Rungs : List Rung → Type 0
  Rungs rs = Each (λ (r : Rung). FitTest args r.test) rs

  each_rung : (i : ℕ) (ts : List Test) → Each (λ (t : Test). FitTest args t) ts → Rungs (map (λ (t : Test). rung i t) ts)
  each_rung i [] q = tt
  each_rung i (t ∷ ts) q = (q.0, each_rung i ts q.1)

  each_rungs : (i : ℕ) (tests : List (List Test)) → Tests tests → Rungs (rungs_from p l here i tests)
  each_rungs i [] q = tt
  each_rungs i (ts ∷ more) q = each_on (λ (r : Rung). FitTest args r.test) (map (λ (t : Test). rung i t) ts) (rungs_from p l here (suc i) more) (each_rung i ts q.0) (each_rungs (suc i) more q.1)

  abbrev Bodies : List Deed → Type 0
  Bodies bodies = Each (λ (b : Deed). Plainly args b) bodies

  s_case_of : {x : Low ℕ} (mask : Mask) (tests : ℕ → List (List Test)) (bodies : List Deed) (unmatched : ℕ → List ℕ → End) → Plainly args x → ((v : ℕ) → Tests (tests v)) → Bodies bodies → Plainly args (case_of p l here mask x tests bodies unmatched)
  s_case_of mask tests bodies unmatched q r t = seq args q (λ v. s_case args mask (rungs_from p l here 0 (tests v)) bodies unmatched (each_rungs 0 (tests v) (r v)) t)

  number_of : (x : Checked) → gives_number (WellFormed.checked_form p f x) ≡ true → Checks x
  number_of x h = number_checked p f x h

  -- INC, DEC, INCL and EXCL
  stepped : (d : Designator) (x : Checked) (test : Form → Bool) → (gives_number (WellFormed.checked_form p f x) && holds_of (WellFormed.takes p test) (WellFormed.named p f d)) ≡ true → Checks x × Nameable d
  stepped d x test h =
      let a = and_of (gives_number (WellFormed.checked_form p f x)) (holds_of (WellFormed.takes p test) (WellFormed.named p f d)) h in
      (number_of x a.0, holds_is (WellFormed.takes p test) (WellFormed.named p f d) a.1)

  mutual
    s_deed : (s : Stmt) → WellFormed.fine p f s ≡ true → Plainly args (deed p l here s)
    s_deed (Assign d x) h =
        let a = of_holds (λ t. WellFormed.is_writable t && WellFormed.given_for p (WellFormed.checked_form p f x) (WellFormed.scalar_in p t)) (WellFormed.named p f d) h in
        let b = and_of (WellFormed.is_writable a.0) (WellFormed.given_for p (WellFormed.checked_form p f x) (WellFormed.scalar_in p a.0)) a.2 in
        s_assign args (s_home d (ap is_some a.1)) (s_value x (checked_is p f x (given_is p f (WellFormed.checked_form p f x) (WellFormed.scalar_in p a.0) b.1)))
    s_deed (CopyArray d e) h =
        let to = holds_of (WellFormed.may_copy p f (element_kind (kind_in d)) (length_of_kind (kind_in d))) (WellFormed.named p f d) in
        let from = holds_of (WellFormed.array_of p (element_kind (kind_in d)) (length_of_kind (kind_in e))) (WellFormed.named p f e) in
        let a = and_of to from (and_of (WellFormed.lengths_fit (length_of_kind (kind_in d)) (length_of_kind (kind_in e))) (to && from) h).1 in
        s_copy_array args (length_of_kind (kind_in d)) (length_of_kind (kind_in e)) (l.bytes (element_kind (kind_in d)))
        (s_named d (holds_is (WellFormed.may_copy p f (element_kind (kind_in d)) (length_of_kind (kind_in d))) (WellFormed.named p f d) a.0))
        (s_named e (holds_is (WellFormed.array_of p (element_kind (kind_in d)) (length_of_kind (kind_in e))) (WellFormed.named p f e) a.1))
    s_deed (CopyRecord d e) h =
        let writes : Thing → Bool = λ t. WellFormed.is_writable t && WellFormed.has_record p (record_of_kind (kind_in d)) t in
        let a = and_of (holds_of writes (WellFormed.named p f d)) (holds_of (WellFormed.has_record p (record_of_kind (kind_in d))) (WellFormed.named p f e)) h in
        s_copy_record args (l.record_bytes (record_of_kind (kind_in d))) (s_named d (holds_is writes (WellFormed.named p f d) a.0)) (s_named e (holds_is (WellFormed.has_record p (record_of_kind (kind_in d))) (WellFormed.named p f e) a.1))
    s_deed (Increase d x) h = let a = stepped d x (WellFormed.changes (is_byte (kind_in d))) h in s_change_number args Add (is_byte (kind_in d)) (s_home d a.1) (s_value x a.0)
    s_deed (Decrease d x) h = let a = stepped d x (WellFormed.changes (is_byte (kind_in d))) h in s_change_number args Subtract (is_byte (kind_in d)) (s_home d a.1) (s_value x a.0)
    s_deed (Include d x) h = let a = stepped d x WellFormed.is_full h in s_change_set args Union (s_home d a.1) (s_value x a.0)
    s_deed (Exclude d x) h = let a = stepped d x WellFormed.is_full h in s_change_set args Difference (s_home d a.1) (s_value x a.0)
    s_deed (New d) h =
        let r = record_of_kind (kind_in d) in
        s_new args (record_cells p.types r) (rounded (l.record_bytes r)) (descriptor p l here r) (within_small _) (s_home d (holds_is (WellFormed.takes p (WellFormed.points_to p r)) (WellFormed.named p f d) h))
    s_deed (Assert x) h = s_assert args (s_value x (number_of x h))
    s_deed (OutChar x) h = s_out_char args (s_value x (checked_is p f x (holds_is WellFormed.is_small (WellFormed.checked_form p f x) h)))
    s_deed (OutInt x n) h = let a = and_of (gives_number (WellFormed.checked_form p f x)) (gives_number (WellFormed.checked_form p f n)) h in s_out_int args (s_value x (number_of x a.0)) (s_value n (number_of n a.1))
    s_deed (OutString d) h = s_out_string args l.character (length_of_kind (kind_in d)) (s_named d (holds_is (WellFormed.is_text p (length_of_kind (kind_in d))) (WellFormed.named p f d) h))
    s_deed OutLn h = s_out_char args (s_const args 10)
    s_deed (InChar d) h = s_in_char args (l.is_small Boolean) (l.is_small (kind_in d)) (s_named d (holds_is (WellFormed.takes p (WellFormed.changes true)) (WellFormed.named p f d) h))
    s_deed (Invoke c) h = s_without_result args (s_called c h)
    s_deed (If' _ parts _ other) h = let a = and_of (WellFormed.fine_branches p f parts) (WellFormed.fine_row p f other) h in s_alternatives parts a.0 (assigned_all other) (s_deeds other a.1)
    s_deed (While' _ parts) h = let a = and_of (WellFormed.has_branch parts) (WellFormed.fine_branches p f parts) h in s_loop args _ (guarded_rounds p l here parts) (each_round parts a.1)
    s_deed (Repeat' _ body x) h = let a = and_of (WellFormed.fine_row p f body) (gives_number (WellFormed.checked_form p f x)) h in s_repeat args _ (s_deeds body a.0) (f_test x (number_of x a.1))
    s_deed (For' _ d x y step _ body) h =
        let place = holds_of (WellFormed.takes p WellFormed.is_full) (WellFormed.named p f d) in
        let number = gives_number (WellFormed.checked_form p f x) in
        let limit = gives_number (WellFormed.checked_form p f y) in
        let a = and_of (WellFormed.is_step step) (WellFormed.is_whole d && (place && (number && (limit && WellFormed.fine_row p f body)))) h in
        let w = and_of (WellFormed.is_whole d) (place && (number && (limit && WellFormed.fine_row p f body))) a.1 in
        let b = and_of place (number && (limit && WellFormed.fine_row p f body)) w.1 in
        let c = and_of number (limit && WellFormed.fine_row p f body) b.1 in
        let e = and_of limit (WellFormed.fine_row p f body) c.1 in
        let variable = s_home d (holds_is (WellFormed.takes p WellFormed.is_full) (WellFormed.named p f d) b.0) in
        s_for args _ (bound p l here step) (s_assign args variable (s_value x (number_of x c.0))) (s_value y (number_of y e.0)) (s_load args variable)
        (seq args (s_deeds body e.1) (λ _. s_assign args variable (s_binary args Add (s_load args variable) (s_const args (unsigned step)))))
    s_deed (Case' x _ parts) h =
        let a = and_of (gives_number (WellFormed.checked_form p f x)) (WellFormed.fine_case_parts p f parts) h in
        s_case_of _ (label_tests p l here parts) (case_bodies p l here parts) (λ out args. Trap 6) (s_value x (number_of x a.0)) (λ v. f_all_labels v (labels_of p l here parts)) (each_case_body parts a.1)
    s_deed (CasePointer' x _ parts) h =
        let a = and_of (gives_pointer (WellFormed.checked_form p f x)) (WellFormed.fine_type_parts p f parts) h in
        s_case_of _ (type_tests p l here parts is_pointer) (type_bodies p l here parts) (λ out args. Jump out args) (s_value x (checked_is p f x (holds_is WellFormed.is_pointer (WellFormed.checked_form p f x) a.0))) (λ v. f_all_types is_pointer (s_is_pointer args) v (records_of p l here parts)) (each_type_body parts a.1)
    s_deed (CaseParameter' d _ parts) h =
        let a = and_of (holds_of (WellFormed.is_dynamic p) (WellFormed.named p f d)) (WellFormed.fine_type_parts p f parts) h in
        s_case_of _ (type_tests p l here parts is_tag) (type_bodies p l here parts) (λ out args. Jump out args) (s_tag_of args (s_named d (holds_is (WellFormed.is_dynamic p) (WellFormed.named p f d) a.0))) (λ v. f_all_types is_tag (s_is_tag args) v (records_of p l here parts)) (each_type_body parts a.1)

    s_deeds : {m : _} (row : Row_of-Stmt m) → WellFormed.fine_row p f row ≡ true → Plainly args (deeds p l here row)
    s_deeds end_of-Stmt h = s_skip args
    s_deeds (more_of-Stmt s more) h = let a = and_of (WellFormed.fine p f s) (WellFormed.fine_row p f more) h in seq args (s_deed s a.0) (λ _. s_deeds more a.1)

    s_alternatives : {m : _} (row : Row_of-Branch m) → WellFormed.fine_branches p f row ≡ true → (mask : Mask) {other : Deed} → Plainly args other → Plainly args (alternatives p l here row mask other)
    s_alternatives end_of-Branch h mask q = q
    s_alternatives (more_of-Branch x _ body more) h mask q =
        let a = and_of (gives_number (WellFormed.checked_form p f x)) (WellFormed.fine_row p f body && WellFormed.fine_branches p f more) h in
        let b = and_of (WellFormed.fine_row p f body) (WellFormed.fine_branches p f more) a.1 in
        s_choose args _ (f_test x (number_of x a.0)) (s_deeds body b.0) (s_alternatives more b.1 mask q)

    each_round : {m : _} (row : Row_of-Branch m) → WellFormed.fine_branches p f row ≡ true → Each (FitRound args) (guarded_rounds p l here row)
    each_round end_of-Branch h = tt
    each_round (more_of-Branch x _ body more) h =
        let a = and_of (gives_number (WellFormed.checked_form p f x)) (WellFormed.fine_row p f body && WellFormed.fine_branches p f more) h in
        let b = and_of (WellFormed.fine_row p f body) (WellFormed.fine_branches p f more) a.1 in
        ((f_test x (number_of x a.0), s_deeds body b.0), each_round more b.1)

    each_case_body : {m : _} (row : Row_of-CasePart m) → WellFormed.fine_case_parts p f row ≡ true → Bodies (case_bodies p l here row)
    each_case_body end_of-CasePart h = tt
    each_case_body (more_of-CasePart labels _ body more) h =
        let a = and_of (all WellFormed.label_fine labels) (WellFormed.fine_row p f body && WellFormed.fine_case_parts p f more) h in
        let b = and_of (WellFormed.fine_row p f body) (WellFormed.fine_case_parts p f more) a.1 in
        (s_deeds body b.0, each_case_body more b.1)

    each_type_body : {m : _} (row : Row_of-TypePart m) → WellFormed.fine_type_parts p f row ≡ true → Bodies (type_bodies p l here row)
    each_type_body end_of-TypePart h = tt
    each_type_body (more_of-TypePart r _ body more) h =
        let a = and_of (is_record_type p.types r) (WellFormed.fine_row p f body && WellFormed.fine_type_parts p f more) h in
        let b = and_of (WellFormed.fine_row p f body) (WellFormed.fine_type_parts p f more) a.1 in
        (s_deeds body b.0, each_type_body more b.1)

  s_deeds_of : (ss : List Stmt) → all (WellFormed.fine p f) ss ≡ true → Plainly args (deeds_of p l here ss)
  s_deeds_of [] h = s_skip args
  s_deeds_of (s ∷ more) h = let a = and_of (WellFormed.fine p f s) (all (WellFormed.fine p f) more) h in seq args (s_deed s a.0) (λ _. s_deeds_of more a.1)

  s_answer : (o : Option Form) (x : Option Checked) → WellFormed.answer_fine p f o x ≡ true → Plainly args (answer p l here x)
  s_answer o None h = plainly args None
  s_answer None (Some x) h = no h
  s_answer (Some k) (Some x) h = seq args (s_value x (checked_is p f x (given_is p f (WellFormed.checked_form p f x) (Some k) h))) (λ v. plainly args (Some v))

  ---- A whole procedure

  s_further : (i n : ℕ) → 4 ≤ i → i + n ≤ args → Plainly args (further i n)
  s_further i zero low high = s_skip args
  s_further i (suc n) low high =
      seq args (emitted args (Arg i) [] (and_from (nat_le 4 i) (nat_lt i args && true) (le-leb 4 i low) (and_from (nat_lt i args) true (lt-ltb i args (omega (arith, high))) refl)))
      (λ _. s_further (suc i) n (omega (arith, low)) (omega (arith, high)))

  s_zeroing : (b : Bool) (size : ℕ) → Plainly args (zeroing b here.bytes size)
  s_zeroing false size = s_skip args
  s_zeroing true size = seq args (s_local args here.bytes small_enough.frame_small) (λ a. seq args (s_const args size) (λ b. done args ZeroOp (a ∷ b ∷ []) refl))

  s_first_value : (w : Option ℕ) → Plainly args (first_value w)
  s_first_value None = s_const args 0
  s_first_value (Some w) = plainly args w

  s_store_first : (v : Variable) (s : Site) → Plainly args (store_first p.types l here.bytes v s)
  s_store_first v Register = s_skip args
  s_store_first v (Memory n) = s_if args (is_structured (kind_of p.types v.type_number)) (s_skip args)
      (seq args (s_local args (here.bytes - n) (let k = small_enough.frame_small in omega (arith, k))) (λ a. seq args (s_first_value v.word) (λ u. s_store args (l.is_small (kind_of p.types v.type_number)) a u)))

  s_stored : (vs : List Variable) → Plainly args (stored p.types l here.bytes vs)
  s_stored [] = s_skip args
  s_stored (v ∷ vs) = seq args (s_store_first v v.site) (λ _. s_stored vs)

  s_first_of : (w : Option ℕ) (s : Site) → Plainly args (first_of w s)
  s_first_of w Register = s_first_value w
  s_first_of w (Memory n) = plainly args 0

  s_opened : (vs : List Variable) → Plainly args (opened vs)
  s_opened [] = plainly args []
  s_opened (v ∷ vs) = seq args (s_first_of v.word v.site) (λ u. seq args (s_opened vs) (λ more. plainly args (u ∷ more)))

  s_enters : (env : List ℕ) → Plainly args (enters p l here env)
  s_enters env = record { by = λ c. (record { all = tt }, tt) }

  pub whole_fits : (size : ℕ) (o : Option Form) → all (WellFormed.fine p f) here.procedure.body ≡ true → WellFormed.answer_fine p f o here.procedure.answer ≡ true → Plainly args (whole p l here args size)
  whole_fits size o body_fine answer_well =
      seq args (further_words args refl) (λ _. seq args (s_zeroing (some_structured p.types here.procedure.locals) size) (λ _. seq args (s_stored here.variables) (λ _. seq args (s_opened here.variables) (λ env. seq args (s_enters env) (λ _. seq args (s_deeds_of here.procedure.body body_fine) (λ _. s_answer o here.procedure.answer answer_well))))))
    where
      further_words : (n : ℕ) → n ≡ args → Plainly args (further 4 (n - 4))
      further_words n e = by (n - 4) refl
        where
          by : (k : ℕ) → k ≡ n - 4 → Plainly args (further 4 k)
          by zero d = s_skip args
          by (suc k) d = s_further 4 (suc k) (omega arith) (omega (arith, d, e))
