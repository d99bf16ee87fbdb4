-- The recursion on the checked tree.
use Rattle.std.proofs.Common.{◌≡◌, ℕ, zero, suc, ◌+◌, ◌<◌, ◌≤◌, ◌^◌, inl, inr, List, [], ◌∷◌, length, take, Bool, true, false, not, cond, ◌&&◌, slice_get, refl, sym, ap, ◌∙◌, subst, arith, Option, Some, None, eqb-true, eq-eqb}
use Rattle.std.specs.Prelude.{◌-◌, ◌||◌, ◌==◌, nat_lt, slice_index_or, if◌then◌else◌}
use Rattle.run_laws.specs.Turns.{Ending, Gives, Fails, Spent, after, ◌>>=◌, give}
use Rattle.run_laws.specs.Turns.{State as Moment}
use Rattle.ob_types.specs.LegalTypes.{is_record_type}
use Rattle.std.proofs.lemmas.Bool.Decides.{nat_tests}
use Rattle.ob_types.specs.Forms.{Form, Zero, Truth, Small, Number, ToRecord, Exactly, Routines, forms, joined, all, types_fine}
use Rattle.ob_types.specs.Layout.{kind_of, signature_of, cells, record_cells, cells_of_all}
use Rattle.ob_types.specs.Store.{Cell, Bits, Globals, Frames, Strings, Handed, At as Addressed, Sized, Tagged, Value, Act, given, place, bits, bits_in, Trap}
use Rattle.ob_types.specs.Store.{Store as Objects, Here as Running}
use Rattle.ob_types.specs.Operators.{holds, truth, unary_of}
use Rattle.ob_types.specs.Expressions.{Calls, one_operand, both}
use Rattle.ob_types.specs.Expressions.{either as or_else}
use Rattle.ob_types.specs.Statements.{Deed, test, try, otherwise}
use Rattle.ob_types.specs.Meaning.{procedure_of, globals_of, texts_of, text_number, value, linked, link, designated, base_of, called, argument, arguments, answer, effect, effects, effects_of, branches, kind_in, record_of_kind, element_kind, is_byte}
use Rattle.ob_types.specs.WellFormed
use Rattle.ob_types.specs.WellFormed.{Named as Thing, Cells, Of, OpenOf, Dynamic, Characters, pointed, provided, with_some, holds_of, gives_number, is_number}
use Rattle.ob_types.specs.declared.tree.Unary.{Unary}
use Rattle.ob_types.specs.declared.tree.Unary.TheVariants.{Negate, Complement, Not, Abs, Odd}
use Rattle.ob_types.specs.declared.tree.Binary.TheVariants.{Add, Subtract, Union, Difference}
use Rattle.ob_types.specs.declared.tree.Expr.{Expr, Literal, Routine, Load, Guard', Unary', Chain', Compare', CompareTexts', In', IsPointer', IsParameter, Byte', Length, Call', Row_of-Link, end_of-Link, more_of-Link}
use Rattle.ob_types.specs.declared.tree.Link.{Link, Operate, And, Or, Element, Elements'}
use Rattle.ob_types.specs.declared.tree.Base.{Base}
use Rattle.ob_types.specs.declared.tree.Base.TheVariants.{Done, Global, Local, Parameter, Text}
use Rattle.ob_types.specs.declared.tree.Designator.{Designator, Whole as Variable, Part'}
use Rattle.ob_types.specs.declared.statements.Checked.{Checked}
use Rattle.ob_types.specs.declared.statements.Stmt.{Stmt, Assign, CopyArray, CopyRecord, Increase, Decrease, Include, Exclude, New, Assert, OutChar, OutInt, OutString, OutLn, InChar, If', While', Repeat', For', Case', CasePointer', CaseParameter', Row_of-Stmt, end_of-Stmt, more_of-Stmt, Row_of-Branch, end_of-Branch, more_of-Branch}
use Rattle.ob_types.specs.declared.statements.Stmt.{Call as Invoke}
use Rattle.ob_types.specs.declared.program.Program.{Program}
use Rattle.ob_types.proofs.Tests.{none_some, some_same, no, and_of}
use Rattle.ob_sound.proofs.Typed.{Sound, Any, HasForm, Fits, Older}
use Rattle.ob_sound.proofs.Constructs.{Means, with_is, holds_is}
use Rattle.ob_sound.proofs.Typed.{provided_is, lt_of}
use Rattle.ob_sound.proofs.Handing.{CallsSound, AllTaken, all_taken_older, Answers, through_is, parameter_names, open_parts}
use Rattle.ob_sound.proofs.Handing.{taken_at as taken_of}
use Rattle.ob_types.proofs.WellFormedParts.{step_small}
use Rattle.ob_sound.proofs.Constructs.{or_split}
use Rattle.ob_sound.proofs.Tree.{t_call, t_arguments}
use Rattle.lowered_runs.proofs.Calls.{AnswerIs, Stacked, Calling, OneWord, WordsAre, follows_by_value, follows_by_place, follows_by_record, follows_by_open, follows_no_words, follows_words, follows_called, follows_called_only, follows_called_value, follows_called_value_only, follows_result_of}
use Rattle.lowered_runs.proofs.Follows.{Fact, follows_then, grows_give}
use Rattle.lowered_runs.proofs.Designators.{RowIs, grows_address, follows_address}
use Rattle.ob_types.specs.declared.types.Formal.{Formal}
use Rattle.ob_types.specs.declared.types.Mode.{Mode}
use Rattle.ob_types.specs.declared.types.Mode.TheVariants.{Place}
use Rattle.ob_types.specs.declared.types.Mode.TheVariants.{Value as OfValue, Record as OfRecord, Open as OfOpen}
use Rattle.ob_types.specs.declared.tree.Call.{Call, Direct', Indirect', Row_of-Argument, end_of-Argument, more_of-Argument}
use Rattle.ob_types.specs.declared.tree.Argument.{Argument, ByValue, ByPlace, ByRecord, ByOpen}
use Rattle.ob_types.specs.Expressions.{by_value, by_place, by_record, by_open, with_tag, result_of}
use Rattle.ssa_lowered.specs.Values.{by_word, address, with_result, without_result, home_of}
use Rattle.ssa_lowered.specs.Values.{by_record as lower_record, by_open as lower_open, address_in as lower_address}
use Rattle.ssa_lowered.specs.Values.{load as lower_load}
use Rattle.ob_types.specs.WellFormed.{record_by, open_element, has_branch, Elementary, OfType, Letter}
use Rattle.ob_sound.proofs.Deeds.{takes_is, given_is, suits_fits}
use Rattle.ob_types.specs.Store.{Pointer as PointerCell, Code as CodeCell}
use Rattle.ob_sound.proofs.Tree.{t_base, t_select, t_value, t_link, t_effect}
use Rattle.ssa_lowered.specs.Data.{Layout, takes_a_byte, global_at, descriptor_at, text_at, within, rounded}
use Rattle.ob_types.specs.Trees.{DataTree, Scalar, Record, fits_byte, row_cells, round_up, wide, row_end, fields_before, data_tree, record_row}
use Rattle.ob_types.specs.Trees.{Array as ArrayTree}
use Rattle.ob_types.proofs.DataTrees.{cells_are, record_cells_are, array_data_tree, record_data_tree, scalar_data_tree}
use Rattle.object_nodes.specs.Running.{forms_of_all}
use Rattle.object_nodes.specs.Nodes.{Node}
use Rattle.ob_types.proofs.TreeBytes.{few_rounded}
use Rattle.std.proofs.Common.{slice_index}
use Rattle.object_nodes.proofs.Meeting.{node_self, node_node}
use Rattle.object_nodes.proofs.Trees.{byte_place, field_node, base_node}
use Rattle.object_nodes.proofs.Designators.{element_trees}
use Rattle.held_stores.specs.Held.{takes_byte}
use Rattle.held_stores.specs.Places.{object_room}
use Rattle.ob_types.specs.Forms.{form_or_zero}
use Rattle.ssa_lowered.specs.Pieces.{Low, Mask}
use Rattle.ssa_lowered.specs.Control.{Lowers, Round, fork_and, fork_or, fork_value}
use Rattle.ssa_lowered.specs.Variables.{is_structured, either, none, origin, unselected, itself as whole_of, assigned, assigned_all, assigned_branches, words_of, lent, lent_links, lent_link, lent_at, lent_whole, lent_by_first, lent_selectors, lent_selector, lent_call, lent_as, lent_in, lent_by, lent_by_all, lent_by_branches, lent_by_list, lent_by_answer}
use Rattle.ssa_lowered.specs.Lowered.{Here, in_register, variable_of, local_by, parameter_by, by_mode, based, descriptor, named, small, expr, link as lower_link, linked as lower_linked, called as lower_called, argument as lower_argument, arguments as lower_arguments, answer as lower_answer, home, registers, deed, deeds, deeds_of, one_of, alternatives, guarded_rounds}
use Rattle.lowered_runs.specs.Words.{Whole, Level, Right, ground, local, Apart}
use Rattle.block_runs.specs.declared.end.End.TheVariants.{Trap as Trap_end}
use Rattle.ob_types.specs.Operators.{label_has, labels_have}
use Rattle.ob_types.specs.Statements.{case as case_of_value}
use Rattle.ob_types.specs.Meaning.{case_parts}
use Rattle.ob_types.specs.Store.{unless}
use Rattle.ob_types.specs.WellFormed.{label_fine}
use Rattle.ob_types.specs.declared.statements.Stmt.{Row_of-CasePart, end_of-CasePart, more_of-CasePart}
use Rattle.ssa_lowered.specs.Control.{case}
use Rattle.ssa_lowered.specs.Lowered.{labels_of, label_tests, case_bodies, rungs_from, case_of as lower_case}
use Rattle.ssa_lowered.specs.Variables.{assigned_case_parts, lent_by_case_parts}
use Rattle.lowered_runs.proofs.Exprs.{follows_bits}
use Rattle.lowered_runs.proofs.Cases.{bodies_known, first_of, parts_of, Matched, Bodies, follows_case}
use Rattle.lowered_runs.proofs.Labels.{Known, known_steady, labels_any, rungs_same, all_labels_say, trap_otherwise}
use Rattle.std.proofs.Common.{map, ap₂}
use Rattle.lowered_runs.proofs.Levels.{here, running, locals, LocalIs, Variables, Given, steady_given}
use Rattle.lowered_runs.proofs.Follows.{And as Both, Steady, steady_and, Follows, FollowsTo, follows_bind, follows_seen, follows_give, follows_sound, follows_known, follows_less, follows_mask}
use Rattle.lowered_runs.proofs.Exprs.{CellIs, follows_literal, follows_routine, follows_unary, follows_binary}
use Rattle.lowered_runs.proofs.Sets.{follows_same, follows_contained, follows_element, follows_range, follows_byte, follows_compared}
use Rattle.lowered_runs.proofs.Forks.{nothing, No_more, after_after, Forks, forks_value, forks_branch, forks_not, forks_and, forks_or, forks_as}
use Rattle.lowered_runs.proofs.Structures.{Always, forks_test, follows_choose, Rounded, rounds_none, rounds_less, rounds_more, follows_loop, follows_until}
use Rattle.lowered_runs.proofs.Homes.{HomeIs, IsNarrow, follows_load, follows_assign}
use Rattle.lowered_runs.proofs.Designators.{tree_of, begun_by, is_single, NamedIs, SecondFits, DesignatorIs, steady_designator, only_named, follows_home, follows_data, follows_register, follows_local}
use Rattle.lowered_runs.proofs.Elements.{SpanIs, span_by, follows_known_span, follows_open_span, follows_element_place, follows_field_place, follows_length}
use Rattle.ob_types.specs.Meaning.{length_of_kind}
use Rattle.ob_types.specs.Expressions.{length_of}
use Rattle.ssa_lowered.specs.Values.{length_of as lower_length}
use Rattle.ob_types.specs.Meaning.{selected, select}
use Rattle.ob_types.specs.declared.types.TypeKind.TheVariants.{Array}
use Rattle.ob_types.specs.declared.types.TypeKind.{TypeKind}
use Rattle.ob_types.specs.declared.types.TypeKind.TheVariants.{Int, Char, Byte, Nil, Nothing}
use Rattle.ob_types.specs.declared.types.TypeKind.TheVariants.{Text as TextOf}
use Rattle.ob_types.specs.declared.types.TypeKind.TheVariants.{Record as RecordOf, Bool as Boolean, Set as SetOf, Pointer as PointerTo, Procedure as ProcedureOf}
use Rattle.ob_types.specs.Forms.{scalar_form}
use Rattle.ob_types.specs.Layout.{record_of, types_of, field_place, extends}
use Rattle.ob_sound.proofs.Constructs.{record_is, p_of, pointed_is}
use Rattle.ob_types.specs.declared.tree.Designator.{Row_of-Selector, end_of-Selector, more_of-Selector}
use Rattle.ob_types.specs.declared.tree.Selector.{Selector, Index, Field, Dereference, Narrow}
use Rattle.ob_sound.proofs.Typed.{Names, NamesOf, names_older, element_is}
use Rattle.ob_sound.proofs.Tables.{record_cells_length, extends_trans}
use Rattle.ssa_lowered.specs.Lowered.{selected as lower_selected, select as lower_select}
use Rattle.ssa_lowered.specs.Values.{Named}
use Rattle.lowered_runs.proofs.Input.{follows_in_char}
use Rattle.lowered_runs.proofs.Texts.{NamedText, follows_out_string}
use Rattle.lowered_runs.proofs.Comparing.{follows_texts_compared}
use Rattle.lowered_runs.proofs.Pointers.{follows_object, follows_new}
use Rattle.ob_types.specs.Expressions.{pointer_type, parameter_type, is_of}
use Rattle.ob_types.specs.Statements.{type_case}
use Rattle.ob_types.specs.Meaning.{type_parts}
use Rattle.ob_types.specs.declared.statements.Stmt.{Row_of-TypePart, end_of-TypePart, more_of-TypePart}
use Rattle.block_runs.specs.declared.end.End.TheVariants.{Jump}
use Rattle.ssa_lowered.specs.Values.{tag_of}
use Rattle.ssa_lowered.specs.Lowered.{records_of, type_tests, type_bodies}
use Rattle.ssa_lowered.specs.Variables.{assigned_type_parts, lent_by_type_parts}
use Rattle.lowered_runs.proofs.TypeCases.{nothing_more, KnownType, known_type, all_types_say, jump_otherwise}
use Rattle.lowered_runs.proofs.TypeTests.{answer as type_answer, steady_pointer_type, steady_parameter_type, follows_guarded, PointerType, grows_is_pointer, follows_is_pointer, follows_pointer_type, ParameterType, grows_is_tag, follows_is_tag, follows_parameter_type, follows_type_test, follows_narrowed}
use Rattle.ob_types.specs.Expressions.{guarded, all_guarded}
use Rattle.ssa_lowered.specs.Values.{guarded as lower_guarded, is_pointer, is_tag}
use Rattle.ssa_lowered.specs.Lowered.{level, all_guarded as lower_all_guarded}
use Rattle.lowered_runs.proofs.Copies.{Reaches, writable_is, follows_copy_record, follows_copy_array}
use Rattle.ob_types.specs.Statements.{done}
use Rattle.ob_sound.proofs.Deeds.{done_formed}
use Rattle.lowered_runs.proofs.Bounds.{load_is, assign_is, step_is, follows_for}
use Rattle.wrapping_numbers.proofs.Wrapping.{add64_lt}
use Rattle.wrapping_numbers.specs.Numbers.{add64, signed, unsigned}
use Rattle.block_runs.specs.Compares.{compares}
use Rattle.std.specs.Prelude.{int_lt, int_le, pos}
use Rattle.ob_types.specs.Store.{Address, fetch, put, can_write, address_in}
use Rattle.ob_types.specs.Expressions.{load, two_operands}
use Rattle.ob_types.specs.Statements.{assign}
use Rattle.ob_sound.proofs.Typed.{Good, Formed, s_bind, s_older, s_put, form_older}
use Rattle.ob_sound.proofs.Constructs.{as_number}
use Rattle.ob_sound.proofs.Deeds.{s_full, s_number_at}
use Rattle.ob_sound.proofs.Tree.{t_named, t_checked}
use Rattle.ssa_lowered.specs.Lowered.{bound}
use Rattle.lowered_runs.proofs.Deeds.{follows_number_change, follows_set_change, follows_assert, follows_out_char, follows_out_int}
use Rattle.lowered_runs.proofs.Flags.{follows_flag}

-- types that are one are of one width
byte_same : (a b : TypeKind) → WellFormed.equal_kinds a b ≡ true → takes_a_byte a ≡ takes_a_byte b
byte_same Int Int h = refl
byte_same Boolean Boolean h = refl
byte_same Char Char h = refl
byte_same Byte Byte h = refl
byte_same SetOf SetOf h = refl
byte_same Nil Nil h = refl
byte_same Nothing Nothing h = refl
byte_same (TextOf n) (TextOf m) h = refl
byte_same (Array n a) (Array m b) h = refl
byte_same (RecordOf r) (RecordOf s) h = refl
byte_same (PointerTo r) (PointerTo s) h = refl
byte_same (ProcedureOf r) (ProcedureOf s) h = refl
byte_same _ _ h = no h

-- what points is no byte, and neither is a full number
pointer_wide : (f : Form) → WellFormed.is_pointer f ≡ true → fits_byte f ≡ false
pointer_wide Zero h = refl
pointer_wide (ToRecord r) h = refl
pointer_wide Truth h = no h
pointer_wide Small h = no h
pointer_wide Number h = no h
pointer_wide (Routines k) h = no h
pointer_wide (Exactly g) h = no h

full_wide : (f : Form) → WellFormed.is_full f ≡ true → fits_byte f ≡ false
full_wide Number h = refl
full_wide Zero h = no h
full_wide Truth h = no h
full_wide Small h = no h
full_wide (ToRecord r) h = no h
full_wide (Routines k) h = no h
full_wide (Exactly g) h = no h

-- a number that is a byte's changes as one
byte_changes : (b : Bool) (f : Form) → WellFormed.changes b f ≡ true → fits_byte f ≡ true → b ≡ true
byte_changes b Small h is = h
byte_changes b Number h is = no is
byte_changes b Zero h is = no h
byte_changes b Truth h is = no h
byte_changes b (ToRecord r) h is = no h
byte_changes b (Routines k) h is = no h
byte_changes b (Exactly g) h is = no h

either_left : (a b : Bool) → a ≡ true → (a || b) ≡ true
either_left true b h = refl
either_left false b h = no h

either_right : (a b : Bool) → b ≡ true → (a || b) ≡ true
either_right true b h = refl
either_right false b h = h

-- tests put together in other ways
left_of : (r a b : Bool) → (r && a) ≡ true → (r && (a || b)) ≡ true
left_of true true b h = refl
left_of true false b h = no h
left_of false a b h = no h

right_of : (r a b : Bool) → (r && b) ≡ true → (r && (a || b)) ≡ true
right_of true true b h = refl
right_of true false b h = h
right_of false a b h = no h

regroup_mask : (r a b c : Bool) → (r && (a || (b || c))) ≡ true → (r && ((a || b) || c)) ≡ true
regroup_mask true true b c h = refl
regroup_mask true false b c h = h
regroup_mask false a b c h = no h

module _ (w : Whole) (l : Level) (right : Right w) (apart : Apart w l) (vars : Variables w l) (good : types_fine w.program.types ≡ true) (calls : Calls) (sound : CallsSound w.program good calls)
    (frame : slice_index_or (forms_of_all w.program l.types) l.frame [] ≡ joined (forms w.program.types) (locals w l)) (taken : AllTaken w.program good (forms_of_all w.program l.types) l.store.tags (procedure_of w.program l.proc).formals l.arguments) (stacked : Stacked l) (fuel : ℕ) (calling : Calling w good fuel calls) where
  abbrev p : Program
  p = w.program

  abbrev lay : Layout
  lay = w.layout

  abbrev mine : Here
  mine = here w l

  abbrev runs : Running
  runs = running w l

  -- no variable of these is in a register
  abbrev pub Lends : Mask → Type 0
  Lends mask = (x : ℕ) → mask x ≡ true → l.in_register x ≡ false

  pub left_lends : (a b : Mask) → Lends (either a b) → Lends a
  left_lends a b h x e = h x (either_left (a x) (b x) e)

  pub right_lends : (a b : Mask) → Lends (either a b) → Lends b
  right_lends a b h x e = h x (either_right (a x) (b x) e)

  -- a designator whose address may be made is read in the same way
  at_of_whole : (d : Designator) → Lends (lent_whole d) → Lends (lent_at d)
  at_of_whole (Variable b k) h x e = no e
  at_of_whole (Part' _ b k _ row) h x e = right_lends (unselected (origin b) row) (lent_selectors (origin b) row) h x e

  steady : Steady w l (Given w l)
  steady = steady_given w l

  taken_at : (tags : List ℕ) → Older l.store.tags tags → AllTaken p good (forms_of_all p l.types) tags (procedure_of p l.proc).formals l.arguments
  taken_at tags older = all_taken_older p good (forms_of_all p l.types) l.store.tags tags older (procedure_of p l.proc).formals l.arguments taken

  pub sound_value : (e : Expr) (k : Form) → WellFormed.form p l.proc e ≡ Some k → (tags : List ℕ) → Older l.store.tags tags → Sound p (forms_of_all p l.types) tags (HasForm p k) (value p calls runs e)
  sound_value e k is tags older = (t_value p good calls sound runs (forms_of_all p l.types) tags frame (taken_at tags older) e).sound k is

  ---- Designators

  -- what goes with an address is as its name says
  names_second : (n : Thing) (h : Handed) (tags : List ℕ) → Names p (forms_of_all p l.types) tags n h → SecondFits w l n h
  names_second (Cells f may) h tags x = tt
  names_second (Of k may) h tags x = tt
  names_second (Characters m) h tags x = tt
  names_second (OpenOf e may) (Sized a k) tags x = x.2
  names_second (Dynamic r) (Tagged a t) tags x = x.1
  names_second (OpenOf e may) _ tags x = absurd x
  names_second (Dynamic r) _ tags x = absurd x

  -- with a variable's address nothing goes
  of_variable : {mask own : Mask} {d : Act Handed} {low : Low Named} (k : ℕ) (may : Bool) → Follows w l 0 fuel mask (Given w l) (NamedIs w l own (Of k may)) d low → Follows w l 0 fuel mask (Given w l) (DesignatorIs w l own (Of k may)) d low
  of_variable k may one = follows_less w l (λ h v n f s known. (known, tt)) one

  pub base_is : {mask : Mask} (b : Base) (n : Thing) → WellFormed.base_named p l.proc b ≡ Some n → Follows w l 0 fuel mask (Given w l) (DesignatorIs w l (origin b) n) (base_of p calls runs b) (based p lay mine b)
  base_is {mask} Done n is = subst (λ n. Follows w l 0 fuel mask (Given w l) (DesignatorIs w l none n) (base_of p calls runs Done) (based p lay mine Done)) (some_same (Cells Truth false) n is)
      (follows_less w l (λ h v n f s k. (k, tt)) (follows_data w l none (Cells Truth false) (record { area = Globals; object = 0; cell = 0 }) 0 steady vars.done))
  base_is {mask} (Global m v) n is =
      let z = with_is p good (slice_get (globals_of p m) v) (λ k. Some (Of k true)) n is in
      subst (λ n. Follows w l 0 fuel mask (Given w l) (DesignatorIs w l none n) (base_of p calls runs (Global m v)) (based p lay mine (Global m v))) (some_same (Of z.0 true) n z.2)
      (of_variable z.0 true (follows_data w l none (Of z.0 true) (record { area = Globals; object = suc m; cell = cells_of_all p.types (take v (globals_of p m)) }) (global_at p lay m v) steady (vars.global m v z.0 z.1)))
  base_is {mask} (Local x) n is =
      let z = with_is p good (slice_get (locals w l) x) (λ k. Some (Of k true)) n is in
      subst (λ n. Follows w l 0 fuel mask (Given w l) (DesignatorIs w l (origin (Local x)) n) (base_of p calls runs (Local x)) (based p lay mine (Local x))) (some_same (Of z.0 true) n z.2)
      (of_variable z.0 true (subst (λ c. Follows w l 0 fuel mask (Given w l) (NamedIs w l (origin (Local x)) (Of z.0 true)) (give (Addressed (record { area = Frames; object = l.frame; cell = c }))) (based p lay mine (Local x))) (vars.cell x) (by z.0 (vars.local x z.0 z.1) (below (locals w l) x z.0 z.1))))
    where
      below : (xs : List ℕ) (x k : ℕ) → slice_get xs x ≡ Some k → x < length xs
      below [] x k e = none_some k e
      below (y ∷ xs) zero k e = omega arith
      below (y ∷ xs) (suc x) k e = let h = below xs x k e in omega (arith, h)

      by : (k : ℕ) → LocalIs w l x k → x < length (locals w l) → Follows w l 0 fuel mask (Given w l) (NamedIs w l (origin (Local x)) (Of k true)) (give (Addressed (local l x))) (based p lay mine (Local x))
      by k (inl h) lt = let e = vars.count in
          subst (λ site. Follows w l 0 fuel mask (Given w l) (NamedIs w l (origin (Local x)) (Of k true)) (give (Addressed (local l x))) (local_by p lay mine site x)) (sym h.0)
          (follows_register w l (origin (Local x)) (Of k true) x (omega (arith, lt, e)) h.1 (eq-eqb x x refl) (ap not h.2))
      by k (inr h) lt =
          subst (λ site. Follows w l 0 fuel mask (Given w l) (NamedIs w l (origin (Local x)) (Of k true)) (give (Addressed (local l x))) (local_by p lay mine site x)) (sym h.1)
          (follows_local w l (origin (Local x)) (Of k true) (local l x) (mine.bytes - h.0) steady h.3)
  base_is {mask} (Parameter k) n is =
      let z = with_is p good (slice_get (procedure_of p l.proc).formals k) (λ x. WellFormed.parameter_by p x.mode x.type_number x.variable) n is in
      let t = taken_of p good (forms_of_all p l.types) l.store.tags (procedure_of p l.proc).formals l.arguments taken k z.0 z.1 in
      let second = names_second n t.0 l.store.tags (parameter_names p good (forms_of_all p l.types) l.store.tags z.0.mode z.0.type_number z.0.variable t.0 n z.2 t.2) in
      subst (λ o. Follows w l 0 fuel mask (Given w l) (DesignatorIs w l none n) (given (slice_get l.arguments k)) (parameter_by o (words_of (take k (procedure_of p l.proc).formals)))) (sym z.1)
      (follows_seen w l (by_mode z.0.mode (words_of (take k (procedure_of p l.proc).formals))) (λ v f s m held typed known. inl (t.0, ap (λ o. given o s) t.1, (known k z.0 t.0 n z.1 t.1 z.2, second))))
  base_is {mask} (Text k) n is =
      let z = with_is p good (slice_get (texts_of p.procedures) (text_number p l.proc k)) (λ xs. Some (Characters (suc (length xs)))) n is in
      subst (λ n. Follows w l 0 fuel mask (Given w l) (DesignatorIs w l none n) (base_of p calls runs (Text k)) (based p lay mine (Text k))) (some_same (Characters (suc (length z.0))) n z.2)
      (follows_less w l (λ h v n f s known. (known, tt)) (follows_data w l none (Characters (suc (length z.0))) (record { area = Strings; object = text_number p l.proc k; cell = 0 }) (within (text_at p lay (text_number p l.proc k))) steady (vars.text (text_number p l.proc k) z.0 z.1)))

  -- a scalar's tree
  scalar_tree : (n : Thing) (f : Form) → WellFormed.scalar_in p n ≡ Some f → (h : Handed) → tree_of w l n h ≡ Scalar f
  scalar_tree (Cells g may) f is h = ap Scalar (some_same g f is)
  scalar_tree (Of k may) f is h = scalar_data_tree p.types good k f is
  scalar_tree (OpenOf e may) f is h = none_some f is
  scalar_tree (Dynamic r) f is h = none_some f is
  scalar_tree (Characters m) f is h = none_some f is

  -- its width is by its type
  byte_kind : (kind : TypeKind) (n : Thing) (f : Form) → WellFormed.has_kind p kind n ≡ true → WellFormed.scalar_in p n ≡ Some f → takes_a_byte kind ≡ fits_byte f
  byte_kind kind (Cells Truth may) f has is = byte_same kind Boolean has ∙ ap fits_byte (some_same Truth f is)
  byte_kind kind (Cells Zero may) f has is = no has
  byte_kind kind (Cells Small may) f has is = no has
  byte_kind kind (Cells Number may) f has is = no has
  byte_kind kind (Cells (ToRecord r) may) f has is = no has
  byte_kind kind (Cells (Routines k) may) f has is = no has
  byte_kind kind (Cells (Exactly g) may) f has is = no has
  byte_kind kind (Of k may) f has is = byte_same kind (kind_of p.types k) has ∙ ap (λ o. fits_byte (form_or_zero o)) is
  byte_kind kind (OpenOf e may) f has is = none_some f is
  byte_kind kind (Dynamic r) f has is = none_some f is
  byte_kind kind (Characters m) f has is = none_some f is

  byte_in : (d : Designator) (n : Thing) (f : Form) → WellFormed.named p l.proc d ≡ Some n → WellFormed.scalar_in p n ≡ Some f → takes_a_byte (kind_in d) ≡ fits_byte f
  byte_in (Variable b kind) n f is scalar =
      let z = with_is p good (WellFormed.base_named p l.proc b) (WellFormed.of_kind p kind) n is in
      let y = provided_is p (WellFormed.has_kind p kind z.0) (Some z.0) n z.2 in
      byte_kind kind z.0 f y.0 (ap (WellFormed.scalar_in p) (some_same z.0 n y.1) ∙ scalar)
  byte_in (Part' _ b kind _ row) n f is scalar =
      let z = with_is p good (WellFormed.selected_named p l.proc row (WellFormed.base_named p l.proc b)) (WellFormed.of_kind p kind) n is in
      let y = provided_is p (WellFormed.has_kind p kind z.0) (Some z.0) n z.2 in
      byte_kind kind z.0 f y.0 (ap (WellFormed.scalar_in p) (some_same z.0 n y.1) ∙ scalar)

  small_is : (d : Designator) (n : Thing) (f : Form) → WellFormed.named p l.proc d ≡ Some n → WellFormed.scalar_in p n ≡ Some f → small p lay mine d ≡ takes_byte (ground w) f
  small_is d n f is scalar = right.laid.is_small (kind_in d) ∙ ap (λ b. w.packed && b) (byte_in d n f is scalar)

  -- what is no byte takes eight
  wide_form : (f : Form) → fits_byte f ≡ false → takes_byte (ground w) f ≡ false
  wide_form f e = ap (λ b. w.packed && b) e ∙ never w.packed
    where
      never : (b : Bool) → (b && false) ≡ false
      never true = refl
      never false = refl

  byte_small : (f : Form) → takes_byte (ground w) f ≡ true → fits_byte f ≡ true
  byte_small f e = (and_of w.packed (fits_byte f) e).1

  narrow_wide : (b : Bool) (c : Cell) → b ≡ false → IsNarrow w l b c
  narrow_wide false c e = tt
  narrow_wide true c e = no (sym e)

  ---- Guards

  guarded_nothing : (rs : List ℕ) → WellFormed.guarded_form p rs None ≡ None
  guarded_nothing [] = refl
  guarded_nothing (r ∷ rs) = by (is_record_type p.types r) (guarded_nothing rs)
    where
      by : (b : Bool) → WellFormed.guarded_form p rs None ≡ None → WellFormed.guarded_form p rs (provided b None) ≡ None
      by true e = e
      by false e = e

  guarded_some : (rs : List ℕ) (o : Option Form) (k : Form) → WellFormed.guarded_form p rs o ≡ Some k → (a : Form) × (o ≡ Some a)
  guarded_some rs None k is = none_some k (sym (guarded_nothing rs) ∙ is)
  guarded_some rs (Some a) k is = (a, refl)

  -- what is guarded as a pointer is no byte
  guarded_wide : (rs : List ℕ) (a : Form) (r : ℕ) → WellFormed.guarded_form p rs (Some a) ≡ Some (ToRecord r) → fits_byte a ≡ false
  guarded_wide [] a r is = ap fits_byte (some_same a (ToRecord r) is)
  guarded_wide (s ∷ rs) a r is =
      let on = provided (is_record_type p.types s) (provided (WellFormed.is_pointer a) (Some (ToRecord s))) in
      let z = guarded_some rs on (ToRecord r) is in
      let b = provided_is p (is_record_type p.types s) (provided (WellFormed.is_pointer a) (Some (ToRecord s))) z.0 z.1 in
      pointer_wide a (provided_is p (WellFormed.is_pointer a) (Some (ToRecord s)) z.0 b.1).0

  -- guards, one after the other
  follows_guards : (rs : List ℕ) (o : Option Form) (k : Form) (x : Act Cell) (q : Low ℕ) → WellFormed.guarded_form p rs o ≡ Some k → Follows w l 0 fuel nothing (Given w l) (CellIs w l) x q → Follows w l 0 fuel nothing (Given w l) (CellIs w l) (all_guarded l.proc (extends p.types) x rs) (lower_all_guarded p lay mine rs q)
  follows_guards [] o k x q is one = one
  follows_guards (r ∷ rs) o k x q is one =
      let on = provided (is_record_type p.types r) (provided (WellFormed.gives_pointer o) (Some (ToRecord r))) in
      let a = guarded_some rs on k is in
      let b = provided_is p (is_record_type p.types r) (provided (WellFormed.gives_pointer o) (Some (ToRecord r))) a.0 a.1 in
      follows_guards rs on k (guarded l.proc (extends p.types) x r) (lower_guarded q (descriptor p lay mine r) (level p lay mine r)) is
      (follows_guarded w l right vars r (descriptor p lay mine r) (lt_of p r (length p.types.records) b.0) (vars.descriptor r) steady one)

  ---- Parts

  -- behind selectors there is nothing where there was nothing
  selected_none : {m : _} (row : Row_of-Selector m) (n : Thing) → WellFormed.selected_named p l.proc row None ≡ Some n → ⊥
  selected_none end_of-Selector n is = none_some n is
  selected_none (more_of-Selector (Index i k x) rest) n is = selected_none rest n is
  selected_none (more_of-Selector (Field r f) rest) n is = selected_none rest n is
  selected_none (more_of-Selector (Dereference rs) rest) n is = selected_none rest n (sym (ap (λ o. WellFormed.selected_named p l.proc rest (with_some o pointed)) (guarded_nothing rs)) ∙ is)
  selected_none (more_of-Selector (Narrow r) rest) n is = selected_none rest n (sym (by (is_record_type p.types r)) ∙ is)
    where
      by : (b : Bool) → WellFormed.selected_named p l.proc rest (provided b None) ≡ WellFormed.selected_named p l.proc rest None
      by true = refl
      by false = refl

  selected_some : {m : _} (row : Row_of-Selector m) (o : Option Thing) (n : Thing) → WellFormed.selected_named p l.proc row o ≡ Some n → (t : Thing) × (o ≡ Some t)
  selected_some row None n is = absurd (selected_none row n is)
  selected_some row (Some t) n is = (t, refl)

  -- record types that designators name are in the table; In.Done is a truth
  abbrev Legal : Thing → Type 0
  Legal (Dynamic r) = r < length p.types.records
  Legal (Cells f may) = f ≡ Truth
  Legal _ = Unit {0}

  legal_base : (b : Base) (n : Thing) → WellFormed.base_named p l.proc b ≡ Some n → Legal n
  legal_base Done n is = subst Legal (some_same (Cells Truth false) n is) refl
  legal_base (Global m v) n is = let z = with_is p good (slice_get (globals_of p m) v) (λ k. Some (Of k true)) n is in subst Legal (some_same (Of z.0 true) n z.2) tt
  legal_base (Local x) n is = let z = with_is p good (slice_get (locals w l) x) (λ k. Some (Of k true)) n is in subst Legal (some_same (Of z.0 true) n z.2) tt
  legal_base (Parameter k) n is =
      let z = with_is p good (slice_get (procedure_of p l.proc).formals k) (λ x. WellFormed.parameter_by p x.mode x.type_number x.variable) n is in
      by z.0.mode z.0.type_number z.0.variable z.2
    where
      by : (m : Mode) (k : ℕ) (v : Bool) → WellFormed.parameter_by p m k v ≡ Some n → Legal n
      by OfValue k v e = none_some n e
      by Place k v e = subst Legal (some_same (Of k v) n e) tt
      by OfRecord k v e = let x = with_is p good (record_by (kind_of p.types k)) (λ r. Some (Dynamic r)) n e in subst Legal (some_same (Dynamic x.0) n x.2) (right.record_there k x.0 (record_is p good (kind_of p.types k) x.0 x.1))
      by OfOpen k v e = let x = with_is p good (open_element (kind_of p.types k)) (λ e. Some (OpenOf e v)) n e in subst Legal (some_same (OpenOf x.0 v) n x.2) tt
  legal_base (Text k) n is = let z = with_is p good (slice_get (texts_of p.procedures) (text_number p l.proc k)) (λ xs. Some (Characters (suc (length xs)))) n is in subst Legal (some_same (Characters (suc (length z.0))) n z.2) tt

  -- a pointer's record type
  legal_pointer : (rs : List ℕ) (o : Option Form) (r : ℕ) → WellFormed.guarded_form p rs o ≡ Some (ToRecord r) → (o ≡ Some (ToRecord r) → r < length p.types.records) → r < length p.types.records
  legal_pointer [] o r is own = own is
  legal_pointer (s ∷ rs) o r is own = legal_pointer rs (provided (is_record_type p.types s) (provided (WellFormed.gives_pointer o) (Some (ToRecord s)))) r is (λ e.
      let a = provided_is p (is_record_type p.types s) (provided (WellFormed.gives_pointer o) (Some (ToRecord s))) (ToRecord r) e in
      let b = provided_is p (WellFormed.gives_pointer o) (Some (ToRecord s)) (ToRecord r) a.1 in
      subst (λ x. x < length p.types.records) (same b.1) (lt_of p s (length p.types.records) a.0))
    where
      same : {s r : ℕ} → Some (ToRecord s) ≡ Some (ToRecord r) → s ≡ r
      same e = cc

  legal_scalar : (b : Thing) (r : ℕ) → Legal b → WellFormed.scalar_in p b ≡ Some (ToRecord r) → r < length p.types.records
  legal_scalar (Of k may) r legal is = right.target_there k r (by (kind_of p.types k) is)
    where
      by : (kind : TypeKind) → scalar_form kind ≡ Some (ToRecord r) → kind ≡ PointerTo r
      by (PointerTo s) e = ap PointerTo (same e)
        where
          same : {s r : ℕ} → Some (ToRecord s) ≡ Some (ToRecord r) → s ≡ r
          same e = cc
      by Int e = absurd (cc)
      by Char e = absurd (cc)
      by Byte e = absurd (cc)
      by Boolean e = absurd (cc)
      by SetOf e = absurd (cc)
      by (ProcedureOf k) e = absurd (cc)
      by _ e = none_some (ToRecord r) e
  legal_scalar (Cells f may) r legal is = absurd (other (sym (ap (λ f. Some f) legal) ∙ is))
    where
      other : Some Truth ≡ Some (ToRecord r) → ⊥
      other e = cc
  legal_scalar (OpenOf e may) r legal is = none_some (ToRecord r) is
  legal_scalar (Dynamic s) r legal is = none_some (ToRecord r) is
  legal_scalar (Characters m) r legal is = none_some (ToRecord r) is

  legal_select : (s : Selector) (b t : Thing) → WellFormed.select_named p l.proc s (Some b) ≡ Some t → Legal b → Legal t
  legal_select (Index o e x) b t is legal =
      let a = provided_is p (WellFormed.array_of p e o b) (provided (gives_number (WellFormed.form p l.proc x)) (Some (Of e (WellFormed.is_writable b)))) t is in
      let c = provided_is p (gives_number (WellFormed.form p l.proc x)) (Some (Of e (WellFormed.is_writable b))) t a.1 in
      subst Legal (some_same (Of e (WellFormed.is_writable b)) t c.1) tt
  legal_select (Field r f) b t is legal =
      let a = provided_is p (WellFormed.has_record p r b) (with_some (slice_get (types_of (record_of p.types r).fields) f) (λ k. Some (Of k (WellFormed.is_writable b)))) t is in
      let c = with_is p good (slice_get (types_of (record_of p.types r).fields) f) (λ k. Some (Of k (WellFormed.is_writable b))) t a.1 in
      subst Legal (some_same (Of c.0 (WellFormed.is_writable b)) t c.2) tt
  legal_select (Dereference rs) b t is legal =
      let a = with_is p good (WellFormed.guarded_form p rs (WellFormed.scalar_in p b)) pointed t is in
      let r = pointed_is p good a.0 t a.2 in
      subst Legal (sym r.2) (legal_pointer rs (WellFormed.scalar_in p b) r.0 (a.1 ∙ ap (λ f. Some f) r.1) (λ e. legal_scalar b r.0 legal e))
  legal_select (Narrow r) b t is legal =
      let a = provided_is p (is_record_type p.types r) (provided (WellFormed.is_dynamic p b) (Some (Dynamic r))) t is in
      let c = provided_is p (WellFormed.is_dynamic p b) (Some (Dynamic r)) t a.1 in
      subst Legal (some_same (Dynamic r) t c.1) (lt_of p r (length p.types.records) a.0)

  legal_selected : {m : _} (row : Row_of-Selector m) (b n : Thing) → WellFormed.selected_named p l.proc row (Some b) ≡ Some n → Legal b → Legal n
  legal_selected end_of-Selector b n is legal = subst Legal (some_same b n is) legal
  legal_selected (more_of-Selector s rest) b n is legal =
      let t = selected_some rest (WellFormed.select_named p l.proc s (Some b)) n is in
      legal_selected rest t.0 n (ap (WellFormed.selected_named p l.proc rest) (sym t.1) ∙ is) (legal_select s b t.0 t.1 legal)

  legal_named : (d : Designator) (n : Thing) → WellFormed.named p l.proc d ≡ Some n → Legal n
  legal_named (Variable b kind) n is =
      let z = with_is p good (WellFormed.base_named p l.proc b) (WellFormed.of_kind p kind) n is in
      let y = provided_is p (WellFormed.has_kind p kind z.0) (Some z.0) n z.2 in
      subst Legal (some_same z.0 n y.1) (legal_base b z.0 z.1)
  legal_named (Part' _ b kind _ row) n is =
      let z = with_is p good (WellFormed.selected_named p l.proc row (WellFormed.base_named p l.proc b)) (WellFormed.of_kind p kind) n is in
      let y = provided_is p (WellFormed.has_kind p kind z.0) (Some z.0) n z.2 in
      let base = selected_some row (WellFormed.base_named p l.proc b) z.0 z.1 in
      subst Legal (some_same z.0 n y.1) (legal_selected row base.0 z.0 (ap (WellFormed.selected_named p l.proc row) (sym base.1) ∙ z.1) (legal_base b base.0 base.1))

  -- what a part is
  abbrev PartIs : Thing → Act Handed → Low Named → Type 0
  PartIs t d low = Legal t × Follows w l 0 fuel nothing (Given w l) (DesignatorIs w l none t) d low

  -- a designator names what its name says
  abbrev Sensible : Thing → Act Handed → Type 0
  Sensible t d = (tags : List ℕ) → Older l.store.tags tags → Sound p (forms_of_all p l.types) tags (NamesOf p (forms_of_all p l.types) t) d

  -- and so does a part of it
  sensible_part : (s : Selector) (b t : Thing) (d : Act Handed) → WellFormed.select_named p l.proc s (Some b) ≡ Some t → Sensible b d → Sensible t (select p calls runs s d)
  sensible_part s b t d is sensible tags older = (t_select p good calls sound runs (forms_of_all p l.types) tags frame (taken_at tags older) s (Some b) d (p_of p good b (sensible tags older))).sound t is

  of_sensible : {mask own : Mask} {d : Act Handed} {low : Low Named} (n : Thing) → Sensible n d → Follows w l 0 fuel mask (Given w l) (NamedIs w l own n) d low → Follows w l 0 fuel mask (Given w l) (DesignatorIs w l own n) d low
  of_sensible n sensible one = follows_less w l (λ h v i f s known. (known.0, names_second n h s.tags known.1)) (follows_sound w l {P = NamesOf p (forms_of_all p l.types) n} sensible one)

  ---- Arrays

  abbrev element_tree : Elementary → DataTree
  element_tree (OfType k) = data_tree p.types k
  element_tree Letter = Scalar Small

  span_is : {mask : Mask} (own : Mask) (t : Thing) (o : Option ℕ) (el : Elementary) → WellFormed.elements_in p t o ≡ Some el → (h : Handed) (v : Named) → Follows w l 0 fuel mask (Both (Given w l) (DesignatorIs w l own t h v)) (SpanIs w l o (element_tree el) v) (span_by w l o h) (lower_address v 0)
  span_is own (Of k may) (Some n) el is h v =
      let a = element_is p (kind_of p.types k) n el is in
      follows_known_span w l own (Of k may) h v n (element_tree el) steady (array_data_tree p.types good k n a.0 a.1 ∙ ap (λ el. ArrayTree n (element_tree el)) a.2) (ap (λ z. not (is_structured z)) a.1) a.3
  span_is own (Characters m) (Some n) el is h v =
      let a = provided_is p (m == n && nat_lt n (2 ^ 32)) (Some Letter) el is in
      let b = and_of (m == n) (nat_lt n (2 ^ 32)) a.0 in
      follows_known_span w l own (Characters m) h v n (element_tree el) steady (ap₂ (λ n el. ArrayTree n (element_tree el)) (eqb-true m n b.0) (some_same Letter el a.1)) refl (lt_of p n (2 ^ 32) b.1)
  span_is {mask} own (OpenOf e may) None el is h v =
      subst (λ el. Follows w l 0 fuel mask (Both (Given w l) (DesignatorIs w l own (OpenOf e may) h v)) (SpanIs w l None (element_tree el) v) (span_by w l None h) (lower_address v 0)) (some_same (OfType e) el is) (follows_open_span w l own e may h v)
  span_is own (Of k may) None el is h v = none_some el is
  span_is own (Characters m) None el is h v = none_some el is
  span_is own (OpenOf e may) (Some n) el is h v = none_some el is
  span_is own (Cells f may) o el is h v = none_some el is
  span_is own (Dynamic r) o el is h v = none_some el is

  -- of elements of a type
  array_is : {mask : Mask} (own : Mask) (t : Thing) (o : Option ℕ) (e : ℕ) → WellFormed.array_of p e o t ≡ true → (h : Handed) (v : Named) → Follows w l 0 fuel mask (Both (Given w l) (DesignatorIs w l own t h v)) (SpanIs w l o (data_tree p.types e) v) (span_by w l o h) (lower_address v 0)
  array_is {mask} own t o e has h v =
      let el = holds_is p good (λ x. WellFormed.is_element p x e) (WellFormed.elements_in p t o) has in
      subst (λ c. Follows w l 0 fuel mask (Both (Given w l) (DesignatorIs w l own t h v)) (SpanIs w l o c v) (span_by w l o h) (lower_address v 0)) (element_trees p w.packed good l.types el.0 e el.2) (span_is own t o el.0 el.1 h v)

  -- a record's address is that of its base's part
  record_part : (n : Thing) (r : ℕ) → WellFormed.has_record p r n ≡ true → (h : Handed) → SecondFits w l n h → Node w.packed (tree_of w l n h) 0 0 (Record (record_row p.types r))
  record_part (Of k may) r has h second =
      let s = holds_is p good (λ s. extends p.types s r) (record_by (kind_of p.types k)) has in
      subst (λ t. Node w.packed t 0 0 (Record (record_row p.types r))) (sym (record_data_tree p.types good k s.0 (record_is p good (kind_of p.types k) s.0 s.1))) (base_node p.types good w.packed s.0 r s.2)
  record_part (Dynamic b) r has (Tagged a t) second = base_node p.types good w.packed t r (extends_trans p.types good t b r second has)
  record_part (Dynamic b) r has (Addressed a) second = absurd second
  record_part (Dynamic b) r has (Sized a n) second = absurd second
  record_part (Dynamic b) r has (Value c) second = absurd second
  record_part (Cells f may) r has h second = no has
  record_part (OpenOf e may) r has h second = no has
  record_part (Characters m) r has h second = no has

  record_many : (d : Thing) (r : ℕ) → WellFormed.has_record p r d ≡ true → is_single w l d ≡ false
  record_many (Of k may) r has =
      let s = holds_is p good (λ s. extends p.types s r) (record_by (kind_of p.types k)) has in
      ap (λ z. not (is_structured z)) (record_is p good (kind_of p.types k) s.0 s.1)
  record_many (Dynamic b) r has = refl
  record_many (Cells f may) r has = no has
  record_many (OpenOf e may) r has = no has
  record_many (Characters m) r has = no has

  -- where a field stands
  field_offset : (r f kind : ℕ) → slice_get (types_of (record_of p.types r).fields) f ≡ Some kind → byte_place p.types w.packed r f kind ≡ lay.offset r f
  unfolding byte_place
  field_offset r f kind at = ap (λ k. round_up (wide w.packed (data_tree p.types k)) (row_end w.packed (fields_before p.types r f))) (sym (index_of (types_of (record_of p.types r).fields) f kind at)) ∙ sym (right.laid.offset r f)
    where
      index_of : (ks : List ℕ) (f k : ℕ) → slice_get ks f ≡ Some k → slice_index ks f ≡ k
      index_of [] f k e = none_some k e
      index_of (x ∷ ks) zero k e = some_same x k e
      index_of (x ∷ ks) (suc f) k e = index_of ks f k e

  field_part : (n : Thing) (r f kind : ℕ) → WellFormed.has_record p r n ≡ true → slice_get (types_of (record_of p.types r).fields) f ≡ Some kind → (h : Handed) → SecondFits w l n h → Node w.packed (tree_of w l n h) (field_place p.types r f) (lay.offset r f) (data_tree p.types kind)
  field_part n r f kind has at h second =
      node_node w.packed (tree_of w l n h) 0 0 (Record (record_row p.types r)) (field_place p.types r f) (lay.offset r f) (data_tree p.types kind) (field_place p.types r f) (lay.offset r f) (record_part n r has h second)
      (subst (λ x. Node w.packed (Record (record_row p.types r)) (field_place p.types r f) x (data_tree p.types kind)) (field_offset r f kind at) (field_node p.types good w.packed r f kind at)) (omega arith) (omega arith)

  -- the address of a whole variable is made where it is in memory
  own_lent : (d : Designator) → Lends (lent_whole d) → (x : ℕ) → whole_of d x ≡ true → l.in_register x ≡ false
  own_lent (Variable b k) lends x e = lends x e
  own_lent (Part' _ b k _ row) lends x e = left_lends (unselected (origin b) row) (lent_selectors (origin b) row) lends x e

  no_record : (o : Option ℕ) → (false || holds_of (λ r. false) o) ≡ true → ⊥
  no_record None e = no e
  no_record (Some r) e = no e

  -- what may be handed over begins with what its parameter has
  place_part : (k : ℕ) (v : Bool) (n : Thing) (h : Handed) → SecondFits w l n h → WellFormed.place_suits p k v n ≡ true → Node w.packed (tree_of w l n h) 0 0 (data_tree p.types k)
  place_part k true (Of j may) h second suits = let e = eqb-true j k (and_of (j == k) may suits).0 in subst (λ k. Node w.packed (data_tree p.types j) 0 0 (data_tree p.types k)) e (node_self w.packed (data_tree p.types j))
  place_part k false (Of j may) h second suits = elim (or_split p good (j == k) (holds_of (λ r. WellFormed.has_record p r (Of j may)) (record_by (kind_of p.types k))) suits) [
    | inl e ↦ subst (λ k. Node w.packed (data_tree p.types j) 0 0 (data_tree p.types k)) (eqb-true j k e) (node_self w.packed (data_tree p.types j))
    | inr e ↦ (let r = holds_is p good (λ r. WellFormed.has_record p r (Of j may)) (record_by (kind_of p.types k)) e in whole_record k r.0 (Of j may) h r.1 (record_part (Of j may) r.0 r.2 h second))
  ]
    where
      whole_record : (k r : ℕ) (n : Thing) (h : Handed) → record_by (kind_of p.types k) ≡ Some r → Node w.packed (tree_of w l n h) 0 0 (Record (record_row p.types r)) → Node w.packed (tree_of w l n h) 0 0 (data_tree p.types k)
      whole_record k r n h is part = subst (λ t. Node w.packed (tree_of w l n h) 0 0 t) (sym (record_data_tree p.types good k r (record_is p good (kind_of p.types k) r is))) part
  place_part k false (Dynamic r) h second suits =
      let b = holds_is p good (λ b. extends p.types r b) (record_by (kind_of p.types k)) suits in
      subst (λ t. Node w.packed (tree_of w l (Dynamic r) h) 0 0 t) (sym (record_data_tree p.types good k b.0 (record_is p good (kind_of p.types k) b.0 b.1))) (record_part (Dynamic r) b.0 b.2 h second)
  place_part k true (Dynamic r) h second suits = no suits
  place_part k true (Cells f may) h second suits = no suits
  place_part k true (OpenOf e may) h second suits = no suits
  place_part k true (Characters m) h second suits = no suits
  place_part k false (Cells f may) h second suits = absurd (no_record (record_by (kind_of p.types k)) suits)
  place_part k false (OpenOf e may) h second suits = absurd (no_record (record_by (kind_of p.types k)) suits)
  place_part k false (Characters m) h second suits = absurd (no_record (record_by (kind_of p.types k)) suits)

  ---- Expressions

  -- an expression as a value and as a condition
  pub record Shows (x : Act Cell) (low : Lowers) : Type 0 where
    pub value : Follows w l 0 fuel nothing (Given w l) (CellIs w l) x low.value
    pub test : Forks w l holds fuel (Given w l) No_more (bits x) low.test

  shown : {x : Act Cell} {q : Low ℕ} → Follows w l 0 fuel nothing (Given w l) (CellIs w l) x q → Shows x (record { value = q; test = fork_value q })
  shown one = record { value = one; test = forks_value w l steady one }

  literal_few : (n : ℕ) (k : Form) → WellFormed.literal n ≡ Some k → n < 2 ^ 64
  literal_few zero k is = omega arith
  literal_few (suc zero) k is = omega arith
  literal_few (suc (suc n)) k is = by (nat_lt (suc (suc n)) 256) (nat_lt (suc (suc n)) (2 ^ 64)) refl refl is
    where
      less : (a b : ℕ) → nat_lt a b ≡ true → a < b
      less a b e = lt_of p a b e

      by : (a b : Bool) → nat_lt (suc (suc n)) 256 ≡ a → nat_lt (suc (suc n)) (2 ^ 64) ≡ b → WellFormed.literal_by a b ≡ Some k → suc (suc n) < 2 ^ 64
      by true b e g h = let lt = less (suc (suc n)) 256 e in omega (arith, lt)
      by false true e g h = less (suc (suc n)) (2 ^ 64) g
      by false false e g h = none_some k h

  one_shows : (op : Unary) (x : Act Cell) (low : Lowers) → Shows x low → Shows (one_operand op x) (one_of op low)
  one_shows Negate x low q = shown (follows_unary w l Negate steady q.value)
  one_shows Complement x low q = shown (follows_unary w l Complement steady q.value)
  one_shows Abs x low q = shown (follows_unary w l Abs steady q.value)
  one_shows Odd x low q = shown (follows_unary w l Odd steady q.value)
  one_shows Not x low q = record {
    value = follows_unary w l Not steady q.value;
    test = forks_as w l (bits (one_operand Not x)) (λ k. give (truth (k == 0))) (λ s. after_after (bits x s) (λ a. give (Bits (unary_of Not a))) bits_in) (λ k v f s h. (truth (k == 0), refl, turned (k == 0), tt)) (forks_not w l q.test);
  }
    where
      turned : (b : Bool) → holds (truth b) ≡ not (not b)
      turned true = refl
      turned false = refl

  linked_none : {m : _} (row : Row_of-Link m) (k : Form) → WellFormed.linked_form p l.proc row None ≡ Some k → ⊥
  linked_none end_of-Link k is = none_some k is
  linked_none (more_of-Link (Operate op y) rest) k is = linked_none rest k is
  linked_none (more_of-Link (And y) rest) k is = linked_none rest k is
  linked_none (more_of-Link (Or y) rest) k is = linked_none rest k is
  linked_none (more_of-Link (Element y) rest) k is = linked_none rest k is
  linked_none (more_of-Link (Elements' _ y _ z) rest) k is = linked_none rest k is

  linked_some : {m : _} (row : Row_of-Link m) (o : Option Form) (k : Form) → WellFormed.linked_form p l.proc row o ≡ Some k → (j : Form) × (o ≡ Some j)
  linked_some row None k is = absurd (linked_none row k is)
  linked_some row (Some j) k is = (j, refl)

  -- a form that is given
  number_form : (o : Option Form) → gives_number o ≡ true → (k : Form) × (o ≡ Some k)
  number_form o h = let z = holds_is p good is_number o h in (z.0, z.1)

  truth_form : (o : Option Form) → WellFormed.gives_truth o ≡ true → (k : Form) × (o ≡ Some k)
  truth_form o h = let z = holds_is p good WellFormed.is_truth o h in (z.0, z.1)

  pointer_form : (o : Option Form) → WellFormed.gives_pointer o ≡ true → (k : Form) × (o ≡ Some k)
  pointer_form o h = let z = holds_is p good WellFormed.is_pointer o h in (z.0, z.1)

  -- a record with a dynamic type
  dynamic_named : (d : Designator) → holds_of (WellFormed.is_dynamic p) (WellFormed.named p l.proc d) ≡ true → (b : ℕ) × (WellFormed.named p l.proc d ≡ Some (Dynamic b))
  dynamic_named d h = let z = holds_is p good (WellFormed.is_dynamic p) (WellFormed.named p l.proc d) h in by z.0 z.1 z.2
    where
      by : (n : Thing) → WellFormed.named p l.proc d ≡ Some n → WellFormed.is_dynamic p n ≡ true → (b : ℕ) × (WellFormed.named p l.proc d ≡ Some (Dynamic b))
      by (Dynamic b) at is = (b, at)
      by (Cells f may) at is = no is
      by (Of k may) at is = no is
      by (OpenOf e may) at is = no is
      by (Characters m) at is = no is

  abbrev Meant : Option Form → Act Cell → Type 0
  Meant o x = (tags : List ℕ) → Older l.store.tags tags → Means p good (forms_of_all p l.types) tags o x

  means_link : (k : Link) (o : Option Form) (x : Act Cell) → Meant o x → Meant (WellFormed.link_form p l.proc k o) (link p calls runs k x)
  means_link k o x q tags older = t_link p good calls sound runs (forms_of_all p l.types) tags frame (taken_at tags older) k o x (q tags older)

  length_shows : (o : Option ℕ) (d : Designator) (k : Form) → provided (holds_of (WellFormed.any_array p o) (WellFormed.named p l.proc d)) (Some Number) ≡ Some k
      → ((t : Thing) → WellFormed.named p l.proc d ≡ Some t → Follows w l 0 fuel nothing (Given w l) (DesignatorIs w l (whole_of d) t) (designated p calls runs d) (named p lay mine d))
      → Shows (length_of (designated p calls runs d) o) (record { value = lower_length (named p lay mine d) o; test = fork_value (lower_length (named p lay mine d) o) })
  length_shows o d k is one =
      let a = provided_is p (holds_of (WellFormed.any_array p o) (WellFormed.named p l.proc d)) (Some Number) k is in
      let t = holds_is p good (WellFormed.any_array p o) (WellFormed.named p l.proc d) a.0 in
      let e = holds_is p good (λ x. true) (WellFormed.elements_in p t.0 o) t.2 in
      shown (follows_length w l o (element_tree e.0) (designated p calls runs d) steady (steady_designator w l (whole_of d) t.0) (span_is (whole_of d) t.0 o e.0 e.1) (one t.0 t.1))

  ---- Arguments

  -- they are as they are taken
  all_given : {m : _} (xs : List Formal) (row : Row_of-Argument m) → WellFormed.all_suit p l.proc row xs ≡ true → Follows w l 0 fuel nothing (Given w l) (WordsAre w l xs) (arguments p calls runs row) (lower_arguments p lay mine row)
      → Follows w l 0 fuel nothing (Given w l) (λ hs us n f s. WordsAre w l xs hs us n f s × AllTaken p good (forms_of_all p l.types) s.tags xs hs) (arguments p calls runs row) (lower_arguments p lay mine row)
  all_given xs row suits one = follows_sound w l {P = λ tags hs. AllTaken p good (forms_of_all p l.types) tags xs hs} (λ tags older. t_arguments p good calls sound runs (forms_of_all p l.types) tags frame (taken_at tags older) _ row xs suits) one

  -- a procedure variable that is called is of a procedure type, and so are the arguments
  called_through : {m : _} (d : Designator) (args : Row_of-Argument m) → holds_of (WellFormed.suits_through p (WellFormed.all_suit p l.proc args)) (with_some (WellFormed.named p l.proc d) (WellFormed.scalar_in p)) ≡ true
      → (k : ℕ) × (with_some (WellFormed.named p l.proc d) (WellFormed.scalar_in p) ≡ Some (Routines k)) × (WellFormed.all_suit p l.proc args (signature_of p.types k).formals ≡ true)
  called_through d args suits =
      let f = holds_is p good (WellFormed.suits_through p (WellFormed.all_suit p l.proc args)) (with_some (WellFormed.named p l.proc d) (WellFormed.scalar_in p)) suits in
      let k = through_is p good calls sound (WellFormed.all_suit p l.proc args) f.0 f.2 in
      (k.0, f.1 ∙ ap (λ x. Some x) k.1, k.2)

  -- the value of a variable, and of a procedure variable that is called
  variable_value : (d : Designator) (k : Form) → with_some (WellFormed.named p l.proc d) (WellFormed.scalar_in p) ≡ Some k → ((n : Thing) → WellFormed.named p l.proc d ≡ Some n → Follows w l 0 fuel nothing (Given w l) (DesignatorIs w l (whole_of d) n) (designated p calls runs d) (named p lay mine d))
      → Follows w l 0 fuel nothing (Given w l) (CellIs w l) (load (designated p calls runs d)) (lower_load (home_of (named p lay mine d) (small p lay mine d)))
  variable_value d k is one =
      let z = with_is p good (WellFormed.named p l.proc d) (WellFormed.scalar_in p) k is in
      follows_load w l (whole_of d) (small p lay mine d) (designated p calls runs d) steady (follows_home w l (whole_of d) (small p lay mine d) z.0 (designated p calls runs d) k (scalar_tree z.0 k z.2) (small_is d z.0 k z.1 z.2) steady (only_named w l z.0 (one z.0 z.1)))

  code_value : (d : Designator) (k : ℕ) → with_some (WellFormed.named p l.proc d) (WellFormed.scalar_in p) ≡ Some (Routines k) → ((n : Thing) → WellFormed.named p l.proc d ≡ Some n → Follows w l 0 fuel nothing (Given w l) (DesignatorIs w l (whole_of d) n) (designated p calls runs d) (named p lay mine d))
      → Follows w l 0 fuel nothing (Given w l) (λ c i n f s. CellIs w l c i n f s × HasForm p (Routines k) s.tags c) (load (designated p calls runs d)) (lower_load (home_of (named p lay mine d) (small p lay mine d)))
  code_value d k is one = follows_sound w l {P = HasForm p (Routines k)} (sound_value (Load d) (Routines k) is) (variable_value d (Routines k) is one)

  value_word : (m : Mode) (k : ℕ) (e : Expr) → WellFormed.value_suits p m (WellFormed.form p l.proc e) (WellFormed.form_of p k) ≡ true → ((f : Form) → WellFormed.form p l.proc e ≡ Some f → Follows w l 0 fuel nothing (Given w l) (CellIs w l) (value p calls runs e) (expr p lay mine e).value)
      → Follows w l 0 fuel nothing (Given w l) (OneWord w l m k) (by_value (value p calls runs e)) (by_word (expr p lay mine e).value)
  value_word OfValue k e suits one = let g = given_is p good (WellFormed.form p l.proc e) (WellFormed.form_of p k) suits in follows_by_value w l k steady (one g.0 g.2)
  value_word Place k e suits one = no suits
  value_word OfRecord k e suits one = no suits
  value_word OfOpen k e suits one = no suits

  place_word : (m : Mode) (k : ℕ) (v : Bool) (d : Designator) → WellFormed.place_argument p m k v (WellFormed.named p l.proc d) ≡ true → Lends (lent_whole d) → ((n : Thing) → WellFormed.named p l.proc d ≡ Some n → Follows w l 0 fuel nothing (Given w l) (DesignatorIs w l (whole_of d) n) (designated p calls runs d) (named p lay mine d))
      → Follows w l 0 fuel nothing (Given w l) (OneWord w l m k) (by_place (designated p calls runs d)) (by_word (address (named p lay mine d)))
  place_word Place k v d suits lends one =
      let n = holds_is p good (WellFormed.place_suits p k v) (WellFormed.named p l.proc d) suits in
      follows_by_place w l k steady (follows_bind w l steady (one n.0 n.1) (λ h. grows_address w l h 0) (λ h a. addressed n.0 n.2 h a))
    where
      addressed : (n : Thing) → WellFormed.place_suits p k v n ≡ true → (h : Handed) (a : Named) → Follows w l 0 fuel nothing (Both (Given w l) (DesignatorIs w l (whole_of d) n h a)) (RowIs w l (data_tree p.types k)) (given (address_in h)) (lower_address a 0)
      addressed n suits h a = record {
        grows = grows_address w l a 0;
        by = λ most g c f s room free le needs few stands fits within known typed r.
            (follows_less w l (λ b i n2 g s2 k2. (k2.0, begun_by w l b (tree_of w l n h) (data_tree p.types k) (g i) s2 (place_part k v n h known.1.1 suits) k2.1)) (follows_address w l {K = Given w l} (whole_of d) n h a (inr (own_lent d lends)))).by most g c f s room free le needs few stands fits within (known.0, known.1.0) typed r;
      }
  place_word OfValue k v d suits lends one = no suits
  place_word OfRecord k v d suits lends one = no suits
  place_word OfOpen k v d suits lends one = no suits

  tags_same : (a b : Address) (r t : ℕ) → Some (Tagged a r) ≡ Some (Tagged b t) → r ≡ t
  tags_same a b r t e = cc

  -- a record that may be handed over with a tag is one of that record type
  tagged_part : (b r : ℕ) (n : Thing) (h : Handed) (tags : List ℕ) → WellFormed.record_suits p b r n ≡ true → Names p (forms_of_all p l.types) tags n h → (a : Address) (t : ℕ) → with_tag h r ≡ Some (Tagged a t) → Node w.packed (tree_of w l n h) 0 0 (Record (record_row p.types t))
  tagged_part b r (Of k true) (Addressed c) tags suits names a t is =
      let s = holds_is p good (λ s. s == r && extends p.types s b) (record_by (kind_of p.types k)) suits in
      let same = eqb-true s.0 r (and_of (s.0 == r) (extends p.types s.0 b) s.2).0 in
      subst (λ z. Node w.packed (data_tree p.types k) 0 0 (Record (record_row p.types z))) (same ∙ tags_same c a r t is)
      (subst (λ z. Node w.packed z 0 0 (Record (record_row p.types s.0))) (sym (record_data_tree p.types good k s.0 (record_is p good (kind_of p.types k) s.0 s.1))) (node_self w.packed (Record (record_row p.types s.0))))
  tagged_part b r (Dynamic s) (Tagged c k) tags suits names a t is = subst (λ z. Node w.packed (Record (record_row p.types k)) 0 0 (Record (record_row p.types z))) (tags_same c a k t is) (node_self w.packed (Record (record_row p.types k)))
  tagged_part b r (Of k false) h tags suits names a t is = no suits
  tagged_part b r (Cells f may) h tags suits names a t is = no suits
  tagged_part b r (OpenOf e may) h tags suits names a t is = no suits
  tagged_part b r (Characters m) h tags suits names a t is = no suits
  tagged_part b r _ _ tags suits names a t is = absurd names

  record_word : (m : Mode) (k r : ℕ) (d : Designator) → WellFormed.record_argument p m (record_by (kind_of p.types k)) r (WellFormed.named p l.proc d) ≡ true → Lends (lent_whole d) → ((n : Thing) → WellFormed.named p l.proc d ≡ Some n → Follows w l 0 fuel nothing (Given w l) (DesignatorIs w l (whole_of d) n) (designated p calls runs d) (named p lay mine d))
      → Follows w l 0 fuel nothing (Given w l) (OneWord w l m k) (by_record (designated p calls runs d) r) (lower_record (named p lay mine d) (descriptor p lay mine r))
  record_word OfRecord k r d suits lends one = by (record_by (kind_of p.types k)) suits
    where
      by : (o : Option ℕ) → WellFormed.record_argument p OfRecord o r (WellFormed.named p l.proc d) ≡ true → Follows w l 0 fuel nothing (Given w l) (OneWord w l OfRecord k) (by_record (designated p calls runs d) r) (lower_record (named p lay mine d) (descriptor p lay mine r))
      by None h = no h
      by (Some b) h =
          let n = holds_is p good (WellFormed.record_suits p b r) (WellFormed.named p l.proc d) h in
          follows_by_record w l k r (whole_of d) n.0 (descriptor p lay mine r) (designated p calls runs d) steady (vars.descriptor r) (own_lent d lends)
          (λ h v. steady_and w l (steady_designator w l (whole_of d) n.0 h v) (record { by = λ i j f g s t le same later names. names_older p (forms_of_all p l.types) s.tags t.tags (λ o k e. later.tag o k e) n.0 h names }))
          (λ h v i f s names. names.0.0) (λ h v i f s names. tagged_part b r n.0 h s.tags n.2 names.1)
          (follows_sound w l {P = NamesOf p (forms_of_all p l.types) n.0} (λ tags older. (t_named p good calls sound runs (forms_of_all p l.types) tags frame (taken_at tags older) d).sound n.0 n.1) (one n.0 n.1))
  record_word OfValue k r d suits lends one = no suits
  record_word Place k r d suits lends one = no suits
  record_word OfOpen k r d suits lends one = no suits

  open_word : (m : Mode) (k : ℕ) (v : Bool) (d : Designator) (o : Option ℕ) → WellFormed.open_argument p m (open_element (kind_of p.types k)) v o (WellFormed.named p l.proc d) ≡ true → ((n : Thing) → WellFormed.named p l.proc d ≡ Some n → Follows w l 0 fuel nothing (Given w l) (DesignatorIs w l (whole_of d) n) (designated p calls runs d) (named p lay mine d))
      → Follows w l 0 fuel nothing (Given w l) (OneWord w l m k) (by_open (designated p calls runs d) o) (lower_open (named p lay mine d) o)
  open_word OfOpen k v d o suits one = by (open_element (kind_of p.types k)) refl suits
    where
      by : (element : Option ℕ) → open_element (kind_of p.types k) ≡ element → WellFormed.open_argument p OfOpen element v o (WellFormed.named p l.proc d) ≡ true → Follows w l 0 fuel nothing (Given w l) (OneWord w l OfOpen k) (by_open (designated p calls runs d) o) (lower_open (named p lay mine d) o)
      by None at h = no h
      by (Some e) at h =
          let n = holds_is p good (WellFormed.open_suits p e v o) (WellFormed.named p l.proc d) h in
          follows_by_open w l k o (data_tree p.types e) (designated p calls runs d) steady (steady_designator w l (whole_of d) n.0) (λ i is. ap (data_tree p.types) (some_same e i (sym at ∙ is)))
          (array_is (whole_of d) n.0 o e (open_parts p good e v o n.0 n.2).0) (one n.0 n.1)
  open_word OfValue k v d o suits one = no suits
  open_word Place k v d o suits one = no suits
  open_word OfRecord k v d o suits one = no suits

  -- an array of characters, and what it is
  letter_tree : (el : Elementary) → WellFormed.is_letter p el ≡ true → element_tree el ≡ Scalar Small
  letter_tree Letter h = refl
  letter_tree (OfType k) h = scalar_data_tree p.types good k Small (char_form (kind_of p.types k) h)
    where
      char_form : (kind : TypeKind) → WellFormed.is_char kind ≡ true → scalar_form kind ≡ Some Small
      char_form Char h = refl
      char_form _ h = no h

  letters_span : {mask : Mask} (own : Mask) (t : Thing) (o : Option ℕ) (el : Elementary) → WellFormed.elements_in p t o ≡ Some el → WellFormed.is_letter p el ≡ true → (h : Handed) (v : Named) → Follows w l 0 fuel mask (Both (Given w l) (DesignatorIs w l own t h v)) (SpanIs w l o (Scalar Small) v) (span_by w l o h) (lower_address v 0)
  letters_span {mask} own t o el is letter h v =
      subst (λ c. Follows w l 0 fuel mask (Both (Given w l) (DesignatorIs w l own t h v)) (SpanIs w l o c v) (span_by w l o h) (lower_address v 0)) (letter_tree el letter) (span_is own t o el is h v)

  sound_named : {mask : Mask} (d : Designator) (t : Thing) → WellFormed.named p l.proc d ≡ Some t → Follows w l 0 fuel mask (Given w l) (DesignatorIs w l (whole_of d) t) (designated p calls runs d) (named p lay mine d) → Follows w l 0 fuel mask (Given w l) (NamedText w l (whole_of d) t) (designated p calls runs d) (named p lay mine d)
  sound_named d t is one = follows_sound w l {P = NamesOf p (forms_of_all p l.types) t} (λ tags older. (t_named p good calls sound runs (forms_of_all p l.types) tags frame (taken_at tags older) d).sound t is) one

  sensible_base : (b : Base) (n : Thing) → WellFormed.base_named p l.proc b ≡ Some n → Sensible n (base_of p calls runs b)
  sensible_base b n is tags older = (t_base p good calls sound runs (forms_of_all p l.types) tags frame (taken_at tags older) b).sound n is

  mutual
    pub named_is : (d : Designator) (n : Thing) → WellFormed.named p l.proc d ≡ Some n → Lends (lent_at d) → Follows w l 0 fuel nothing (Given w l) (DesignatorIs w l (whole_of d) n) (designated p calls runs d) (named p lay mine d)
    named_is (Variable b kind) n is lends =
        let z = with_is p good (WellFormed.base_named p l.proc b) (WellFormed.of_kind p kind) n is in
        let y = provided_is p (WellFormed.has_kind p kind z.0) (Some z.0) n z.2 in
        subst (λ n. Follows w l 0 fuel nothing (Given w l) (DesignatorIs w l (origin b) n) (base_of p calls runs b) (based p lay mine b)) (some_same z.0 n y.1) (base_is b z.0 z.1)
    named_is (Part' _ b kind _ row) n is lends =
        let z = with_is p good (WellFormed.selected_named p l.proc row (WellFormed.base_named p l.proc b)) (WellFormed.of_kind p kind) n is in
        let y = provided_is p (WellFormed.has_kind p kind z.0) (Some z.0) n z.2 in
        let base = selected_some row (WellFormed.base_named p l.proc b) z.0 z.1 in
        let parts = legal_base b base.0 base.1 in
        let one = part_of row (origin b) base.0 z.0 (base_of p calls runs b) (based p lay mine b) (ap (WellFormed.selected_named p l.proc row) (sym base.1) ∙ z.1) parts lends (sensible_base b base.0 base.1) (base_is b base.0 base.1) in
        subst (λ n. Follows w l 0 fuel nothing (Given w l) (DesignatorIs w l (unselected (origin b) row) n) (selected p calls runs row (base_of p calls runs b)) (lower_selected p lay mine row (based p lay mine b))) (some_same z.0 n y.1) one

    part_of : {m : _} (row : Row_of-Selector m) (own : Mask) (b n : Thing) (d : Act Handed) (low : Low Named) → WellFormed.selected_named p l.proc row (Some b) ≡ Some n → Legal b → Lends (lent_selectors own row) → Sensible b d → Follows w l 0 fuel nothing (Given w l) (DesignatorIs w l own b) d low
        → Follows w l 0 fuel nothing (Given w l) (DesignatorIs w l (unselected own row) n) (selected p calls runs row d) (lower_selected p lay mine row low)
    part_of end_of-Selector own b n d low is parts lends sensible one = subst (λ n. Follows w l 0 fuel nothing (Given w l) (DesignatorIs w l own n) d low) (some_same b n is) one
    part_of (more_of-Selector s rest) own b n d low is parts lends sensible one =
        let behind = right_lends (lent_by_first own s) (either (lent_selector s) (lent_selectors none rest)) lends in
        let t = selected_some rest (WellFormed.select_named p l.proc s (Some b)) n is in
        let two = select_is s own b t.0 d low t.1 parts (left_lends (lent_selector s) (lent_selectors none rest) behind) sensible one in
        selected_is rest t.0 n (select p calls runs s d) (lower_select p lay mine s low) (ap (WellFormed.selected_named p l.proc rest) (sym t.1) ∙ is) two.0 (right_lends (lent_selector s) (lent_selectors none rest) behind) (sensible_part s b t.0 d t.1 sensible) two.1

    selected_is : {m : _} (row : Row_of-Selector m) (b n : Thing) (d : Act Handed) (low : Low Named) → WellFormed.selected_named p l.proc row (Some b) ≡ Some n → Legal b → Lends (lent_selectors none row) → Sensible b d → Follows w l 0 fuel nothing (Given w l) (DesignatorIs w l none b) d low
        → Follows w l 0 fuel nothing (Given w l) (DesignatorIs w l none n) (selected p calls runs row d) (lower_selected p lay mine row low)
    selected_is end_of-Selector b n d low is parts lends sensible one = subst (λ n. Follows w l 0 fuel nothing (Given w l) (DesignatorIs w l none n) d low) (some_same b n is) one
    selected_is (more_of-Selector s rest) b n d low is parts lends sensible one =
        let behind = right_lends (lent_by_first none s) (either (lent_selector s) (lent_selectors none rest)) lends in
        let t = selected_some rest (WellFormed.select_named p l.proc s (Some b)) n is in
        let two = select_is s none b t.0 d low t.1 parts (left_lends (lent_selector s) (lent_selectors none rest) behind) sensible one in
        selected_is rest t.0 n (select p calls runs s d) (lower_select p lay mine s low) (ap (WellFormed.selected_named p l.proc rest) (sym t.1) ∙ is) two.0 (right_lends (lent_selector s) (lent_selectors none rest) behind) (sensible_part s b t.0 d t.1 sensible) two.1

    select_is : (s : Selector) (own : Mask) (b t : Thing) (d : Act Handed) (low : Low Named) → WellFormed.select_named p l.proc s (Some b) ≡ Some t → Legal b → Lends (lent_selector s) → Sensible b d → Follows w l 0 fuel nothing (Given w l) (DesignatorIs w l own b) d low
        → PartIs t (select p calls runs s d) (lower_select p lay mine s low)
    select_is (Index o e x) own b t d low is parts lends sensible one =
        let has = provided_is p (WellFormed.array_of p e o b) (provided (gives_number (WellFormed.form p l.proc x)) (Some (Of e (WellFormed.is_writable b)))) t is in
        let c = provided_is p (gives_number (WellFormed.form p l.proc x)) (Some (Of e (WellFormed.is_writable b))) t has.1 in
        let g = number_form (WellFormed.form p l.proc x) c.0 in
        subst (λ t. PartIs t (select p calls runs (Index o e x) d) (lower_select p lay mine (Index o e x) low)) (some_same (Of e (WellFormed.is_writable b)) t c.1)
        (tt, of_variable e (WellFormed.is_writable b) (follows_element_place w l o (data_tree p.types e) (cells p.types e) (lay.bytes e) (cells_are p.types e) (right.laid.bytes e) (value p calls runs x) (expr p lay mine x).value none (Of e (WellFormed.is_writable b)) d steady (steady_designator w l own b) (λ a. refl) (array_is own b o e has.0) one (shows_of x g.0 g.1 lends).value))
    select_is (Field r f) own (Of k may) t d low is parts lends sensible one =
        let a = provided_is p (WellFormed.has_record p r (Of k may)) (with_some (slice_get (types_of (record_of p.types r).fields) f) (λ k. Some (Of k may))) t is in
        let c = with_is p good (slice_get (types_of (record_of p.types r).fields) f) (λ k. Some (Of k may)) t a.1 in
        subst (λ t. PartIs t (select p calls runs (Field r f) d) (lower_select p lay mine (Field r f) low)) (some_same (Of c.0 may) t c.2)
        (tt, of_variable c.0 may (follows_field_place w l own none (Of k may) (Of c.0 may) d (field_place p.types r f) (lay.offset r f) (data_tree p.types c.0) steady (field_part (Of k may) r f c.0 a.0 c.1) (record_many (Of k may) r a.0) (λ a. refl) one))
    select_is (Field r f) own (Dynamic b) t d low is parts lends sensible one =
        let a = provided_is p (WellFormed.has_record p r (Dynamic b)) (with_some (slice_get (types_of (record_of p.types r).fields) f) (λ k. Some (Of k true))) t is in
        let c = with_is p good (slice_get (types_of (record_of p.types r).fields) f) (λ k. Some (Of k true)) t a.1 in
        subst (λ t. PartIs t (select p calls runs (Field r f) d) (lower_select p lay mine (Field r f) low)) (some_same (Of c.0 true) t c.2)
        (tt, of_variable c.0 true (follows_field_place w l own none (Dynamic b) (Of c.0 true) d (field_place p.types r f) (lay.offset r f) (data_tree p.types c.0) steady (field_part (Dynamic b) r f c.0 a.0 c.1) refl (λ a. refl) one))
    select_is (Field r f) own (OpenOf e may) t d low is parts lends sensible one = none_some t is
    select_is (Field r f) own (Cells g may) t d low is parts lends sensible one = none_some t is
    select_is (Field r f) own (Characters m) t d low is parts lends sensible one = none_some t is
    select_is (Dereference rs) own b t d low is parts lends sensible one =
        let a = with_is p good (WellFormed.guarded_form p rs (WellFormed.scalar_in p b)) pointed t is in
        let r = pointed_is p good a.0 t a.2 in
        let c = guarded_some rs (WellFormed.scalar_in p b) a.0 a.1 in
        let whole = sensible_part (Dereference rs) b t d is sensible in
        subst (λ t. Sensible t (select p calls runs (Dereference rs) d) → PartIs t (select p calls runs (Dereference rs) d) (lower_select p lay mine (Dereference rs) low)) (sym r.2)
        (λ sensible. (
          subst Legal r.2 (legal_select (Dereference rs) b t is parts),
          of_sensible (Dynamic r.0) sensible (follows_object w l none r.0 steady (follows_guards rs (WellFormed.scalar_in p b) a.0 (load d) (lower_load (home_of low false)) a.1
              (follows_load w l own false d steady (follows_home w l own false b d c.0 (scalar_tree b c.0 c.1) (sym (wide_form c.0 (guarded_wide rs c.0 r.0 (sym (ap (WellFormed.guarded_form p rs) c.1) ∙ a.1 ∙ ap (λ f. Some f) r.1)))) steady (only_named w l b one))))),
        )) whole
    select_is (Narrow r) own (Dynamic b) t d low is parts lends sensible one =
        let a = provided_is p (is_record_type p.types r) (Some (Dynamic r)) t is in
        let there = lt_of p r (length p.types.records) a.0 in
        subst (λ t. PartIs t (select p calls runs (Narrow r) d) (lower_select p lay mine (Narrow r) low)) (some_same (Dynamic r) t a.1)
        (there, follows_narrowed w l right vars own none b r (descriptor p lay mine r) d parts there (vars.descriptor r) steady one)
    select_is (Narrow r) own (Of k may) t d low is parts lends sensible one = none_some t (provided_is p (is_record_type p.types r) None t is).1
    select_is (Narrow r) own (OpenOf e may) t d low is parts lends sensible one = none_some t (provided_is p (is_record_type p.types r) None t is).1
    select_is (Narrow r) own (Cells f may) t d low is parts lends sensible one = none_some t (provided_is p (is_record_type p.types r) None t is).1
    select_is (Narrow r) own (Characters m) t d low is parts lends sensible one = none_some t (provided_is p (is_record_type p.types r) None t is).1

    pub shows_of : (e : Expr) (k : Form) → WellFormed.form p l.proc e ≡ Some k → Lends (lent e) → Shows (value p calls runs e) (expr p lay mine e)
    shows_of (Literal n) k is lends = shown (follows_literal w l n (literal_few n k is))
    shows_of (Routine g) k is lends = shown (follows_routine w l g (right.callable g (provided_is p (WellFormed.callable p g) (Some (Exactly g)) k is).0))
    shows_of (Load d) k is lends = shown (variable_value d k is (λ n e. named_is d n e lends))
    shows_of (Guard' _ d rs) k is lends =
        let a = guarded_some rs (with_some (WellFormed.named p l.proc d) (WellFormed.scalar_in p)) k is in
        shown (follows_guards rs (with_some (WellFormed.named p l.proc d) (WellFormed.scalar_in p)) k (load (designated p calls runs d)) (lower_load (home_of (named p lay mine d) (small p lay mine d))) is (variable_value d a.0 a.1 (λ n e. named_is d n e lends)))
    shows_of (Unary' op _ x) k is lends =
        let z = provided_is p (gives_number (WellFormed.form p l.proc x)) (Some (WellFormed.unary_form op)) k is in
        let y = number_form (WellFormed.form p l.proc x) z.0 in
        one_shows op (value p calls runs x) (expr p lay mine x) (shows_of x y.0 y.1 lends)
    shows_of (Chain' _ x _ links) k is lends =
        let z = linked_some links (WellFormed.form p l.proc x) k is in
        linked_shows links (WellFormed.form p l.proc x) (value p calls runs x) (expr p lay mine x) k is (right_lends (lent x) (lent_links links) lends) (shows_of x z.0 z.1 (left_lends (lent x) (lent_links links) lends)) (λ tags older. t_value p good calls sound runs (forms_of_all p l.types) tags frame (taken_at tags older) x)
    shows_of (Compare' r _ x _ y) k is lends =
        let a = with_is p good (WellFormed.form p l.proc x) (λ a. with_some (WellFormed.form p l.proc y) (λ b. provided (WellFormed.comparable r a b) (Some Truth))) k is in
        let b = with_is p good (WellFormed.form p l.proc y) (λ b. provided (WellFormed.comparable r a.0 b) (Some Truth)) k a.2 in
        let one = shows_of x a.0 a.1 (left_lends (lent x) (lent y) lends) in
        let two = shows_of y b.0 b.1 (right_lends (lent x) (lent y) lends) in
        record { value = follows_compared w l right r steady one.value two.value; test = forks_branch w l right r steady one.value two.value }
    shows_of (CompareTexts' r _ d _ e) k is lends =
        let a = provided_is p (holds_of (WellFormed.is_text p (length_of_kind (kind_in d))) (WellFormed.named p l.proc d)) (provided (holds_of (WellFormed.is_text p (length_of_kind (kind_in e))) (WellFormed.named p l.proc e)) (Some Truth)) k is in
        let b = provided_is p (holds_of (WellFormed.is_text p (length_of_kind (kind_in e))) (WellFormed.named p l.proc e)) (Some Truth) k a.1 in
        let t = holds_is p good (WellFormed.is_text p (length_of_kind (kind_in d))) (WellFormed.named p l.proc d) a.0 in
        let u = holds_is p good (WellFormed.is_text p (length_of_kind (kind_in e))) (WellFormed.named p l.proc e) b.0 in
        let x = holds_is p good (WellFormed.is_letter p) (WellFormed.elements_in p t.0 (length_of_kind (kind_in d))) t.2 in
        let y = holds_is p good (WellFormed.is_letter p) (WellFormed.elements_in p u.0 (length_of_kind (kind_in e))) u.2 in
        shown (follows_texts_compared w l right apart good r t.0 u.0 (length_of_kind (kind_in d)) (length_of_kind (kind_in e)) x.0 y.0 (designated p calls runs d) (designated p calls runs e) x.1 x.2 y.1 y.2 steady
        (letters_span (whole_of d) t.0 (length_of_kind (kind_in d)) x.0 x.1 x.2) (letters_span (whole_of e) u.0 (length_of_kind (kind_in e)) y.0 y.1 y.2)
        (sound_named d t.0 t.1 (named_is d t.0 t.1 (at_of_whole d (left_lends (lent_whole d) (lent_whole e) lends)))) (sound_named e u.0 u.1 (named_is e u.0 u.1 (at_of_whole e (right_lends (lent_whole d) (lent_whole e) lends)))))
    shows_of (In' _ x _ s) k is lends =
        let a = provided_is p (gives_number (WellFormed.form p l.proc x)) (provided (gives_number (WellFormed.form p l.proc s)) (Some Truth)) k is in
        let b = provided_is p (gives_number (WellFormed.form p l.proc s)) (Some Truth) k a.1 in
        let y = number_form (WellFormed.form p l.proc x) a.0 in
        let z = number_form (WellFormed.form p l.proc s) b.0 in
        shown (follows_contained w l steady (shows_of x y.0 y.1 (left_lends (lent x) (lent s) lends)).value (shows_of s z.0 z.1 (right_lends (lent x) (lent s) lends)).value)
    shows_of (IsPointer' _ x r) k is lends =
        let a = provided_is p (is_record_type p.types r) (provided (WellFormed.gives_pointer (WellFormed.form p l.proc x)) (Some Truth)) k is in
        let b = provided_is p (WellFormed.gives_pointer (WellFormed.form p l.proc x)) (Some Truth) k a.1 in
        let y = pointer_form (WellFormed.form p l.proc x) b.0 in
        let there = lt_of p r (length p.types.records) a.0 in
        shown (follows_type_test w l right vars (PointerType w l right vars) is_pointer r (descriptor p lay mine r) steady (grows_is_pointer w l right vars) (λ t i. follows_is_pointer w l right vars t i r (descriptor p lay mine r) there (vars.descriptor r) steady)
        (follows_pointer_type w l right vars steady (shows_of x y.0 y.1 lends).value))
    shows_of (IsParameter d r) k is lends =
        let a = provided_is p (is_record_type p.types r) (provided (holds_of (WellFormed.is_dynamic p) (WellFormed.named p l.proc d)) (Some Truth)) k is in
        let b = provided_is p (holds_of (WellFormed.is_dynamic p) (WellFormed.named p l.proc d)) (Some Truth) k a.1 in
        let n = dynamic_named d b.0 in
        let there = lt_of p r (length p.types.records) a.0 in
        shown (follows_type_test w l right vars (ParameterType w l right vars) is_tag r (descriptor p lay mine r) steady (grows_is_tag w l right vars) (λ t i. follows_is_tag w l right vars t i r (descriptor p lay mine r) there (vars.descriptor r) steady)
        (follows_parameter_type w l right vars (whole_of d) n.0 (designated p calls runs d) (legal_named d (Dynamic n.0) n.1) steady (named_is d (Dynamic n.0) n.1 (at_of_whole d lends))))
    shows_of (Byte' _ x) k is lends =
        let a = provided_is p (gives_number (WellFormed.form p l.proc x)) (Some Small) k is in
        let y = number_form (WellFormed.form p l.proc x) a.0 in
        shown (follows_byte w l steady (shows_of x y.0 y.1 lends).value)
    shows_of (Length d) k is lends = length_shows (length_of_kind (kind_in d)) d k is (λ t e. named_is d t e (at_of_whole d lends))
    shows_of (Call' _ c) k is lends = shown (call_value c k is lends)

    linked_shows : {m : _} (row : Row_of-Link m) (o : Option Form) (x : Act Cell) (low : Lowers) (k : Form) → WellFormed.linked_form p l.proc row o ≡ Some k → Lends (lent_links row) → Shows x low → Meant o x → Shows (linked p calls runs row x) (lower_linked p lay mine row low)
    linked_shows end_of-Link o x low k is lends q means = q
    linked_shows (more_of-Link a rest) o x low k is lends q means =
        let z = linked_some rest (WellFormed.link_form p l.proc a o) k is in
        linked_shows rest (WellFormed.link_form p l.proc a o) (link p calls runs a x) (lower_link p lay mine a low) k is (right_lends (lent_link a) (lent_links rest) lends) (link_shows a o x low z.0 z.1 (left_lends (lent_link a) (lent_links rest) lends) q means) (means_link a o x means)

    link_shows : (a : Link) (o : Option Form) (x : Act Cell) (low : Lowers) (k : Form) → WellFormed.link_form p l.proc a o ≡ Some k → Lends (lent_link a) → Shows x low → Meant o x → Shows (link p calls runs a x) (lower_link p lay mine a low)
    link_shows (Operate op y) o x low k is lends q means =
        let a = provided_is p (gives_number o) (provided (gives_number (WellFormed.form p l.proc y)) (Some (WellFormed.binary_form op))) k is in
        let b = provided_is p (gives_number (WellFormed.form p l.proc y)) (Some (WellFormed.binary_form op)) k a.1 in
        let z = number_form (WellFormed.form p l.proc y) b.0 in
        shown (follows_binary w l op steady q.value (shows_of y z.0 z.1 lends).value)
    link_shows (And y) o x low k is lends q means =
        let a = provided_is p (WellFormed.gives_truth o) (provided (WellFormed.gives_truth (WellFormed.form p l.proc y)) (Some Truth)) k is in
        let b = provided_is p (WellFormed.gives_truth (WellFormed.form p l.proc y)) (Some Truth) k a.1 in
        let z = truth_form (WellFormed.form p l.proc y) b.0 in
        let two = shows_of y z.0 z.1 lends in
        let forks = forks_and w l x (value p calls runs y) low.test (expr p lay mine y).test steady q.test two.test in
        record { value = follows_flag w l (both x (value p calls runs y)) (fork_and low.test (expr p lay mine y).test) forks (λ tags older. (means_link (And y) o x means tags older).sound Truth (is ∙ ap (λ f. Some f) (sym (some_same Truth k b.1)))); test = forks }
    link_shows (Or y) o x low k is lends q means =
        let a = provided_is p (WellFormed.gives_truth o) (provided (WellFormed.gives_truth (WellFormed.form p l.proc y)) (Some Truth)) k is in
        let b = provided_is p (WellFormed.gives_truth (WellFormed.form p l.proc y)) (Some Truth) k a.1 in
        let z = truth_form (WellFormed.form p l.proc y) b.0 in
        let two = shows_of y z.0 z.1 lends in
        let forks = forks_or w l x (value p calls runs y) low.test (expr p lay mine y).test steady q.test two.test in
        record { value = follows_flag w l (or_else x (value p calls runs y)) (fork_or low.test (expr p lay mine y).test) forks (λ tags older. (means_link (Or y) o x means tags older).sound Truth (is ∙ ap (λ f. Some f) (sym (some_same Truth k b.1)))); test = forks }
    link_shows (Element y) o x low k is lends q means =
        let a = provided_is p (gives_number o) (provided (gives_number (WellFormed.form p l.proc y)) (Some Number)) k is in
        let b = provided_is p (gives_number (WellFormed.form p l.proc y)) (Some Number) k a.1 in
        let z = number_form (WellFormed.form p l.proc y) b.0 in
        shown (follows_element w l steady q.value (shows_of y z.0 z.1 lends).value)
    link_shows (Elements' _ y _ z) o x low k is lends q means =
        let a = provided_is p (gives_number o) (provided (gives_number (WellFormed.form p l.proc y)) (provided (gives_number (WellFormed.form p l.proc z)) (Some Number))) k is in
        let b = provided_is p (gives_number (WellFormed.form p l.proc y)) (provided (gives_number (WellFormed.form p l.proc z)) (Some Number)) k a.1 in
        let c = provided_is p (gives_number (WellFormed.form p l.proc z)) (Some Number) k b.1 in
        let u = number_form (WellFormed.form p l.proc y) b.0 in
        let v = number_form (WellFormed.form p l.proc z) c.0 in
        shown (follows_range w l steady q.value (shows_of y u.0 u.1 (left_lends (lent y) (lent z) lends)).value (shows_of z v.0 v.1 (right_lends (lent y) (lent z) lends)).value)

    -- the value of a call
    call_value : (c : Call) (k : Form) → provided (WellFormed.call_suits p l.proc c) (WellFormed.call_form p l.proc c) ≡ Some k → Lends (lent_call c) → Follows w l 0 fuel nothing (Given w l) (CellIs w l) (result_of (called p calls runs c)) (with_result (lower_called p lay mine c))
    call_value (Direct' g m args) k is lends =
        let a = provided_is p (WellFormed.call_suits p l.proc (Direct' g m args)) (WellFormed.call_form p l.proc (Direct' g m args)) k is in
        let y = and_of (WellFormed.callable p g) (WellFormed.all_suit p l.proc args (procedure_of p g).formals) a.0 in
        follows_result_of w l right apart stacked good calls calling steady
        (follows_less w l (λ r i n f s h. h.0) (follows_sound w l {P = Answers p good (WellFormed.form_of p (procedure_of p g).result)} (λ tags older. t_call p good calls sound runs (forms_of_all p l.types) tags frame (taken_at tags older) (Direct' g m args) a.0)
        (follows_called w l right apart stacked good calls calling g steady y.0 (λ v. (k, a.1)) (all_given (procedure_of p g).formals args y.1 (words_are (procedure_of p g).formals args y.1 lends)))))
    call_value (Indirect' d m args) k is lends =
        let a = provided_is p (WellFormed.call_suits p l.proc (Indirect' d m args)) (WellFormed.call_form p l.proc (Indirect' d m args)) k is in
        let t = called_through d args a.0 in
        follows_result_of w l right apart stacked good calls calling steady
        (follows_less w l (λ r i n f s h. h.0) (follows_sound w l {P = Answers p good (WellFormed.call_form p l.proc (Indirect' d m args))} (λ tags older. t_call p good calls sound runs (forms_of_all p l.types) tags frame (taken_at tags older) (Indirect' d m args) a.0)
        (follows_called_value w l right apart stacked good calls calling t.0 steady (k, sym (ap (λ o. with_some o (WellFormed.result_through p)) t.1) ∙ a.1) (code_value d t.0 t.1 (λ n e. named_is d n e (left_lends (lent_at d) (lent_in args) lends)))
        (all_given (signature_of p.types t.0).formals args t.2 (words_are (signature_of p.types t.0).formals args t.2 (right_lends (lent_at d) (lent_in args) lends))))))

    words_are : {m : _} (xs : List Formal) (row : Row_of-Argument m) → WellFormed.all_suit p l.proc row xs ≡ true → Lends (lent_in row) → Follows w l 0 fuel nothing (Given w l) (WordsAre w l xs) (arguments p calls runs row) (lower_arguments p lay mine row)
    words_are [] end_of-Argument suits lends = follows_no_words w l
    words_are (x ∷ xs) end_of-Argument suits lends = no suits
    words_are [] (more_of-Argument a rest) suits lends = no suits
    words_are (x ∷ xs) (more_of-Argument a rest) suits lends =
        let y = and_of (WellFormed.argument_suits p l.proc a x) (WellFormed.all_suit p l.proc rest xs) suits in
        follows_words w l x xs steady (word_is a x y.0 (left_lends (lent_as a) (lent_in rest) lends)) (words_are xs rest y.1 (right_lends (lent_as a) (lent_in rest) lends))

    word_is : (a : Argument) (x : Formal) → WellFormed.argument_suits p l.proc a x ≡ true → Lends (lent_as a) → Follows w l 0 fuel nothing (Given w l) (OneWord w l x.mode x.type_number) (argument p calls runs a) (lower_argument p lay mine a)
    word_is (ByValue e) x suits lends = value_word x.mode x.type_number e suits (λ f is. (shows_of e f is lends).value)
    word_is (ByPlace d) x suits lends = place_word x.mode x.type_number x.variable d suits lends (λ n is. named_is d n is (at_of_whole d lends))
    word_is (ByRecord d) x suits lends = record_word x.mode x.type_number (record_of_kind (kind_in d)) d suits lends (λ n is. named_is d n is (at_of_whole d lends))
    word_is (ByOpen d) x suits lends = open_word x.mode x.type_number x.variable d (length_of_kind (kind_in d)) suits (λ n is. named_is d n is (at_of_whole d lends))

  pub home_is : (d : Designator) (n : Thing) (f : Form) → WellFormed.named p l.proc d ≡ Some n → WellFormed.scalar_in p n ≡ Some f → Lends (lent_at d) → Follows w l 0 fuel nothing (Given w l) (HomeIs w l (whole_of d) (small p lay mine d)) (place (designated p calls runs d)) (home p lay mine d)
  home_is d n f is scalar lends = follows_home w l (whole_of d) (small p lay mine d) n (designated p calls runs d) f (scalar_tree n f scalar) (small_is d n f is scalar) steady (only_named w l n (named_is d n is lends))

  ---- Statements

  -- the form of a whole expression
  checked_is : (x : Checked) (k : Form) → WellFormed.checked_form p l.proc x ≡ Some k → WellFormed.form p l.proc x.form ≡ Some k
  checked_is x k is = (provided_is p (WellFormed.kind_suits p x.kind (WellFormed.form p l.proc x.form)) (WellFormed.form p l.proc x.form) k is).1

  checked_shows : (x : Checked) (k : Form) → WellFormed.checked_form p l.proc x ≡ Some k → Lends (lent x.form) → Shows (value p calls runs x.form) (expr p lay mine x.form)
  checked_shows x k is lends = shows_of x.form k (checked_is x k is) lends

  -- values and homes where turns are paid for and variables may change
  value_at : {mask : Mask} (x : Checked) (k : Form) → WellFormed.checked_form p l.proc x ≡ Some k → Lends (lent x.form) → Follows w l 1 fuel mask (Given w l) (CellIs w l) (value p calls runs x.form) (expr p lay mine x.form).value
  value_at x k is lends = follows_mask w l {less = nothing} (omega arith) (λ y e. refl) (checked_shows x k is lends).value

  home_at : {mask : Mask} (d : Designator) (n : Thing) (f : Form) → WellFormed.named p l.proc d ≡ Some n → WellFormed.scalar_in p n ≡ Some f → Lends (lent_at d) → Follows w l 1 fuel mask (Given w l) (HomeIs w l (whole_of d) (small p lay mine d)) (place (designated p calls runs d)) (home p lay mine d)
  home_at d n f is scalar lends = follows_mask w l {less = nothing} (omega arith) (λ y e. refl) (home_is d n f is scalar lends)

  -- a full number's home takes eight bytes
  full_small : (d : Designator) (n : Thing) (f : Form) → WellFormed.named p l.proc d ≡ Some n → WellFormed.scalar_in p n ≡ Some f → WellFormed.is_full f ≡ true → small p lay mine d ≡ false
  full_small d n f is scalar full = small_is d n f is scalar ∙ wide_form f (full_wide f full)

  full_home : {mask : Mask} (d : Designator) (n : Thing) (f : Form) → WellFormed.named p l.proc d ≡ Some n → WellFormed.scalar_in p n ≡ Some f → WellFormed.is_full f ≡ true → Lends (lent_at d) → Follows w l 1 fuel mask (Given w l) (HomeIs w l (whole_of d) false) (place (designated p calls runs d)) (home p lay mine d)
  full_home {mask} d n f is scalar full lends = subst (λ b. Follows w l 1 fuel mask (Given w l) (HomeIs w l (whole_of d) b) (place (designated p calls runs d)) (home p lay mine d)) (full_small d n f is scalar full) (home_at d n f is scalar lends)

  -- a pointer's as well
  pointer_home : {mask : Mask} (d : Designator) (n : Thing) (r : ℕ) (f : Form) → WellFormed.named p l.proc d ≡ Some n → WellFormed.scalar_in p n ≡ Some f → WellFormed.points_to p r f ≡ true → Lends (lent_at d) → Follows w l 1 fuel mask (Given w l) (HomeIs w l (whole_of d) false) (place (designated p calls runs d)) (home p lay mine d)
  pointer_home {mask} d n r f is scalar points lends = subst (λ b. Follows w l 1 fuel mask (Given w l) (HomeIs w l (whole_of d) b) (place (designated p calls runs d)) (home p lay mine d)) (small_is d n f is scalar ∙ wide_form f (wide_pointer f points)) (home_at d n f is scalar lends)
    where
      wide_pointer : (f : Form) → WellFormed.points_to p r f ≡ true → fits_byte f ≡ false
      wide_pointer (ToRecord b) h = refl
      wide_pointer Zero h = no h
      wide_pointer Truth h = no h
      wide_pointer Small h = no h
      wide_pointer Number h = no h
      wide_pointer (Routines k) h = no h
      wide_pointer (Exactly g) h = no h

  -- a value that suits a byte is narrow
  byte_narrow : (f : Form) (c : Cell) (tags : List ℕ) → fits_byte f ≡ true → Fits p tags f c → (b : Bool) → IsNarrow w l b c
  byte_narrow f c tags is fit false = tt
  byte_narrow Truth (Bits n) tags is fit true = omega (arith, fit)
  byte_narrow Small (Bits n) tags is fit true = fit
  byte_narrow Truth (PointerCell o) tags is fit true = absurd fit
  byte_narrow Truth (CodeCell g) tags is fit true = absurd fit
  byte_narrow Small (PointerCell o) tags is fit true = absurd fit
  byte_narrow Small (CodeCell g) tags is fit true = absurd fit
  byte_narrow Zero c tags is fit true = no is
  byte_narrow Number c tags is fit true = no is
  byte_narrow (ToRecord r) c tags is fit true = no is
  byte_narrow (Routines k) c tags is fit true = no is
  byte_narrow (Exactly g) c tags is fit true = no is

  narrow_value : (d : Designator) (n : Thing) (a f : Form) → WellFormed.named p l.proc d ≡ Some n → WellFormed.scalar_in p n ≡ Some f → WellFormed.suits p a f ≡ true → (c : Cell) (tags : List ℕ) → HasForm p a tags c → IsNarrow w l (small p lay mine d) c
  narrow_value d n a f is scalar suits c tags has = by (fits_byte f) refl
    where
      by : (b : Bool) → fits_byte f ≡ b → IsNarrow w l (small p lay mine d) c
      by true e = byte_narrow f c tags e (suits_fits p good tags a f c suits has) (small p lay mine d)
      by false e = narrow_wide (small p lay mine d) c (small_is d n f is scalar ∙ wide_form f e)

  -- any value is narrow where eight bytes are taken
  wide_value : {need : ℕ} {mask : Mask} {x : Act Cell} {q : Low ℕ} (b : Bool) → b ≡ false → Follows w l need fuel mask (Given w l) (CellIs w l) x q → Follows w l need fuel mask (Given w l) (λ c i. Both (CellIs w l c i) (λ n f s. IsNarrow w l b c)) x q
  wide_value b e one = follows_less w l (λ c i n f s h. (h, narrow_wide b c e)) one

  -- the variables that may change
  abbrev Covers : Mask → Mask → Type 0
  Covers mask some = (x : ℕ) → registers p lay mine some x ≡ true → mask x ≡ true

  not_assigned : (mask some : Mask) → Covers mask some → (x : ℕ) → mask x ≡ false → registers p lay mine some x ≡ false
  not_assigned mask some c x out = by (registers p lay mine some x) refl
    where
      differ : {b : Bool} → b ≡ true → b ≡ false → ⊥
      differ e f = cc

      by : (b : Bool) → registers p lay mine some x ≡ b → registers p lay mine some x ≡ false
      by false e = e
      by true e = absurd (differ (c x e) out)

  -- a variable in a register that is assigned is in the mask
  own_base : (b : Base) (n : Thing) → WellFormed.base_named p l.proc b ≡ Some n → (x : ℕ) → origin b x ≡ true → l.in_register x ≡ true → registers p lay mine (origin b) x ≡ true
  own_base (Local y) n is x e reg =
      let u = with_is p good (slice_get (locals w l) y) (λ k. Some (Of k true)) n is in
      by u.0 (subst (λ y. LocalIs w l y u.0) (eqb-true y x e) (vars.local y u.0 u.1))
    where
      differ : {b : Bool} → b ≡ true → b ≡ false → ⊥
      differ e f = cc

      by : (k : ℕ) → LocalIs w l x k → registers p lay mine (origin (Local y)) x ≡ true
      by k (inl h) = ap (λ s. in_register p lay mine s && (y == x)) h.0 ∙ e
      by k (inr h) = absurd (differ reg h.2)
  own_base Done n is x e reg = no e
  own_base (Global m v) n is x e reg = no e
  own_base (Parameter k) n is x e reg = no e
  own_base (Text k) n is x e reg = no e

  own_part : {m : _} (row : Row_of-Selector m) (b : Base) (n : Thing) → WellFormed.selected_named p l.proc row (WellFormed.base_named p l.proc b) ≡ Some n → (x : ℕ) → unselected (origin b) row x ≡ true → l.in_register x ≡ true → registers p lay mine (unselected (origin b) row) x ≡ true
  own_part end_of-Selector b n is x e reg = own_base b n is x e reg
  own_part (more_of-Selector s rest) b n is x e reg = no e

  own_register : (d : Designator) (n : Thing) → WellFormed.named p l.proc d ≡ Some n → (x : ℕ) → whole_of d x ≡ true → l.in_register x ≡ true → registers p lay mine (whole_of d) x ≡ true
  own_register (Variable b kind) n is x e reg = let z = with_is p good (WellFormed.base_named p l.proc b) (WellFormed.of_kind p kind) n is in own_base b z.0 z.1 x e reg
  own_register (Part' _ b kind _ row) n is x e reg = let z = with_is p good (WellFormed.selected_named p l.proc row (WellFormed.base_named p l.proc b)) (WellFormed.of_kind p kind) n is in own_part row b z.0 z.1 x e reg

  masked_by : (mask : Mask) (d : Designator) (n : Thing) → WellFormed.named p l.proc d ≡ Some n → Covers mask (whole_of d) → (x : ℕ) → whole_of d x ≡ true → l.in_register x ≡ true → mask x ≡ true
  masked_by mask d n is c x e reg = c x (own_register d n is x e reg)

  -- a statement that makes sense leaves a typed store
  typed_by : {mask : Mask} (s : Stmt) {low : Low (Unit {0})} → WellFormed.fine p l.proc s ≡ true → FollowsTo w l false 1 fuel mask (Given w l) Always (effect p calls runs fuel s) low → Follows w l 1 fuel mask (Given w l) Always (effect p calls runs fuel s) low
  typed_by s fine one = follows_less w l (λ a b n f t h. tt) (follows_sound w l {P = Any p} (λ tags older. (t_effect p good calls sound runs (forms_of_all p l.types) tags frame (taken_at tags older) fuel s).sound fine) one)

  -- what needs no turns before it
  unpaid : {mask : Mask} {A B : Type 0} {K : Fact} {R : A → B → Fact} {x : Act A} {low : Low B} → Follows w l 0 fuel nothing K R x low → Follows w l 1 fuel mask K R x low
  unpaid one = follows_mask w l {less = nothing} (omega arith) (λ y e. refl) one

  record_reaches : (own : Mask) (d : Thing) (r : ℕ) → WellFormed.has_record p r d ≡ true → Reaches w l right apart own d (Record (record_row p.types r))
  record_reaches own d r has = record { part = record_part d r has; many = record_many d r has }

  -- the record type of a new object is there, and its descriptor's place is within the limit
  record_type_of : (r : ℕ) (k : Form) → WellFormed.points_to p r k ≡ true → r < length p.types.records
  record_type_of r (ToRecord b) h = lt_of p r (length p.types.records) (and_of (is_record_type p.types r) (extends p.types r b) h).0
  record_type_of r Zero h = no h
  record_type_of r Truth h = no h
  record_type_of r Small h = no h
  record_type_of r Number h = no h
  record_type_of r (Routines k) h = no h
  record_type_of r (Exactly g) h = no h

  -- its cells, and its bytes with the tag
  row_many : (r : ℕ) → record_cells p.types r ≡ row_cells (record_row p.types r)
  row_many r = record_cells_are p.types r

  room_of : (r : ℕ) → rounded (lay.record_bytes r) + 8 ≡ object_room (ground w) r
  room_of r = let e = right.laid.record_bytes r in omega (arith, e)

  bytes_small : (k : ℕ) → lay.bytes k ≤ 8388608
  bytes_small k = let e = right.laid.bytes k in let f = few_rounded w.packed (data_tree p.types k) in let c = cells_are p.types k in let m = right.cells k in omega (arith, e, f, c, m)

  clamped : (n : ℕ) → within n < 2 ^ 32
  clamped n = grind (arith, nat_tests)

  -- alternatives one behind the other
  unit_after : (e : Ending Objects Trap (Unit {0})) (other : Deed) → after (after e (λ u t. Gives true t)) (λ done. if done then give tt else other) ≡ e
  unit_after (Gives tt t) other = refl
  unit_after (Fails trap out) other = refl
  unit_after (Spent out) other = refl

  otherwise_is : (c : Act Bool) (body other : Deed) (rest : Act Bool) (s : Moment Objects) → (c >>= λ ok. if ok then body else otherwise rest other) s ≡ otherwise (try c body rest) other s
  otherwise_is c body other rest s = by (c s)
    where
      by : (e : Ending Objects Trap Bool) → after e (λ ok. if ok then body else otherwise rest other) ≡ after (after e (λ ok. if ok then (body >>= λ _. give true) else rest)) (λ done. if done then give tt else other)
      by (Gives true t) = sym (unit_after (body t) other)
      by (Gives false t) = refl
      by (Fails trap out) = refl
      by (Spent out) = refl

  rounds_any : {mask : Mask} {m : Act Bool} {rs : List Round} (b : Bool) → Rounded w l (cond b 0 1) fuel mask (Given w l) m rs → Rounded w l 1 fuel mask (Given w l) m rs
  rounds_any true one = rounds_less w l one
  rounds_any false one = one

  ---- FOR

  fixed_base : (b : Base) (n : Thing) (f : Form) → WellFormed.base_named p l.proc b ≡ Some n → WellFormed.scalar_in p n ≡ Some f → (a : Address) × ((s : Moment Objects) → place (base_of p calls runs b) s ≡ Gives a s)
  fixed_base (Global m v) n f is scalar = (_, λ s. refl)
  fixed_base (Local x) n f is scalar = (_, λ s. refl)
  fixed_base Done n f is scalar = (_, λ s. refl)
  fixed_base (Parameter k) n f is scalar =
      let x = with_is p good (slice_get (procedure_of p l.proc).formals k) (λ x. WellFormed.parameter_by p x.mode x.type_number x.variable) n is in
      let t = taken_of p good (forms_of_all p l.types) l.store.tags (procedure_of p l.proc).formals l.arguments taken k x.0 x.1 in
      let names = parameter_names p good (forms_of_all p l.types) l.store.tags x.0.mode x.0.type_number x.0.variable t.0 n x.2 t.2 in
      let a = by n t.0 scalar names in
      (a.0, λ s. ap (λ o. place (given o) s) t.1 ∙ ap (λ h. place (give h) s) a.1)
    where
      by : (m : Thing) (h : Handed) → WellFormed.scalar_in p m ≡ Some f → Names p (forms_of_all p l.types) l.store.tags m h → (a : Address) × (h ≡ Addressed a)
      by (Of k may) (Addressed a) e names = (a, refl)
      by (Cells g may) (Addressed a) e names = (a, refl)
      by (OpenOf g may) h e names = none_some f e
      by (Dynamic r) h e names = none_some f e
      by (Characters m) h e names = none_some f e
      by _ _ e names = absurd names
  fixed_base (Text k) n f is scalar =
      let x = with_is p good (slice_get (texts_of p.procedures) (text_number p l.proc k)) (λ xs. Some (Characters (suc (length xs)))) n is in
      none_some f (ap (WellFormed.scalar_in p) (some_same (Characters (suc (length x.0))) n x.2) ∙ scalar)

  fixed_part : {m : _} (row : Row_of-Selector m) (b : Base) (n : Thing) (f : Form) → WellFormed.no_selector row ≡ true → WellFormed.selected_named p l.proc row (WellFormed.base_named p l.proc b) ≡ Some n → WellFormed.scalar_in p n ≡ Some f → (a : Address) × ((s : Moment Objects) → place (selected p calls runs row (base_of p calls runs b)) s ≡ Gives a s)
  fixed_part end_of-Selector b n f h is scalar = fixed_base b n f is scalar
  fixed_part (more_of-Selector s rest) b n f h is scalar = no h

  -- a whole variable has one address
  fixed_at : (d : Designator) (n : Thing) (f : Form) → WellFormed.is_whole d ≡ true → WellFormed.named p l.proc d ≡ Some n → WellFormed.scalar_in p n ≡ Some f → (a : Address) × ((s : Moment Objects) → place (designated p calls runs d) s ≡ Gives a s)
  fixed_at (Variable b kind) n f h is scalar =
      let z = with_is p good (WellFormed.base_named p l.proc b) (WellFormed.of_kind p kind) n is in
      let y = provided_is p (WellFormed.has_kind p kind z.0) (Some z.0) n z.2 in
      fixed_base b z.0 f z.1 (ap (WellFormed.scalar_in p) (some_same z.0 n y.1) ∙ scalar)
  fixed_at (Part' _ b kind _ row) n f h is scalar =
      let z = with_is p good (WellFormed.selected_named p l.proc row (WellFormed.base_named p l.proc b)) (WellFormed.of_kind p kind) n is in
      let y = provided_is p (WellFormed.has_kind p kind z.0) (Some z.0) n z.2 in
      fixed_part row b z.0 f h z.1 (ap (WellFormed.scalar_in p) (some_same z.0 n y.1) ∙ scalar)

  limit_test : (b : Bool) (x y : ℕ) → compares (if b then 13 else 10) x y ≡ (if b then int_le (signed x) (signed y) else int_le (signed y) (signed x))
  limit_test true x y = refl
  limit_test false x y = refl

  sound_same : {A : Type 0} {tags : List ℕ} {P : List ℕ → A → Type 0} (m n : Act A) → ((s : Moment Objects) → m s ≡ n s) → Sound p (forms_of_all p l.types) tags P m → Sound p (forms_of_all p l.types) tags P n
  sound_same {tags = tags} {P = P} m n same h = record { by = λ s older typed. subst (λ e. Good p (forms_of_all p l.types) P s.store.tags e) (same s) (h.by s older typed) }

  sound_place : (d : Designator) → holds_of (WellFormed.takes p WellFormed.is_full) (WellFormed.named p l.proc d) ≡ true → (tags : List ℕ) → Older l.store.tags tags → Sound p (forms_of_all p l.types) tags (λ t a. Formed p (forms_of_all p l.types) t a Number × (can_write a.area ≡ true)) (place (designated p calls runs d))
  sound_place d h tags older = s_full p good (WellFormed.named p l.proc d) h (t_named p good calls sound runs (forms_of_all p l.types) tags frame (taken_at tags older) d)

  sound_first : (d : Designator) (x : Checked) → holds_of (WellFormed.takes p WellFormed.is_full) (WellFormed.named p l.proc d) ≡ true → gives_number (WellFormed.checked_form p l.proc x) ≡ true → (tags : List ℕ) → Older l.store.tags tags → Sound p (forms_of_all p l.types) tags (Any p) (assign (designated p calls runs d) (value p calls runs x.form))
  sound_first d x h g tags older =
      s_bind p (sound_place d h tags older) (λ t1 a e1 at. s_bind p (s_older p e1 (as_number p good (WellFormed.checked_form p l.proc x) g (t_checked p good calls sound runs (forms_of_all p l.types) tags frame (taken_at tags older) x)))
      (λ t2 c e2 f. s_put p a Number c (form_older p (forms_of_all p l.types) t1 t2 e2 a.area a.object a.cell Number at.0) at.1 f))

  sound_step : (d : Designator) (n : ℕ) (a : Address) → ((s : Moment Objects) → place (designated p calls runs d) s ≡ Gives a s) → holds_of (WellFormed.takes p WellFormed.is_full) (WellFormed.named p l.proc d) ≡ true → (tags : List ℕ) → Older l.store.tags tags
      → Sound p (forms_of_all p l.types) tags (Any p) (assign (designated p calls runs d) (two_operands l.proc Add (load (designated p calls runs d)) (give (Bits n))))
  sound_step d n a is h tags older = sound_same (place (designated p calls runs d) >>= λ a. bits (fetch a) >>= λ v. put a (Bits (add64 v n))) (assign (designated p calls runs d) (two_operands l.proc Add (load (designated p calls runs d)) (give (Bits n))))
      (λ s. ap (λ e. after e (λ a. bits (fetch a) >>= λ v. put a (Bits (add64 v n)))) (is s) ∙ sym (step_is w l a (designated p calls runs d) is n s))
      (s_bind p (sound_place d h tags older) (λ t1 a e1 at. s_bind p (s_number_at p good a Number refl at.0) (λ t2 v e2 j. s_put p a Number (Bits (add64 v n)) (form_older p (forms_of_all p l.types) t1 t2 e2 a.area a.object a.cell Number at.0) at.1 (add64_lt v n))))

  -- a call of a procedure without a result
  call_only : (c : Call) → WellFormed.call_suits p l.proc c ≡ true → Lends (lent_call c) → Follows w l 0 fuel nothing (Given w l) Always (called p calls runs c >>= λ _. give tt) (without_result (lower_called p lay mine c))
  call_only (Direct' g m args) suits lends =
      let y = and_of (WellFormed.callable p g) (WellFormed.all_suit p l.proc args (procedure_of p g).formals) suits in
      follows_then w l {R = λ r (u : Unit {0}) n f s. Unit {0}} steady
      (follows_less w l (λ r u n f s h. tt) (follows_sound w l {P = Answers p good (WellFormed.form_of p (procedure_of p g).result)} (λ tags older. t_call p good calls sound runs (forms_of_all p l.types) tags frame (taken_at tags older) (Direct' g m args) suits)
      (follows_called_only w l right apart stacked good calls calling g steady y.0 (all_given (procedure_of p g).formals args y.1 (words_are (procedure_of p g).formals args y.1 lends)))))
      (λ r u n f s known h. inl (tt, refl, tt))
  call_only (Indirect' d m args) suits lends =
      let t = called_through d args suits in
      follows_then w l {R = λ r (u : Unit {0}) n f s. Unit {0}} steady
      (follows_less w l (λ r u n f s h. tt) (follows_sound w l {P = Answers p good (WellFormed.call_form p l.proc (Indirect' d m args))} (λ tags older. t_call p good calls sound runs (forms_of_all p l.types) tags frame (taken_at tags older) (Indirect' d m args) suits)
      (follows_called_value_only w l right apart stacked good calls calling t.0 steady (code_value d t.0 t.1 (λ n e. named_is d n e (left_lends (lent_at d) (lent_in args) lends)))
      (all_given (signature_of p.types t.0).formals args t.2 (words_are (signature_of p.types t.0).formals args t.2 (right_lends (lent_at d) (lent_in args) lends))))))
      (λ r u n f s known h. inl (tt, refl, tt))

  -- what is behind RETURN
  pub answer_is : (k : Option Form) (e : Option Checked) → WellFormed.answer_fine p l.proc k e ≡ true → Lends (lent_by_answer e) → Follows w l 0 fuel nothing (Given w l) (AnswerIs w l) (answer p calls runs e) (lower_answer p lay mine e)
  answer_is None None fine lends = follows_give w l None None (λ n f s h. tt)
  answer_is (Some k) (Some x) fine lends =
      let g = given_is p good (WellFormed.checked_form p l.proc x) (Some k) fine in
      follows_bind w l steady (checked_shows x g.0 g.2 lends).value (λ v. grows_give w l (Some v)) (λ c v. follows_give w l (Some c) (Some v) (λ n f s h. h.1))
  answer_is None (Some x) fine lends = no fine
  answer_is (Some k) None fine lends = no fine

  ---- CASE

  abbrev deeds_in : {m : _} → Row_of-CasePart m → List Deed
  deeds_in end_of-CasePart = []
  deeds_in (more_of-CasePart labels _ body rest) = effects p calls runs fuel body ∷ deeds_in rest

  abbrev answers_of : {m : _} → ℕ → Row_of-CasePart m → List (List Bool)
  answers_of v parts = map (λ ls. map (label_has v) ls) (labels_of p lay mine parts)

  labels_are : {m : _} (parts : Row_of-CasePart m) → WellFormed.fine_case_parts p l.proc parts ≡ true → all (all label_fine) (labels_of p lay mine parts) ≡ true
  labels_are end_of-CasePart fine = refl
  labels_are (more_of-CasePart labels _ body rest) fine =
      let y = and_of (all label_fine labels) (WellFormed.fine_row p l.proc body && WellFormed.fine_case_parts p l.proc rest) fine in
      ap₂ (λ a b. a && b) y.0 (labels_are rest (and_of (WellFormed.fine_row p l.proc body) (WellFormed.fine_case_parts p l.proc rest) y.1).1)

  matched : {m : _} (v : ℕ) (parts : Row_of-CasePart m) → Matched (answers_of v parts) (deeds_in parts)
  matched v end_of-CasePart = tt
  matched v (more_of-CasePart labels _ body rest) = matched v rest

  cases_same : {m : _} (v : ℕ) (parts : Row_of-CasePart m) (s : Moment Objects) → first_of (parts_of (answers_of v parts) (deeds_in parts)) s ≡ case_parts p calls runs fuel v parts s
  cases_same v end_of-CasePart s = refl
  cases_same v (more_of-CasePart labels _ body rest) s =
      ap (λ b. (if b then (effects p calls runs fuel body >>= λ _. give true) else first_of (parts_of (answers_of v rest) (deeds_in rest))) s) (labels_any v labels) ∙ by (labels_have v labels) (cases_same v rest s)
    where
      by : (b : Bool) → first_of (parts_of (answers_of v rest) (deeds_in rest)) s ≡ case_parts p calls runs fuel v rest s
          → (if b then (effects p calls runs fuel body >>= λ _. give true) else first_of (parts_of (answers_of v rest) (deeds_in rest))) s ≡ (if b then (effects p calls runs fuel body >>= λ _. give true) else case_parts p calls runs fuel v rest) s
      by true e = refl
      by false e = e

  case_is : {m : _} (x : Checked) (parts : Row_of-CasePart m) (inner : Mask) → WellFormed.fine_case_parts p l.proc parts ≡ true → Follows w l 1 fuel inner (Given w l) (CellIs w l) (value p calls runs x.form) (expr p lay mine x.form).value
      → Bodies w l fuel (Given w l) inner steady (deeds_in parts) (case_bodies p lay mine parts)
      → Follows w l 1 fuel inner (Given w l) Always (case_of_value l.proc (value p calls runs x.form) (λ v. case_parts p calls runs fuel v parts)) (lower_case p lay mine inner (expr p lay mine x.form).value (label_tests p lay mine parts) (case_bodies p lay mine parts) (λ out args. Trap_end 6))
  case_is x parts inner fine one bodies = follows_bind w l steady (follows_bits w l steady one) (λ i. (parts_follow 0 i).grows) parts_follow
    where
      parts_follow : (v i : ℕ) → Follows w l 1 fuel inner (Known w l right fuel (Given w l) steady inner lay mine v i) Always (case_parts p calls runs fuel v parts >>= unless l.proc 6) (case inner (rungs_from p lay mine 0 (label_tests p lay mine parts i)) (case_bodies p lay mine parts) (λ out args. Trap_end 6))
      parts_follow v i =
          let K = Known w l right fuel (Given w l) steady inner lay mine v i in
          let sk = known_steady w l right fuel (Given w l) steady inner lay mine v i in
          let says = all_labels_say w l right fuel (Given w l) steady inner lay mine v i (labels_of p lay mine parts) (labels_are parts fine) in
          let each = bodies_known w l fuel inner steady sk (λ n f s h. h.0) (deeds_in parts) (case_bodies p lay mine parts) bodies in
          follows_same w l (first_of (parts_of (answers_of v parts) (deeds_in parts)) >>= unless l.proc 6) (case_parts p calls runs fuel v parts >>= unless l.proc 6) (λ s. ap (λ e. after e (unless l.proc 6)) (cases_same v parts s))
          (subst (λ rs. Follows w l 1 fuel inner K Always (first_of (parts_of (answers_of v parts) (deeds_in parts)) >>= unless l.proc 6) (case inner rs (case_bodies p lay mine parts) (λ out args. Trap_end 6))) (sym (rungs_same p lay mine 0 (label_tests p lay mine parts i)))
          (follows_case w l fuel K inner sk (label_tests p lay mine parts i) (answers_of v parts) says (deeds_in parts) (case_bodies p lay mine parts) each (matched v parts) (λ out args. Trap_end 6) (unless l.proc 6) (λ t. refl)
          (trap_otherwise w l right fuel (Given w l) steady inner lay mine v i (label_tests p lay mine parts i) (answers_of v parts) says (deeds_in parts) (case_bodies p lay mine parts) each (matched v parts))))

  abbrev type_deeds : {m : _} → Row_of-TypePart m → List Deed
  type_deeds end_of-TypePart = []
  type_deeds (more_of-TypePart r _ body rest) = effects p calls runs fuel body ∷ type_deeds rest

  abbrev type_answers : {m : _} → Option ℕ → Row_of-TypePart m → List (List Bool)
  type_answers t parts = map (λ r. is_of (extends p.types) t r ∷ []) (records_of p lay mine parts)

  records_are : {m : _} (parts : Row_of-TypePart m) → WellFormed.fine_type_parts p l.proc parts ≡ true → all (is_record_type p.types) (records_of p lay mine parts) ≡ true
  records_are end_of-TypePart fine = refl
  records_are (more_of-TypePart r _ body rest) fine =
      let y = and_of (is_record_type p.types r) (WellFormed.fine_row p l.proc body && WellFormed.fine_type_parts p l.proc rest) fine in
      ap₂ (λ a b. a && b) y.0 (records_are rest (and_of (WellFormed.fine_row p l.proc body) (WellFormed.fine_type_parts p l.proc rest) y.1).1)

  types_matched : {m : _} (t : Option ℕ) (parts : Row_of-TypePart m) → Matched (type_answers t parts) (type_deeds parts)
  types_matched t end_of-TypePart = tt
  types_matched t (more_of-TypePart r _ body rest) = types_matched t rest

  types_same : {m : _} (t : Option ℕ) (parts : Row_of-TypePart m) (s : Moment Objects) → first_of (parts_of (type_answers t parts) (type_deeds parts)) s ≡ type_parts p calls runs fuel t parts s
  types_same t end_of-TypePart s = refl
  types_same t (more_of-TypePart r _ body rest) s = by (is_of (extends p.types) t r) (types_same t rest s)
    where
      by : (b : Bool) → first_of (parts_of (type_answers t rest) (type_deeds rest)) s ≡ type_parts p calls runs fuel t rest s
          → (if b || false then (effects p calls runs fuel body >>= λ _. give true) else first_of (parts_of (type_answers t rest) (type_deeds rest))) s ≡ (if b then (effects p calls runs fuel body >>= λ _. give true) else type_parts p calls runs fuel t rest) s
      by true e = refl
      by false e = e

  -- CASE on dynamic types of either kind
  type_case_is : {m : _} (TypeIs : Option ℕ → ℕ → Fact) (is : ℕ → ℕ → ℕ → Low ℕ) (stays : (t : Option ℕ) (i : ℕ) → Steady w l (TypeIs t i))
      → ((t : Option ℕ) (i r : ℕ) → r < length p.types.records → Follows w l 0 fuel nothing (Both (Given w l) (TypeIs t i)) (CellIs w l) (type_answer w l right vars t r) (is (descriptor p lay mine r) (level p lay mine r) i))
      → (x : Act (Option ℕ)) (q : Low ℕ) (parts : Row_of-TypePart m) (inner : Mask) → WellFormed.fine_type_parts p l.proc parts ≡ true → Follows w l 1 fuel inner (Given w l) TypeIs x q → Bodies w l fuel (Given w l) inner steady (type_deeds parts) (type_bodies p lay mine parts)
      → Follows w l 1 fuel inner (Given w l) Always (type_case x (λ t. type_parts p calls runs fuel t parts)) (lower_case p lay mine inner q (type_tests p lay mine parts is) (type_bodies p lay mine parts) (λ out args. Jump out args))
  type_case_is TypeIs is stays tells x q parts inner fine one bodies = follows_bind w l steady one (λ i. (parts_follow None i).grows) parts_follow
    where
      parts_follow : (t : Option ℕ) (i : ℕ) → Follows w l 1 fuel inner (Both (Given w l) (TypeIs t i)) Always (type_parts p calls runs fuel t parts >>= nothing_more) (case inner (rungs_from p lay mine 0 (type_tests p lay mine parts is i)) (type_bodies p lay mine parts) (λ out args. Jump out args))
      parts_follow t i =
          let K = KnownType w l right vars fuel (Given w l) steady inner mine TypeIs is stays t i in
          let sk = known_type w l right vars fuel (Given w l) steady inner mine TypeIs is stays t i in
          let says = all_types_say w l right vars fuel (Given w l) steady inner mine TypeIs is stays t i (tells t i) (records_of p lay mine parts) (records_are parts fine) in
          let each = bodies_known w l fuel inner steady sk (λ n f s h. h.0) (type_deeds parts) (type_bodies p lay mine parts) bodies in
          follows_same w l (first_of (parts_of (type_answers t parts) (type_deeds parts)) >>= nothing_more) (type_parts p calls runs fuel t parts >>= nothing_more) (λ s. ap (λ e. after e nothing_more) (types_same t parts s))
          (subst (λ rs. Follows w l 1 fuel inner K Always (first_of (parts_of (type_answers t parts) (type_deeds parts)) >>= nothing_more) (case inner rs (type_bodies p lay mine parts) (λ out args. Jump out args))) (sym (rungs_same p lay mine 0 (type_tests p lay mine parts is i)))
          (follows_case w l fuel K inner sk (type_tests p lay mine parts is i) (type_answers t parts) says (type_deeds parts) (type_bodies p lay mine parts) each (types_matched t parts) (λ out args. Jump out args) nothing_more (λ t. refl)
          (jump_otherwise w l right vars fuel (Given w l) steady inner mine TypeIs is stays t i (type_tests p lay mine parts is i) (type_answers t parts) says (type_deeds parts) (type_bodies p lay mine parts) each (types_matched t parts))))

  mutual
    pub stmt_is : (mask : Mask) (s : Stmt) → WellFormed.fine p l.proc s ≡ true → Covers mask (assigned s) → Lends (lent_by s) → Follows w l 1 fuel mask (Given w l) Always (effect p calls runs fuel s) (deed p lay mine s)
    stmt_is mask (Assign d x) fine c lends =
        let z = holds_is p good (λ t. WellFormed.is_writable t && WellFormed.given_for p (WellFormed.checked_form p l.proc x) (WellFormed.scalar_in p t)) (WellFormed.named p l.proc d) fine in
        let y = and_of (WellFormed.is_writable z.0) (WellFormed.given_for p (WellFormed.checked_form p l.proc x) (WellFormed.scalar_in p z.0)) z.2 in
        let g = given_is p good (WellFormed.checked_form p l.proc x) (WellFormed.scalar_in p z.0) y.1 in
        typed_by (Assign d x) fine (follows_assign w l right apart (whole_of d) (small p lay mine d) (designated p calls runs d) steady (masked_by mask d z.0 z.1 c) (home_at d z.0 g.1 z.1 g.3 (left_lends (lent_at d) (lent x.form) lends))
        (follows_less w l (λ v i n f s h. (h.0, narrow_value d z.0 g.0 g.1 z.1 g.3 g.4 v s.tags h.1)) (follows_sound w l {P = HasForm p g.0} (sound_value x.form g.0 (checked_is x g.0 g.2)) (value_at x g.0 g.2 (right_lends (lent_at d) (lent x.form) lends)))))
    stmt_is mask (Increase d x) fine c lends =
        let y = and_of (gives_number (WellFormed.checked_form p l.proc x)) (holds_of (WellFormed.takes p (WellFormed.changes (is_byte (kind_in d)))) (WellFormed.named p l.proc d)) fine in
        let z = takes_is p good (WellFormed.changes (is_byte (kind_in d))) (WellFormed.named p l.proc d) y.1 in
        let g = number_form (WellFormed.checked_form p l.proc x) y.0 in
        typed_by (Increase d x) fine (follows_number_change w l right apart (whole_of d) (small p lay mine d) Add (designated p calls runs d) (is_byte (kind_in d)) (λ e. byte_changes (is_byte (kind_in d)) z.1 z.4 (byte_small z.1 (sym (small_is d z.0 z.1 z.2 z.3) ∙ e))) tt steady (masked_by mask d z.0 z.2 c) (home_at d z.0 z.1 z.2 z.3 (left_lends (lent_at d) (lent x.form) lends)) (value_at x g.0 g.1 (right_lends (lent_at d) (lent x.form) lends)))
    stmt_is mask (Decrease d x) fine c lends =
        let y = and_of (gives_number (WellFormed.checked_form p l.proc x)) (holds_of (WellFormed.takes p (WellFormed.changes (is_byte (kind_in d)))) (WellFormed.named p l.proc d)) fine in
        let z = takes_is p good (WellFormed.changes (is_byte (kind_in d))) (WellFormed.named p l.proc d) y.1 in
        let g = number_form (WellFormed.checked_form p l.proc x) y.0 in
        typed_by (Decrease d x) fine (follows_number_change w l right apart (whole_of d) (small p lay mine d) Subtract (designated p calls runs d) (is_byte (kind_in d)) (λ e. byte_changes (is_byte (kind_in d)) z.1 z.4 (byte_small z.1 (sym (small_is d z.0 z.1 z.2 z.3) ∙ e))) tt steady (masked_by mask d z.0 z.2 c) (home_at d z.0 z.1 z.2 z.3 (left_lends (lent_at d) (lent x.form) lends)) (value_at x g.0 g.1 (right_lends (lent_at d) (lent x.form) lends)))
    stmt_is mask (Include d x) fine c lends =
        let y = and_of (gives_number (WellFormed.checked_form p l.proc x)) (holds_of (WellFormed.takes p WellFormed.is_full) (WellFormed.named p l.proc d)) fine in
        let z = takes_is p good WellFormed.is_full (WellFormed.named p l.proc d) y.1 in
        let g = number_form (WellFormed.checked_form p l.proc x) y.0 in
        typed_by (Include d x) fine (follows_set_change w l right apart (whole_of d) Union (designated p calls runs d) tt steady (masked_by mask d z.0 z.2 c) (full_home d z.0 z.1 z.2 z.3 z.4 (left_lends (lent_at d) (lent x.form) lends)) (value_at x g.0 g.1 (right_lends (lent_at d) (lent x.form) lends)))
    stmt_is mask (Exclude d x) fine c lends =
        let y = and_of (gives_number (WellFormed.checked_form p l.proc x)) (holds_of (WellFormed.takes p WellFormed.is_full) (WellFormed.named p l.proc d)) fine in
        let z = takes_is p good WellFormed.is_full (WellFormed.named p l.proc d) y.1 in
        let g = number_form (WellFormed.checked_form p l.proc x) y.0 in
        typed_by (Exclude d x) fine (follows_set_change w l right apart (whole_of d) Difference (designated p calls runs d) tt steady (masked_by mask d z.0 z.2 c) (full_home d z.0 z.1 z.2 z.3 z.4 (left_lends (lent_at d) (lent x.form) lends)) (value_at x g.0 g.1 (right_lends (lent_at d) (lent x.form) lends)))
    stmt_is mask (Assert x) fine c lends = let g = number_form (WellFormed.checked_form p l.proc x) fine in follows_assert w l steady (value_at x g.0 g.1 lends)
    stmt_is mask (OutChar x) fine c lends = let g = holds_is p good WellFormed.is_small (WellFormed.checked_form p l.proc x) fine in follows_out_char w l steady (value_at x g.0 g.1 lends)
    stmt_is mask (OutInt x n) fine c lends =
        let y = and_of (gives_number (WellFormed.checked_form p l.proc x)) (gives_number (WellFormed.checked_form p l.proc n)) fine in
        let g = number_form (WellFormed.checked_form p l.proc x) y.0 in
        let h = number_form (WellFormed.checked_form p l.proc n) y.1 in
        follows_out_int w l steady (value_at x g.0 g.1 (left_lends (lent x.form) (lent n.form) lends)) (value_at n h.0 h.1 (right_lends (lent x.form) (lent n.form) lends))
    stmt_is mask OutLn fine c lends = follows_out_char w l steady (follows_literal w l 10 (omega arith))
    stmt_is mask (If' _ parts _ other) fine c lends =
        let y = and_of (WellFormed.fine_branches p l.proc parts) (WellFormed.fine_row p l.proc other) fine in
        alternatives_are mask parts (assigned_all other) (effects p calls runs fuel other) (deeds p lay mine other) y.0 c (left_lends (lent_by_branches parts) (lent_by_all other) lends)
        (λ inner d. row_is inner other y.1 d (right_lends (lent_by_branches parts) (lent_by_all other) lends))
    stmt_is mask (While' _ parts) fine c lends =
        let z = and_of (has_branch parts) (WellFormed.fine_branches p l.proc parts) fine in
        follows_mask w l {low_need = 1} {less = registers p lay mine (assigned_branches parts)} (omega arith) (not_assigned mask (assigned_branches parts) c)
        (follows_loop w l (registers p lay mine (assigned_branches parts)) (branches p calls runs fuel parts) (guarded_rounds p lay mine parts) steady (subst (λ b. Rounded w l (cond b 0 1) fuel (registers p lay mine (assigned_branches parts)) (Given w l) (branches p calls runs fuel parts) (guarded_rounds p lay mine parts)) z.0 (rounds_are (registers p lay mine (assigned_branches parts)) parts z.1 (λ x e. e) lends)))
    stmt_is mask (Repeat' _ body x) fine c lends =
        let y = and_of (WellFormed.fine_row p l.proc body) (gives_number (WellFormed.checked_form p l.proc x)) fine in
        let g = number_form (WellFormed.checked_form p l.proc x) y.1 in
        follows_mask w l {low_need = 1} {less = registers p lay mine (assigned_all body)} (omega arith) (not_assigned mask (assigned_all body) c)
        (follows_until w l (registers p lay mine (assigned_all body)) (test (value p calls runs x.form)) (effects p calls runs fuel body) (expr p lay mine x.form).test (deeds p lay mine body) steady (forks_test w l (value p calls runs x.form) (checked_shows x g.0 g.1 (right_lends (lent_by_all body) (lent x.form) lends)).test) (row_is (registers p lay mine (assigned_all body)) body y.0 (λ v e. e) (left_lends (lent_by_all body) (lent x.form) lends)))
    stmt_is mask (CopyArray d e) fine c lends =
        let fits = and_of (WellFormed.lengths_fit (length_of_kind (kind_in d)) (length_of_kind (kind_in e))) (holds_of (WellFormed.may_copy p l.proc (element_kind (kind_in d)) (length_of_kind (kind_in d))) (WellFormed.named p l.proc d) && holds_of (WellFormed.array_of p (element_kind (kind_in d)) (length_of_kind (kind_in e))) (WellFormed.named p l.proc e)) fine in
        let y = and_of (holds_of (WellFormed.may_copy p l.proc (element_kind (kind_in d)) (length_of_kind (kind_in d))) (WellFormed.named p l.proc d)) (holds_of (WellFormed.array_of p (element_kind (kind_in d)) (length_of_kind (kind_in e))) (WellFormed.named p l.proc e)) fits.1 in
        let a = holds_is p good (WellFormed.may_copy p l.proc (element_kind (kind_in d)) (length_of_kind (kind_in d))) (WellFormed.named p l.proc d) y.0 in
        let b = holds_is p good (WellFormed.array_of p (element_kind (kind_in d)) (length_of_kind (kind_in e))) (WellFormed.named p l.proc e) y.1 in
        let may = and_of (WellFormed.is_writable a.0) (WellFormed.array_of p (element_kind (kind_in d)) (length_of_kind (kind_in d)) a.0) a.2 in
        typed_by (CopyArray d e) fine (follows_copy_array w l right apart a.0 (data_tree p.types (element_kind (kind_in d))) (cells p.types (element_kind (kind_in d))) (lay.bytes (element_kind (kind_in d))) (length_of_kind (kind_in d)) (length_of_kind (kind_in e)) (designated p calls runs d) (designated p calls runs e)
        (cells_are p.types (element_kind (kind_in d))) (right.laid.bytes (element_kind (kind_in d))) (bytes_small (element_kind (kind_in d))) fits.0 (writable_is w l right apart a.0 may.0) steady (steady_designator w l (whole_of e) b.0)
        (λ h v. unpaid (array_is (whole_of d) a.0 (length_of_kind (kind_in d)) (element_kind (kind_in d)) may.1 h v)) (λ h v. unpaid (array_is (whole_of e) b.0 (length_of_kind (kind_in e)) (element_kind (kind_in d)) b.2 h v))
        (unpaid (sound_named d a.0 a.1 (named_is d a.0 a.1 (at_of_whole d (left_lends (lent_whole d) (lent_whole e) lends))))) (unpaid (named_is e b.0 b.1 (at_of_whole e (right_lends (lent_whole d) (lent_whole e) lends)))))
    stmt_is mask (CopyRecord d e) fine c lends =
        let y = and_of (holds_of (λ t. WellFormed.is_writable t && WellFormed.has_record p (record_of_kind (kind_in d)) t) (WellFormed.named p l.proc d)) (holds_of (WellFormed.has_record p (record_of_kind (kind_in d))) (WellFormed.named p l.proc e)) fine in
        let a = holds_is p good (λ t. WellFormed.is_writable t && WellFormed.has_record p (record_of_kind (kind_in d)) t) (WellFormed.named p l.proc d) y.0 in
        let b = holds_is p good (WellFormed.has_record p (record_of_kind (kind_in d))) (WellFormed.named p l.proc e) y.1 in
        let may = and_of (WellFormed.is_writable a.0) (WellFormed.has_record p (record_of_kind (kind_in d)) a.0) a.2 in
        let r = record_of_kind (kind_in d) in
        typed_by (CopyRecord d e) fine (follows_copy_record w l right apart a.0 b.0 (designated p calls runs d) (designated p calls runs e) (Record (record_row p.types r)) (record_cells p.types r) (lay.record_bytes r) (row_many r) (right.laid.record_bytes r) steady (record_reaches (whole_of d) a.0 r may.1) (writable_is w l right apart a.0 may.0) (record_reaches (whole_of e) b.0 r b.2)
        (unpaid (sound_named d a.0 a.1 (named_is d a.0 a.1 (at_of_whole d (left_lends (lent_whole d) (lent_whole e) lends))))) (unpaid (named_is e b.0 b.1 (at_of_whole e (right_lends (lent_whole d) (lent_whole e) lends)))))
    stmt_is mask (New d) fine c lends =
        let t = takes_is p good (WellFormed.points_to p (record_of_kind (kind_in d))) (WellFormed.named p l.proc d) fine in
        let n = record_type_of (record_of_kind (kind_in d)) t.1 t.4 in
        let r = record_of_kind (kind_in d) in
        typed_by (New d) fine (follows_new w l right apart (whole_of d) (designated p calls runs d) (record_cells p.types r) r (descriptor p lay mine r) (rounded (lay.record_bytes r)) (vars.descriptor r)
        (clamped (descriptor_at p lay r)) (record_cells_length p.types r) (row_many r) (room_of r) n steady (masked_by mask d t.0 t.2 c) (pointer_home d t.0 r t.1 t.2 t.3 t.4 lends))
    stmt_is mask (OutString d) fine c lends =
        let t = holds_is p good (WellFormed.is_text p (length_of_kind (kind_in d))) (WellFormed.named p l.proc d) fine in
        let el = holds_is p good (WellFormed.is_letter p) (WellFormed.elements_in p t.0 (length_of_kind (kind_in d))) t.2 in
        follows_out_string w l right good t.0 (length_of_kind (kind_in d)) el.0 (designated p calls runs d) el.1 el.2 steady
        (λ h v. unpaid (letters_span (whole_of d) t.0 (length_of_kind (kind_in d)) el.0 el.1 el.2 h v))
        (unpaid (sound_named d t.0 t.1 (named_is d t.0 t.1 (at_of_whole d lends))))
    stmt_is mask (InChar d) fine c lends =
        let t = takes_is p good (WellFormed.changes true) (WellFormed.named p l.proc d) fine in
        typed_by (InChar d) fine (follows_in_char w l right apart (whole_of d) t.0 (designated p calls runs d) steady (own_lent d lends) (small p lay mine d) (lay.is_small Boolean) t.1 (small_is d t.0 t.1 t.2 t.3) (right.laid.is_small Boolean) (λ h. scalar_tree t.0 t.1 t.3 h) vars.done
        (λ n le tags older. s_put p done Truth (Bits n) (done_formed p good (forms_of_all p l.types) tags) refl (omega (arith, le)))
        (follows_mask w l {less = nothing} (omega arith) (λ y e. refl) (only_named w l t.0 (named_is d t.0 t.2 (at_of_whole d lends)))))
    stmt_is mask (Invoke k) fine c lends = follows_mask w l {less = nothing} (omega arith) (λ y e. refl) (call_only k fine lends)
    stmt_is mask (For' _ d x y step _ body) fine c lends =
        let y0 = and_of (WellFormed.is_step step) (WellFormed.is_whole d && (holds_of (WellFormed.takes p WellFormed.is_full) (WellFormed.named p l.proc d) && (gives_number (WellFormed.checked_form p l.proc x) && (gives_number (WellFormed.checked_form p l.proc y) && WellFormed.fine_row p l.proc body)))) fine in
        let whole = and_of (WellFormed.is_whole d) (holds_of (WellFormed.takes p WellFormed.is_full) (WellFormed.named p l.proc d) && (gives_number (WellFormed.checked_form p l.proc x) && (gives_number (WellFormed.checked_form p l.proc y) && WellFormed.fine_row p l.proc body))) y0.1 in
        let y1 = and_of (holds_of (WellFormed.takes p WellFormed.is_full) (WellFormed.named p l.proc d)) (gives_number (WellFormed.checked_form p l.proc x) && (gives_number (WellFormed.checked_form p l.proc y) && WellFormed.fine_row p l.proc body)) whole.1 in
        let y2 = and_of (gives_number (WellFormed.checked_form p l.proc x)) (gives_number (WellFormed.checked_form p l.proc y) && WellFormed.fine_row p l.proc body) y1.1 in
        let y3 = and_of (gives_number (WellFormed.checked_form p l.proc y)) (WellFormed.fine_row p l.proc body) y2.1 in
        let t = takes_is p good WellFormed.is_full (WellFormed.named p l.proc d) y1.0 in
        let g = number_form (WellFormed.checked_form p l.proc x) y2.0 in
        let h = number_form (WellFormed.checked_form p l.proc y) y3.0 in
        let fixed = fixed_at d t.0 t.1 whole.0 t.2 t.3 in
        let lends2 = right_lends (lent_at d) (either (lent x.form) (either (lent y.form) (lent_by_all body))) lends in
        let lends3 = right_lends (lent x.form) (either (lent y.form) (lent_by_all body)) lends2 in
        let at = left_lends (lent_at d) (either (lent x.form) (either (lent y.form) (lent_by_all body))) lends in
        let inner = registers p lay mine (either (whole_of d) (assigned_all body)) in
        let n = unsigned step in
        let eight = full_small d t.0 t.1 t.2 t.3 t.4 in
        let stepped = follows_same w l (assign (designated p calls runs d) (two_operands l.proc Add (load (designated p calls runs d)) (give (Bits n)))) (bits (fetch fixed.0) >>= λ v. put fixed.0 (Bits (add64 v n))) (step_is w l fixed.0 (designated p calls runs d) fixed.1 n)
        (follows_less w l {Q = Always} (λ a b n f t h. tt) (follows_sound w l {P = Any p} (λ tags older. sound_step d n fixed.0 fixed.1 y1.0 tags older)
        (follows_assign w l right apart (whole_of d) (small p lay mine d) (designated p calls runs d) steady (masked_by inner d t.0 t.2 (λ v e. left_of (in_register p lay mine (variable_of p lay mine v).site) (whole_of d v) (assigned_all body v) e)) (home_at d t.0 t.1 t.2 t.3 at)
        (wide_value (small p lay mine d) eight (follows_binary w l Add steady (follows_load w l (whole_of d) (small p lay mine d) (designated p calls runs d) steady (home_at d t.0 t.1 t.2 t.3 at)) (follows_literal w l n (step_small step y0.0))))))) in
        follows_for w l mask inner (bound p lay mine step) step (value p calls runs x.form) (effects p calls runs fuel body) fixed.0 (designated p calls runs d) fixed.1 (limit_test (int_lt (pos 0) step)) (not_assigned mask (either (whole_of d) (assigned_all body)) c) steady
        (follows_same w l (assign (designated p calls runs d) (value p calls runs x.form)) (value p calls runs x.form >>= λ c. put fixed.0 c) (assign_is w l fixed.0 (designated p calls runs d) fixed.1 (value p calls runs x.form))
        (follows_less w l {Q = Always} (λ a b n f t h. tt) (follows_sound w l {P = Any p} (λ tags older. sound_first d x y1.0 y2.0 tags older)
        (follows_assign w l right apart (whole_of d) (small p lay mine d) (designated p calls runs d) steady (masked_by mask d t.0 t.2 (λ v e. c v (left_of (in_register p lay mine (variable_of p lay mine v).site) (whole_of d v) (assigned_all body v) e))) (home_at d t.0 t.1 t.2 t.3 at) (wide_value (small p lay mine d) eight (value_at x g.0 g.1 (left_lends (lent x.form) (either (lent y.form) (lent_by_all body)) lends2)))))))
        (value_at y h.0 h.1 (left_lends (lent y.form) (lent_by_all body) lends3))
        (follows_same w l (load (designated p calls runs d)) (fetch fixed.0) (load_is w l fixed.0 (designated p calls runs d) fixed.1) (follows_load w l (whole_of d) (small p lay mine d) (designated p calls runs d) steady (home_is d t.0 t.1 t.2 t.3 at)))
        (follows_bind w l steady (row_is inner body y3.1 (λ v e. right_of (in_register p lay mine (variable_of p lay mine v).site) (whole_of d v) (assigned_all body v) e) (right_lends (lent y.form) (lent_by_all body) lends3)) (λ u. stepped.grows) (λ u v. follows_known w l (λ n f s k. k.0) stepped))
    stmt_is mask (Case' x _ parts) fine c lends =
        let y = and_of (gives_number (WellFormed.checked_form p l.proc x)) (WellFormed.fine_case_parts p l.proc parts) fine in
        let g = number_form (WellFormed.checked_form p l.proc x) y.0 in
        let inner = registers p lay mine (assigned_case_parts parts) in
        follows_mask w l {low_need = 1} {less = inner} (omega arith) (not_assigned mask (assigned_case_parts parts) c)
        (case_is x parts inner y.1 (value_at x g.0 g.1 (left_lends (lent x.form) (lent_by_case_parts parts) lends)) (bodies_are inner parts y.1 (λ v e. e) (right_lends (lent x.form) (lent_by_case_parts parts) lends)))
    stmt_is mask (CasePointer' x _ parts) fine c lends =
        let y = and_of (WellFormed.gives_pointer (WellFormed.checked_form p l.proc x)) (WellFormed.fine_type_parts p l.proc parts) fine in
        let g = pointer_form (WellFormed.checked_form p l.proc x) y.0 in
        let inner = registers p lay mine (assigned_type_parts parts) in
        follows_mask w l {low_need = 1} {less = inner} (omega arith) (not_assigned mask (assigned_type_parts parts) c)
        (type_case_is (PointerType w l right vars) is_pointer (steady_pointer_type w l right vars) (λ t i r there. follows_is_pointer w l right vars t i r (descriptor p lay mine r) there (vars.descriptor r) steady) (pointer_type (value p calls runs x.form)) (expr p lay mine x.form).value parts inner y.1
        (follows_pointer_type w l right vars steady (value_at x g.0 g.1 (left_lends (lent x.form) (lent_by_type_parts parts) lends))) (types_are inner parts y.1 (λ v e. e) (right_lends (lent x.form) (lent_by_type_parts parts) lends)))
    stmt_is mask (CaseParameter' d _ parts) fine c lends =
        let y = and_of (holds_of (WellFormed.is_dynamic p) (WellFormed.named p l.proc d)) (WellFormed.fine_type_parts p l.proc parts) fine in
        let n = dynamic_named d y.0 in
        let inner = registers p lay mine (assigned_type_parts parts) in
        follows_mask w l {low_need = 1} {less = inner} (omega arith) (not_assigned mask (assigned_type_parts parts) c)
        (type_case_is (ParameterType w l right vars) is_tag (steady_parameter_type w l right vars) (λ t i r there. follows_is_tag w l right vars t i r (descriptor p lay mine r) there (vars.descriptor r) steady) (parameter_type (designated p calls runs d)) (tag_of (named p lay mine d)) parts inner y.1
        (follows_parameter_type w l right vars (whole_of d) n.0 (designated p calls runs d) (legal_named d (Dynamic n.0) n.1) steady (unpaid (named_is d (Dynamic n.0) n.1 (at_of_whole d (left_lends (lent_whole d) (lent_by_type_parts parts) lends))))) (types_are inner parts y.1 (λ v e. e) (right_lends (lent_whole d) (lent_by_type_parts parts) lends)))

    pub row_is : (mask : Mask) {m : _} (r : Row_of-Stmt m) → WellFormed.fine_row p l.proc r ≡ true → Covers mask (assigned_all r) → Lends (lent_by_all r) → Follows w l 1 fuel mask (Given w l) Always (effects p calls runs fuel r) (deeds p lay mine r)
    row_is mask end_of-Stmt fine c lends = follows_give w l tt tt (λ n f s k. tt)
    row_is mask (more_of-Stmt s rest) fine c lends =
        let y = and_of (WellFormed.fine p l.proc s) (WellFormed.fine_row p l.proc rest) fine in
        let more = row_is mask rest y.1 (λ x e. c x (right_of (in_register p lay mine (variable_of p lay mine x).site) (assigned s x) (assigned_all rest x) e)) (right_lends (lent_by s) (lent_by_all rest) lends) in
        follows_bind w l steady (stmt_is mask s y.0 (λ x e. c x (left_of (in_register p lay mine (variable_of p lay mine x).site) (assigned s x) (assigned_all rest x) e)) (left_lends (lent_by s) (lent_by_all rest) lends)) (λ u. more.grows) (λ a b. follows_known w l (λ n f s k. k.0) more)

    alternatives_are : (mask : Mask) {m : _} (parts : Row_of-Branch m) (last : Mask) (other : Deed) (low : Low (Unit {0})) → WellFormed.fine_branches p l.proc parts ≡ true → Covers mask (either (assigned_branches parts) last) → Lends (lent_by_branches parts)
        → ((inner : Mask) → Covers inner last → Follows w l 1 fuel inner (Given w l) Always other low) → Follows w l 1 fuel mask (Given w l) Always (otherwise (branches p calls runs fuel parts) other) (alternatives p lay mine parts last low)
    alternatives_are mask end_of-Branch last other low fine c lends go = go mask c
    alternatives_are mask (more_of-Branch x _ body rest) last other low fine c lends go =
        let lends2 = right_lends (lent x.form) (either (lent_by_all body) (lent_by_branches rest)) lends in
        let y = and_of (gives_number (WellFormed.checked_form p l.proc x)) (WellFormed.fine_row p l.proc body && WellFormed.fine_branches p l.proc rest) fine in
        let y2 = and_of (WellFormed.fine_row p l.proc body) (WellFormed.fine_branches p l.proc rest) y.1 in
        let g = number_form (WellFormed.checked_form p l.proc x) y.0 in
        let few = registers p lay mine (either (assigned_all body) (either (assigned_branches rest) last)) in
        follows_same w l (test (value p calls runs x.form) >>= λ ok. if ok then effects p calls runs fuel body else otherwise (branches p calls runs fuel rest) other) (otherwise (try (test (value p calls runs x.form)) (effects p calls runs fuel body) (branches p calls runs fuel rest)) other)
        (otherwise_is (test (value p calls runs x.form)) (effects p calls runs fuel body) other (branches p calls runs fuel rest))
        (follows_mask w l {low_need = 1} {less = few} (omega arith) (not_assigned mask (either (assigned_all body) (either (assigned_branches rest) last)) (λ v e. c v (regroup_mask (in_register p lay mine (variable_of p lay mine v).site) (assigned_all body v) (assigned_branches rest v) (last v) e)))
        (follows_choose w l few (test (value p calls runs x.form)) (expr p lay mine x.form).test (effects p calls runs fuel body) (otherwise (branches p calls runs fuel rest) other) (deeds p lay mine body) (alternatives p lay mine rest last low) steady
        (forks_test w l (value p calls runs x.form) (checked_shows x g.0 g.1 (left_lends (lent x.form) (either (lent_by_all body) (lent_by_branches rest)) lends)).test)
        (row_is few body y2.0 (λ v e. left_of (in_register p lay mine (variable_of p lay mine v).site) (assigned_all body v) (assigned_branches rest v || last v) e) (left_lends (lent_by_all body) (lent_by_branches rest) lends2))
        (alternatives_are few rest last other low y2.1 (λ v e. right_of (in_register p lay mine (variable_of p lay mine v).site) (assigned_all body v) (assigned_branches rest v || last v) e) (right_lends (lent_by_all body) (lent_by_branches rest) lends2) go)))

    rounds_are : (mask : Mask) {m : _} (parts : Row_of-Branch m) → WellFormed.fine_branches p l.proc parts ≡ true → Covers mask (assigned_branches parts) → Lends (lent_by_branches parts) → Rounded w l (cond (has_branch parts) 0 1) fuel mask (Given w l) (branches p calls runs fuel parts) (guarded_rounds p lay mine parts)
    rounds_are mask end_of-Branch fine c lends = rounds_none w l
    rounds_are mask (more_of-Branch x _ body rest) fine c lends =
        let lends2 = right_lends (lent x.form) (either (lent_by_all body) (lent_by_branches rest)) lends in
        let y = and_of (gives_number (WellFormed.checked_form p l.proc x)) (WellFormed.fine_row p l.proc body && WellFormed.fine_branches p l.proc rest) fine in
        let y2 = and_of (WellFormed.fine_row p l.proc body) (WellFormed.fine_branches p l.proc rest) y.1 in
        let g = number_form (WellFormed.checked_form p l.proc x) y.0 in
        rounds_more w l mask (test (value p calls runs x.form)) (branches p calls runs fuel rest) (effects p calls runs fuel body) (record { test = (expr p lay mine x.form).test; body = deeds p lay mine body }) (guarded_rounds p lay mine rest) steady
        (forks_test w l (value p calls runs x.form) (checked_shows x g.0 g.1 (left_lends (lent x.form) (either (lent_by_all body) (lent_by_branches rest)) lends)).test)
        (row_is mask body y2.0 (λ v e. c v (left_of (in_register p lay mine (variable_of p lay mine v).site) (assigned_all body v) (assigned_branches rest v) e)) (left_lends (lent_by_all body) (lent_by_branches rest) lends2))
        (rounds_any (has_branch rest) (rounds_are mask rest y2.1 (λ v e. c v (right_of (in_register p lay mine (variable_of p lay mine v).site) (assigned_all body v) (assigned_branches rest v) e)) (right_lends (lent_by_all body) (lent_by_branches rest) lends2)))

    types_are : (mask : Mask) {m : _} (parts : Row_of-TypePart m) → WellFormed.fine_type_parts p l.proc parts ≡ true → Covers mask (assigned_type_parts parts) → Lends (lent_by_type_parts parts)
        → Bodies w l fuel (Given w l) mask steady (type_deeds parts) (type_bodies p lay mine parts)
    types_are mask end_of-TypePart fine c lends = tt
    types_are mask (more_of-TypePart r _ body rest) fine c lends =
        let y = and_of (is_record_type p.types r) (WellFormed.fine_row p l.proc body && WellFormed.fine_type_parts p l.proc rest) fine in
        let y2 = and_of (WellFormed.fine_row p l.proc body) (WellFormed.fine_type_parts p l.proc rest) y.1 in (
          row_is mask body y2.0 (λ v e. c v (left_of (in_register p lay mine (variable_of p lay mine v).site) (assigned_all body v) (assigned_type_parts rest v) e)) (left_lends (lent_by_all body) (lent_by_type_parts rest) lends),
          types_are mask rest y2.1 (λ v e. c v (right_of (in_register p lay mine (variable_of p lay mine v).site) (assigned_all body v) (assigned_type_parts rest v) e)) (right_lends (lent_by_all body) (lent_by_type_parts rest) lends),
        )

    bodies_are : (mask : Mask) {m : _} (parts : Row_of-CasePart m) → WellFormed.fine_case_parts p l.proc parts ≡ true → Covers mask (assigned_case_parts parts) → Lends (lent_by_case_parts parts)
        → Bodies w l fuel (Given w l) mask steady (deeds_in parts) (case_bodies p lay mine parts)
    bodies_are mask end_of-CasePart fine c lends = tt
    bodies_are mask (more_of-CasePart labels _ body rest) fine c lends =
        let y = and_of (all label_fine labels) (WellFormed.fine_row p l.proc body && WellFormed.fine_case_parts p l.proc rest) fine in
        let y2 = and_of (WellFormed.fine_row p l.proc body) (WellFormed.fine_case_parts p l.proc rest) y.1 in (
          row_is mask body y2.0 (λ v e. c v (left_of (in_register p lay mine (variable_of p lay mine v).site) (assigned_all body v) (assigned_case_parts rest v) e)) (left_lends (lent_by_all body) (lent_by_case_parts rest) lends),
          bodies_are mask rest y2.1 (λ v e. c v (right_of (in_register p lay mine (variable_of p lay mine v).site) (assigned_all body v) (assigned_case_parts rest v) e)) (right_lends (lent_by_all body) (lent_by_case_parts rest) lends),
        )

  pub list_is : (mask : Mask) (ss : List Stmt) → all (WellFormed.fine p l.proc) ss ≡ true → ((x : ℕ) → mask x ≡ true) → Lends (lent_by_list ss) → Follows w l 1 fuel mask (Given w l) Always (effects_of p calls runs fuel ss) (deeds_of p lay mine ss)
  list_is mask [] fine every lends = follows_give w l tt tt (λ n f s k. tt)
  list_is mask (s ∷ ss) fine every lends =
      let y = and_of (WellFormed.fine p l.proc s) (all (WellFormed.fine p l.proc) ss) fine in
      let more = list_is mask ss y.1 every (right_lends (lent_by s) (lent_by_list ss) lends) in
      follows_bind w l steady (stmt_is mask s y.0 (λ x e. every x) (left_lends (lent_by s) (lent_by_list ss) lends)) (λ u. more.grows) (λ a b. follows_known w l (λ n f s k. k.0) more)
