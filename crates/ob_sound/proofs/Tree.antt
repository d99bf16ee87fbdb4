-- The tree: each expression, designator and statement does what its typing says.
use Rattle.std.proofs.Common.{◌≡◌, ℕ, zero, suc, ◌+◌, ◌^◌, List, [], ◌∷◌, length, Bool, true, false, ◌&&◌, Option, Some, None, refl, sym, ap, ◌∙◌, subst, arith}
use Rattle.std.specs.Prelude.{slice_get, slice_index_or, nat_lt}
use Rattle.run_laws.specs.Turns.{State, Gives, give}
use Rattle.ob_types.specs.Layout.{signature_of, extends}
use Rattle.ob_types.specs.Store.{Cell, Bits, Code, Globals, Frames, Strings, Store, Act, Handed, At, Here}
use Rattle.ob_types.specs.Operators.{labels_have}
use Rattle.ob_types.specs.Expressions.{type_test, load, is_of, Calls, called_by_value}
use Rattle.ob_types.specs.Statements.{done}
use Rattle.ob_types.specs.Meaning.{procedure_of, globals_of, locals_of, texts_of, text_number, kind_in, length_of_kind, element_kind, record_of_kind, is_byte, variable_of, base_of, value, linked, link, designated, selected, select, called, argument, arguments, effect, effects, branches, case_parts, type_parts, effects_of, answer}
use Rattle.ob_types.specs.declared.types.TypeKind.{TypeKind}
use Rattle.ob_types.specs.declared.types.Formal.{Formal}
use Rattle.ob_types.specs.declared.tree.Binary.TheVariants.{Add, Subtract, Union, Difference}
use Rattle.ob_types.specs.declared.tree.Expr.{Expr, Literal, Routine, Load, Guard', Unary', Chain', Compare', CompareTexts', In', IsPointer', IsParameter, Byte', Length, Call', Row_of-Link, end_of-Link, more_of-Link}
use Rattle.ob_types.specs.declared.tree.Link.{Link, Operate, And, Or, Element, Elements'}
use Rattle.ob_types.specs.declared.tree.Base.{Base}
use Rattle.ob_types.specs.declared.tree.Base.TheVariants.{Done, Global, Local, Parameter, Text}
use Rattle.ob_types.specs.declared.tree.Designator.{Designator, Whole, Part', Row_of-Selector, end_of-Selector, more_of-Selector}
use Rattle.ob_types.specs.declared.tree.Selector.{Selector, Index, Field, Dereference, Narrow}
use Rattle.ob_types.specs.declared.tree.Call.{Call, Direct', Indirect', Row_of-Argument, end_of-Argument, more_of-Argument}
use Rattle.ob_types.specs.declared.tree.Argument.{Argument, ByValue, ByPlace, ByRecord, ByOpen}
use Rattle.ob_types.specs.declared.statements.Checked.{Checked}
use Rattle.ob_types.specs.declared.statements.Stmt.{Stmt, Assign, CopyArray, CopyRecord, Increase, Decrease, Include, Exclude, New, Assert, OutChar, OutInt, OutString, OutLn, InChar, If', While', Repeat', For', Case', CasePointer', CaseParameter', Row_of-Stmt, end_of-Stmt, more_of-Stmt, Row_of-Branch, end_of-Branch, more_of-Branch, Row_of-CasePart, end_of-CasePart, more_of-CasePart, Row_of-TypePart, end_of-TypePart, more_of-TypePart}
use Rattle.ob_types.specs.declared.statements.Stmt.{Call as Invoke}
use Rattle.ob_types.specs.declared.program.Program.{Program}
use Rattle.ob_types.specs.Forms.{Form, Zero, Truth, Small, Number, Exactly, repeated, joined, all, types_fine, forms}
use Rattle.ob_types.specs.LegalTypes.{is_record_type}
use Rattle.ob_types.specs.WellFormed
use Rattle.ob_types.specs.WellFormed.{has_branch, is_step, lengths_fit, is_whole, label_fine, Named, Cells, Of, OpenOf, Dynamic, Characters, Elementary, Letter, provided, is_number, is_small, is_truth, unary_form, binary_form, is_pointer, is_code, holds_of, with_some, gives_number, gives_pointer, is_equality, comparable, literal_by, literal, is_writable, element_by, open_element, record_by, is_char, is_empty, matched, pointed, changes, is_full, well_formed}
use Rattle.ob_types.proofs.Tests.{none_some, some_same, no, and_of}
use Rattle.ob_sound.proofs.Typed.{Any, Fits, Good, HasForm, Older, Sound, Stands, Typed, fits_older, global_forms, lt_of, names_older, older_trans, s_bind, s_give, s_given, s_older, s_repeat, string_forms}
use Rattle.ob_sound.proofs.Constructs.{does_also, Does, Means, Points, holds_is, m_both, m_byte, m_compared, m_either, m_guards, m_in, m_length, m_load, m_of, m_provided, m_texts, m_two, m_unary, m_with, m_with_range, p_field, p_index, p_narrowed, p_object, p_of, p_provided, p_some, s_parameter_type, s_pointer_type, s_type_test}
use Rattle.ob_sound.proofs.Deeds.{d_assert, d_assign, d_case, d_change, d_change_set, d_copy_array, d_copy_record, d_for, d_in_char, d_new, d_out_char, d_out_int, d_out_string, d_until, given_is, s_otherwise, s_out_char, s_test, s_try, s_type_case, suits_fits}
use Rattle.ob_sound.proofs.Handing.{CallsSound, AllTaken, Answers, Taken, TakenBy, all_taken_older, globals_are, m_result, parameter_names, s_called, s_called_value, strings_are, t_by_open, t_by_place, t_by_record, t_by_value, taken_at, taken_older, through_is, variable_at}

module _ (p : Program) where
  module _ (fine : types_fine p.types ≡ true) where
    module _ (calls : Calls) (sound_calls : CallsSound p fine calls) where
      module _ (here : Here) (fs : List (List Form)) (tags : List ℕ)
          (frame : slice_index_or fs here.frame [] ≡ joined (forms p.types) (locals_of (procedure_of p here.procedure)))
          (args : AllTaken p fine fs tags (procedure_of p here.procedure).formals here.arguments) where
        pub t_done : (more : List ℕ) → Stands p fs more done (Truth ∷ [])
        unfolding global_forms
        t_done more zero k at = at
        t_done more (suc i) k at = none_some k at

        pub t_literal : (n : ℕ) → Means p fine fs tags (literal n) (give (Bits n))
        t_literal zero = m_of p fine Zero (s_give p (Bits 0) (λ _ _. refl))
        t_literal (suc zero) = m_of p fine Truth (s_give p (Bits 1) (λ _ _. omega arith))
        t_literal (suc (suc n)) = by (nat_lt (suc (suc n)) 256) (nat_lt (suc (suc n)) (2 ^ 64)) refl refl
          where
            by : (a b : Bool) → nat_lt (suc (suc n)) 256 ≡ a → nat_lt (suc (suc n)) (2 ^ 64) ≡ b → Means p fine fs tags (literal_by a b) (give (Bits (suc (suc n))))
            by true b e g = m_of p fine Small (s_give p (Bits (suc (suc n))) (λ _ _. lt_of p (suc (suc n)) 256 e))
            by false true e g = m_of p fine Number (s_give p (Bits (suc (suc n))) (λ _ _. lt_of p (suc (suc n)) (2 ^ 64) g))
            by false false e g = record { sound = λ k is. none_some k is }

        pub t_text : (i j : ℕ) (k : Form) (xs : List ℕ) → slice_get (texts_of p.procedures) i ≡ Some xs → slice_get (repeated (suc (length xs)) (Small ∷ [])) j ≡ Some k → slice_get (slice_index_or (string_forms p) i []) (0 + j) ≡ Some k
        t_text i j k xs at h = let e : j ≡ 0 + j = omega arith in subst (λ m. slice_get (slice_index_or (string_forms p) i []) m ≡ Some k) e (subst (λ ys. slice_get ys j ≡ Some k) (sym (strings_are p fine calls sound_calls i xs at)) h)

        -- where a designator begins
        pub t_base : (b : Base) → Points p fine fs tags (WellFormed.base_named p here.procedure b) (base_of p calls here b)
        t_base Done = p_of p fine (Cells Truth false) (s_give p (At done) (λ more e. (t_done more, λ bad. no bad)))
        t_base (Global m v) = p_some p fine (slice_get (globals_of p m) v) (λ k. Some (Of k true)) (λ k at. p_of p fine (Of k true) (s_give p (variable_of p Globals (suc m) (globals_of p m) v) (λ more e. ((λ i f h. variable_at p fine calls sound_calls (slice_index_or (global_forms p) (suc m) []) (globals_of p m) v k i f (globals_are p fine calls sound_calls m) at h), λ _. refl))))
        t_base (Local v) = p_some p fine (slice_get (locals_of (procedure_of p here.procedure)) v) (λ k. Some (Of k true)) (λ k at. p_of p fine (Of k true) (s_give p (variable_of p Frames here.frame (locals_of (procedure_of p here.procedure)) v) (λ more e. ((λ i f h. variable_at p fine calls sound_calls (slice_index_or fs here.frame []) (locals_of (procedure_of p here.procedure)) v k i f frame at h), λ _. refl))))
        t_base (Parameter i) = p_some p fine (slice_get (procedure_of p here.procedure).formals i) (λ x. WellFormed.parameter_by p x.mode x.type_number x.variable) (λ x at. record {
          sound = λ n is. let t = taken_at p fine fs tags (procedure_of p here.procedure).formals here.arguments args i x at in
              s_given p (slice_get here.arguments i) t.0 t.1 (λ more e. names_older p fs tags more e n t.0 (parameter_names p fine fs tags x.mode x.type_number x.variable t.0 n is t.2));
        })
        t_base (Text i) = p_some p fine (slice_get (texts_of p.procedures) (text_number p here.procedure i)) (λ xs. Some (Characters (suc (length xs)))) (λ xs at. p_of p fine (Characters (suc (length xs))) (s_give p (At (record { area = Strings; object = text_number p here.procedure i; cell = 0 })) (λ more e j k h. t_text (text_number p here.procedure i) j k xs at h)))

        -- it has the type that it says
        pub p_kind : {d : Act Handed} (kind : TypeKind) (o : Option Named) → Points p fine fs tags o d → Points p fine fs tags (with_some o (WellFormed.of_kind p kind)) d
        p_kind kind o q = p_some p fine o (WellFormed.of_kind p kind) (λ n is. p_provided p fine (WellFormed.has_kind p kind n) (Some n) (λ _. p_of p fine n (q.sound n is)))

        -- a type test, where the record type is there
        t_of_type : {x : Act (Option ℕ)} (r : ℕ) (ok : Bool) → (ok ≡ true → Sound p fs tags (Any p) x) → Means p fine fs tags (provided (is_record_type p.types r) (provided ok (Some Truth))) (type_test (extends p.types) x r)
        t_of_type r ok sound = m_provided p fine (is_record_type p.types r) (provided ok (Some Truth)) (λ there. m_provided p fine ok (Some Truth) (λ h. m_of p fine Truth (s_type_test p fine (extends p.types) r (sound h))))

        mutual
          pub t_value : (e : Expr) → Means p fine fs tags (WellFormed.form p here.procedure e) (value p calls here e)
          t_value (Literal n) = t_literal n
          t_value (Routine g) = m_provided p fine (WellFormed.callable p g) (Some (Exactly g)) (λ h. m_of p fine (Exactly g) (s_give p (Code g) (λ _ _. refl)))
          t_value (Load d) = m_load p fine (WellFormed.named p here.procedure d) (t_named d)
          t_value (Guard' _ d rs) = m_guards p fine here.procedure rs (with_some (WellFormed.named p here.procedure d) (WellFormed.scalar_in p)) (load (designated p calls here d)) (m_load p fine (WellFormed.named p here.procedure d) (t_named d))
          t_value (Unary' op _ x) = m_unary p fine op (WellFormed.form p here.procedure x) (t_value x)
          t_value (Chain' _ x _ links) = t_linked _ links (WellFormed.form p here.procedure x) (value p calls here x) (t_value x)
          t_value (Compare' r _ x _ y) = m_compared p fine r (WellFormed.form p here.procedure x) (WellFormed.form p here.procedure y) (t_value x) (t_value y)
          t_value (CompareTexts' r _ d _ e) = m_texts p fine r (length_of_kind (kind_in d)) (length_of_kind (kind_in e)) (WellFormed.named p here.procedure d) (WellFormed.named p here.procedure e) (t_named d) (t_named e)
          t_value (In' _ x _ s) = m_in p fine here.procedure (WellFormed.form p here.procedure x) (WellFormed.form p here.procedure s) (t_value x) (t_value s)
          t_value (IsPointer' _ x r) = t_of_type r (gives_pointer (WellFormed.form p here.procedure x)) (λ h. s_pointer_type p fine (WellFormed.form p here.procedure x) h (t_value x))
          t_value (IsParameter d r) = t_of_type r (holds_of (WellFormed.is_dynamic p) (WellFormed.named p here.procedure d)) (λ h. s_parameter_type p fine (WellFormed.named p here.procedure d) h (t_named d))
          t_value (Byte' _ x) = m_byte p fine here.procedure (WellFormed.form p here.procedure x) (t_value x)
          t_value (Length d) = m_length p fine (length_of_kind (kind_in d)) (WellFormed.named p here.procedure d) (t_named d)
          t_value (Call' _ c) = m_provided p fine (WellFormed.call_suits p here.procedure c) (WellFormed.call_form p here.procedure c) (λ h. m_result p fine (WellFormed.call_form p here.procedure c) (t_call c h))

          pub t_linked : (m : _) (row : Row_of-Link m) (o : Option Form) (x : Act Cell) → Means p fine fs tags o x → Means p fine fs tags (WellFormed.linked_form p here.procedure row o) (linked p calls here row x)
          t_linked m end_of-Link o x q = q
          t_linked m (more_of-Link l rest) o x q = t_linked _ rest (WellFormed.link_form p here.procedure l o) (link p calls here l x) (t_link l o x q)

          pub t_link : (l : Link) (o : Option Form) (x : Act Cell) → Means p fine fs tags o x → Means p fine fs tags (WellFormed.link_form p here.procedure l o) (link p calls here l x)
          t_link (Operate op y) o x q = m_two p fine here.procedure op o (WellFormed.form p here.procedure y) q (t_value y)
          t_link (And y) o x q = m_both p fine o (WellFormed.form p here.procedure y) q (t_value y)
          t_link (Or y) o x q = m_either p fine o (WellFormed.form p here.procedure y) q (t_value y)
          t_link (Element y) o x q = m_with p fine here.procedure o (WellFormed.form p here.procedure y) q (t_value y)
          t_link (Elements' _ y _ z) o x q = m_with_range p fine here.procedure o (WellFormed.form p here.procedure y) (WellFormed.form p here.procedure z) q (t_value y) (t_value z)

          pub t_named : (d : Designator) → Points p fine fs tags (WellFormed.named p here.procedure d) (designated p calls here d)
          t_named (Whole b kind) = p_kind kind (WellFormed.base_named p here.procedure b) (t_base b)
          t_named (Part' _ b kind _ selectors) = p_kind kind (WellFormed.selected_named p here.procedure selectors (WellFormed.base_named p here.procedure b)) (t_selected _ selectors (WellFormed.base_named p here.procedure b) (base_of p calls here b) (t_base b))

          pub t_selected : (m : _) (row : Row_of-Selector m) (o : Option Named) (d : Act Handed) → Points p fine fs tags o d → Points p fine fs tags (WellFormed.selected_named p here.procedure row o) (selected p calls here row d)
          t_selected m end_of-Selector o d q = q
          t_selected m (more_of-Selector s rest) o d q = t_selected _ rest (WellFormed.select_named p here.procedure s o) (select p calls here s d) (t_select s o d q)

          pub t_select : (s : Selector) (o : Option Named) (d : Act Handed) → Points p fine fs tags o d → Points p fine fs tags (WellFormed.select_named p here.procedure s o) (select p calls here s d)
          t_select (Index n element x) o d q = p_index p fine here.procedure n element o (WellFormed.form p here.procedure x) q (t_value x)
          t_select (Field r field) o d q = p_field p fine r field o q
          t_select (Dereference rs) o d q = p_object p fine here.procedure (WellFormed.guarded_form p rs (with_some o (WellFormed.scalar_in p))) (m_guards p fine here.procedure rs (with_some o (WellFormed.scalar_in p)) (load d) (m_load p fine o q))
          t_select (Narrow r) o d q = p_narrowed p fine here.procedure r o q

          pub t_call : (c : Call) → WellFormed.call_suits p here.procedure c ≡ true → Sound p fs tags (Answers p fine (WellFormed.call_form p here.procedure c)) (called p calls here c)
          t_call (Direct' g _ row) h =
              let y = and_of (WellFormed.callable p g) (WellFormed.all_suit p here.procedure row (procedure_of p g).formals) h in
              s_called p fine calls sound_calls g y.0 (t_arguments _ row (procedure_of p g).formals y.1)
          t_call (Indirect' d _ row) h =
              let k = holds_is p fine (WellFormed.suits_through p (WellFormed.all_suit p here.procedure row)) (with_some (WellFormed.named p here.procedure d) (WellFormed.scalar_in p)) h in
              let j = through_is p fine calls sound_calls (WellFormed.all_suit p here.procedure row) k.0 k.2 in
              subst (λ o. Sound p fs tags (Answers p fine (with_some o (WellFormed.result_through p))) (called_by_value here.procedure calls (load (designated p calls here d)) (arguments p calls here row))) (sym (k.1 ∙ ap Some j.1))
              (s_called_value p fine calls sound_calls here.procedure j.0 (subst (λ f. Sound p fs tags (HasForm p f) (load (designated p calls here d))) j.1 ((m_load p fine (WellFormed.named p here.procedure d) (t_named d)).sound k.0 k.1)) (t_arguments _ row (signature_of p.types j.0).formals j.2))

          pub t_argument : (a : Argument) (x : Formal) → WellFormed.argument_suits p here.procedure a x ≡ true → Sound p fs tags (λ t h. Taken p fine fs t x.mode x.type_number x.variable h) (argument p calls here a)
          t_argument (ByValue e) x h = t_by_value p fine x.mode x.type_number x.variable (WellFormed.form p here.procedure e) h (t_value e)
          t_argument (ByPlace d) x h = t_by_place p fine x.mode x.type_number x.variable (WellFormed.named p here.procedure d) h (t_named d)
          t_argument (ByRecord d) x h = t_by_record p fine x.mode x.type_number (record_of_kind (kind_in d)) x.variable (WellFormed.named p here.procedure d) h (t_named d)
          t_argument (ByOpen d) x h = t_by_open p fine x.mode x.type_number x.variable (length_of_kind (kind_in d)) (WellFormed.named p here.procedure d) h (t_named d)

          pub t_arguments : (m : _) (row : Row_of-Argument m) (xs : List Formal) → WellFormed.all_suit p here.procedure row xs ≡ true → Sound p fs tags (TakenBy p fine calls sound_calls fs xs) (arguments p calls here row)
          t_arguments m end_of-Argument [] h = s_give p [] (λ _ _. tt)
          t_arguments m end_of-Argument (x ∷ xs) h = no h
          t_arguments m (more_of-Argument a rest) [] h = no h
          t_arguments m (more_of-Argument a rest) (x ∷ xs) h =
              let parts = and_of (WellFormed.argument_suits p here.procedure a x) (WellFormed.all_suit p here.procedure rest xs) h in
              s_bind p (t_argument a x parts.0) (λ t1 y e1 t. s_bind p (s_older p e1 (t_arguments _ rest xs parts.1)) (λ t2 ys e2 ts. s_give p (y ∷ ys) (λ t3 e3. (taken_older p fine fs t1 t3 (older_trans t1 t2 t3 e2 e3) x.mode x.type_number x.variable y t, all_taken_older p fine fs t2 t3 e3 xs ys ts))))

        -- how a proof that follows an expression learns what its value is: the store is typed afterwards, and the value fits
        pub value_fits : (e : Expr) (k : Form) → WellFormed.form p here.procedure e ≡ Some k → (s t : State Store) (c : Cell) → Older tags s.store.tags → Typed p fs s.store → value p calls here e s ≡ Gives c t → Typed p fs t.store × Older s.store.tags t.store.tags × Fits p t.store.tags k c
        value_fits e k form s t c older typed is = subst (λ end. Good p fs (HasForm p k) s.store.tags end) is (((t_value e).sound k form).by s older typed)

        -- statements

        pub t_checked : (x : Checked) → Means p fine fs tags (WellFormed.checked_form p here.procedure x) (value p calls here x.form)
        t_checked x = m_provided p fine (WellFormed.kind_suits p x.kind (WellFormed.form p here.procedure x.form)) (WellFormed.form p here.procedure x.form) (λ _. t_value x.form)

        module _ (fuel : ℕ) where
          abbrev pub name_of : Designator → Option Named
          name_of d = WellFormed.named p here.procedure d

          abbrev pub form_in : Checked → Option Form
          form_in x = WellFormed.checked_form p here.procedure x

          mutual
            pub t_effect : (s : Stmt) → Does p fine fs tags (WellFormed.fine p here.procedure s) (effect p calls here fuel s)
            t_effect (Assign d x) = d_assign p fine (name_of d) (form_in x) (t_named d) (t_checked x)
            t_effect (CopyArray d e) = does_also p fine (lengths_fit (length_of_kind (kind_in d)) (length_of_kind (kind_in e))) (d_copy_array p fine here.procedure (length_of_kind (kind_in d)) (length_of_kind (kind_in e)) (element_kind (kind_in d)) (name_of d) (name_of e) (t_named d) (t_named e))
            t_effect (CopyRecord d e) = d_copy_record p fine (record_of_kind (kind_in d)) (name_of d) (name_of e) (t_named d) (t_named e)
            t_effect (Increase d x) = d_change p fine here.procedure Add (λ v n. (_, refl)) (is_byte (kind_in d)) (name_of d) (form_in x) (t_named d) (t_checked x)
            t_effect (Decrease d x) = d_change p fine here.procedure Subtract (λ v n. (_, refl)) (is_byte (kind_in d)) (name_of d) (form_in x) (t_named d) (t_checked x)
            t_effect (Include d x) = d_change_set p fine here.procedure Union (λ v n. (_, refl)) (name_of d) (form_in x) (t_named d) (t_checked x)
            t_effect (Exclude d x) = d_change_set p fine here.procedure Difference (λ v n. (_, refl)) (name_of d) (form_in x) (t_named d) (t_checked x)
            t_effect (New d) = d_new p fine here.procedure (record_of_kind (kind_in d)) (name_of d) (t_named d)
            t_effect (Assert x) = d_assert p fine here.procedure (form_in x) (t_checked x)
            t_effect (OutChar x) = d_out_char p fine (form_in x) (t_checked x)
            t_effect (OutInt x n) = d_out_int p fine (form_in x) (form_in n) (t_checked x) (t_checked n)
            t_effect (OutString d) = d_out_string p fine (length_of_kind (kind_in d)) (name_of d) (t_named d)
            t_effect OutLn = record { sound = λ h. s_out_char p fine Small refl (s_give p (Bits 10) (λ _ _. omega arith)) }
            t_effect (InChar d) = d_in_char p fine (name_of d) (t_named d)
            t_effect (Invoke c) = record { sound = λ h. s_bind p (t_call c h) (λ more r e u. s_give p tt (λ _ _. tt)) }
            t_effect (If' _ parts _ other) = record { sound = λ h. let y = and_of (WellFormed.fine_branches p here.procedure parts) (WellFormed.fine_row p here.procedure other) h in s_otherwise p fine ((t_branches _ parts).sound y.0) ((t_effects _ other).sound y.1) }
            t_effect (While' _ parts) = record { sound = λ h. let y = and_of (has_branch parts) (WellFormed.fine_branches p here.procedure parts) h in s_repeat p fuel (branches p calls here fuel parts) ((t_branches _ parts).sound y.1) }
            t_effect (Repeat' _ body x) = d_until p fine fuel (WellFormed.fine_row p here.procedure body) (form_in x) (t_effects _ body) (t_checked x)
            t_effect (For' _ d x y step _ body) = does_also p fine (is_step step) (does_also p fine (is_whole d) (d_for p fine fuel step (name_of d) (form_in x) (form_in y) (WellFormed.fine_row p here.procedure body) (t_named d) (t_checked x) (t_checked y) (t_effects _ body)))
            t_effect (Case' x _ parts) = d_case p fine here.procedure (form_in x) (WellFormed.fine_case_parts p here.procedure parts) (t_checked x) (λ v. t_case_parts v _ parts)
            t_effect (CasePointer' x _ parts) = record { sound = λ h. let y = and_of (gives_pointer (form_in x)) (WellFormed.fine_type_parts p here.procedure parts) h in s_type_case p fine (s_pointer_type p fine (form_in x) y.0 (t_checked x)) (λ t. (t_type_parts t _ parts).sound y.1) }
            t_effect (CaseParameter' d _ parts) = record { sound = λ h. let y = and_of (holds_of (WellFormed.is_dynamic p) (name_of d)) (WellFormed.fine_type_parts p here.procedure parts) h in s_type_case p fine (s_parameter_type p fine (name_of d) y.0 (t_named d)) (λ t. (t_type_parts t _ parts).sound y.1) }

            pub t_effects : (m : _) (row : Row_of-Stmt m) → Does p fine fs tags (WellFormed.fine_row p here.procedure row) (effects p calls here fuel row)
            t_effects m end_of-Stmt = record { sound = λ h. s_give p tt (λ _ _. tt) }
            t_effects m (more_of-Stmt s rest) = record { sound = λ h. let y = and_of (WellFormed.fine p here.procedure s) (WellFormed.fine_row p here.procedure rest) h in s_bind p ((t_effect s).sound y.0) (λ more u e v. s_older p e ((t_effects _ rest).sound y.1)) }

            pub t_branches : (m : _) (row : Row_of-Branch m) → Does p fine fs tags (WellFormed.fine_branches p here.procedure row) (branches p calls here fuel row)
            t_branches m end_of-Branch = record { sound = λ h. s_give p false (λ _ _. tt) }
            t_branches m (more_of-Branch x _ body rest) = record {
              sound = λ h.
                  let y = and_of (gives_number (form_in x)) (WellFormed.fine_row p here.procedure body && WellFormed.fine_branches p here.procedure rest) h in
                  let z = and_of (WellFormed.fine_row p here.procedure body) (WellFormed.fine_branches p here.procedure rest) y.1 in
                  s_try p fine (s_test p fine (form_in x) y.0 (t_checked x)) ((t_effects _ body).sound z.0) ((t_branches _ rest).sound z.1);
            }

            pub t_case_parts : (v : ℕ) (m : _) (row : Row_of-CasePart m) → Does p fine fs tags (WellFormed.fine_case_parts p here.procedure row) (case_parts p calls here fuel v row)
            t_case_parts v m end_of-CasePart = record { sound = λ h. s_give p false (λ _ _. tt) }
            t_case_parts v m (more_of-CasePart labels _ body rest) = record {
              sound = λ h.
                  let y = and_of (all label_fine labels) (WellFormed.fine_row p here.procedure body && WellFormed.fine_case_parts p here.procedure rest) h in
                  let z = and_of (WellFormed.fine_row p here.procedure body) (WellFormed.fine_case_parts p here.procedure rest) y.1 in
                  s_try p fine (s_give p (labels_have v labels) (λ _ _. tt)) ((t_effects _ body).sound z.0) ((t_case_parts v _ rest).sound z.1);
            }

            pub t_type_parts : (t : Option ℕ) (m : _) (row : Row_of-TypePart m) → Does p fine fs tags (WellFormed.fine_type_parts p here.procedure row) (type_parts p calls here fuel t row)
            t_type_parts t m end_of-TypePart = record { sound = λ h. s_give p false (λ _ _. tt) }
            t_type_parts t m (more_of-TypePart r _ body rest) = record {
              sound = λ h.
                  let y = and_of (is_record_type p.types r) (WellFormed.fine_row p here.procedure body && WellFormed.fine_type_parts p here.procedure rest) h in
                  let z = and_of (WellFormed.fine_row p here.procedure body) (WellFormed.fine_type_parts p here.procedure rest) y.1 in
                  s_try p fine (s_give p (is_of (extends p.types) t r) (λ _ _. tt)) ((t_effects _ body).sound z.0) ((t_type_parts t _ rest).sound z.1);
            }

          pub t_effects_of : (ss : List Stmt) → all (WellFormed.fine p here.procedure) ss ≡ true → Sound p fs tags (Any p) (effects_of p calls here fuel ss)
          t_effects_of [] h = s_give p tt (λ _ _. tt)
          t_effects_of (s ∷ ss) h = let y = and_of (WellFormed.fine p here.procedure s) (all (WellFormed.fine p here.procedure) ss) h in s_bind p ((t_effect s).sound y.0) (λ more u e v. s_older p e (t_effects_of ss y.1))

        pub t_answer : (k : Option Form) (e : Option Checked) → WellFormed.answer_fine p here.procedure k e ≡ true → Sound p fs tags (Answers p fine k) (answer p calls here e)
        t_answer None None h = s_give p None (λ _ _. tt)
        t_answer (Some k) (Some x) h = let g = given_is p fine (WellFormed.checked_form p here.procedure x) (Some k) h in s_bind p ((t_checked x).sound g.0 g.2) (λ more c e f. s_give p (Some c) (λ most e2. fits_older p more most e2 k c (suits_fits p fine more g.0 k c (subst (λ b. WellFormed.suits p g.0 b ≡ true) (sym (some_same k g.1 g.3)) g.4) f)))
        t_answer None (Some x) h = no h
        t_answer (Some k) None h = no h
