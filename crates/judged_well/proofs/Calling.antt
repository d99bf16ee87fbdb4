-- Arguments, calls and the standard procedures.
use Rattle.std.proofs.Common.{◌≡◌, ℕ, suc, ◌^◌, List, [], ◌∷◌, length, Bool, true, false, not, ◌&&◌, ◌||◌, ◌==◌, Option, Some, None, refl, sym, ap, ap₂, ◌∙◌, subst, eq-eqb}
use Rattle.std.specs.Prelude.{nat_lt, is_some, option_map}
use Rattle.ob_types.specs.declared.tree.Unary.TheVariants as TheUnary
use Rattle.ob_types.specs.declared.tree.Binary.{Binary}
use Rattle.ob_types.specs.declared.tree.Binary.TheVariants as TheBinary
use Rattle.ob_types.specs.Forms.{all}
use Rattle.ob_types.specs.WellFormed.{provided, holds_of, with_some}
use Rattle.ob_types.proofs.Tests.{no, none_some, and_of, and_from}
use Rattle.ob_judge.specs.Judged.{Judged, Keeps, ◌>>=◌, ◌>>◌, rule}
use Rattle.ob_judge.specs.Shapes.{Shape, Integer, Boolean, Char, Byte, Set, Nil, Nothing, Array, Open, Record, Pointer, Procedure, Formals, none, one, same, assignable, record_extends, target_of, is_number, is_set, is_truth, is_scalar, is_pointer, element_of}
use Rattle.ob_judge.specs.Shapes.{Text as TextShape}
use Rattle.ob_judge.specs.Operators.{operated, is_char, is_text}
use Rattle.ob_judge.specs.Image.{Expr, Literal, Apply, AsByte, Length, Result, Call, Direct, Indirect, Argument, ByValue, ByPlace, ByRecord, ByOpen, Arguments, no_argument, next_argument, Designator, of_type, Statement, Checked}
use Rattle.ob_judge.specs.Image as Tree
use Rattle.ob_judge.specs.Scopes.{World, Source, Standard, Abs, Odd, Len, Lsl, Asr, Ror, Ord, Chr, Inc, Dec, Incl, Excl, New, Assert, OutChar, OutInt, OutString, OutLn, InChar}
use Rattle.ob_judge.specs.Operands.{What, Named as ThePlace, Valued, Chars, Code, Proper, Use, AsVariable, AsConstant, AsValue, Operand, operand, value, place_in, designator_of, checked, is_variable, is_read_only, is_narrowed, is_local_code}
use Rattle.ob_judge.specs.Operands.{form as form_of}
use Rattle.ob_judge.specs.Calls.{Given, stored, may_assign, is_chars, may_name, is_open_text, may_pass, as_reference, as_passed, bound, is_count, all_bound, call_of, called, number, assigned_to, function, proper, shifted, changed, set_changed, by_one, may_order, is_char_only, standard}
use Rattle.ob_judge.specs.Parts.{applied, is_procedure}
use Rattle.ob_judge.specs.Assignments.{is_call}
use Rattle.judged_tree.proofs.SameShapes.{same-self, same-is}
use Rattle.judged_well.specs.Forms.{Form, Zero, Truth, Small, Number, ToRecord, Routines, Named, is_writable, gives_number, changes, is_full}
use Rattle.judged_well.specs.Forms.{is_small as is_small_form}
use Rattle.judged_well.specs.Setting.{Setting, IsOrder}
use Rattle.judged_well.specs.Typing.{outline, form, designated, scalar, scalar_in, given_for, length_of_shape, array_of, any_array, argument_suits, all_suit, call_suits, call_form, place_suits, record_suits, open_suits, record_in, checked_form, shape_in, fine, takes, points_to, suits_through, result_through, is_byte, or_zero}
use Rattle.judged_well.specs.Standing.{is_whole, is_formal, is_result, Fits, as_done, as_whole, as_open, as_record, StandsAs, Stands, IsBegun, IsUsed, IsLast, IsValue, near_for, good, goods, Right}
use Rattle.judged_well.specs.Gives.{Gives}
use Rattle.judged_well.proofs.Judging.{keeps, breaks, and_then, by_rule, by_some}
use Rattle.judged_well.proofs.Values.{scalar_near}
use Rattle.judged_well.proofs.Places.{Designates, place_designates, unnarrowed, no_pointer, compound, texts, fits_array, fits_open}
use Rattle.judged_well.specs.Standing.{is_compound}
use Rattle.judged_well.proofs.Operating.{or_cases, number_near, numbers, sets, truths, truth_number, truth_shape, set_shape, char_value, on_two}
use Rattle.judged_well.proofs.Storing.{checked_is, t_stored, t_stored_checked}
use Rattle.judged_well.specs.Standing.{is_plain}

-- ---- rules on variables

both_rules : {B : Type 0} {Q : B → Type 0} {m : Judged B} (at : ℕ) (b c : Bool) → (b ≡ true → c ≡ true → Gives Q m) → Gives Q ((rule 40 at b >> rule 33 at c) >> m)
both_rules at true true next = next refl refl
both_rules {Q = Q} at true false next = breaks Q 33 at
both_rules {Q = Q} at false c next = breaks Q 40 at

pub not_true : (b : Bool) → not b ≡ true → b ≡ false
not_true true h = no h
not_true false h = refl

module _ (e : Setting) (order : IsOrder e) where
  abbrev formed : Expr → Option Form
  formed x = form e (outline e) x

  -- what a variable that may be written designates
  abbrev pub Written : Operand → Type 0
  Written x = (n : Named) × (designated e (outline e) (designator_of x) ≡ Some n) × Fits n x.shape × (is_writable n ≡ true)

  from_claims : (s : Shape) (r t k : Bool) (what : What) → Designates e order s (AsVariable r t k) what → r ≡ false → (n : Named) × (designated e (outline e) (of_type (place_in what) s) ≡ Some n) × Fits n s × (is_writable n ≡ true)
  from_claims s r t k what d i = (d.0, d.1, d.3, (d.4).0 i)

  pub written_unnarrowed : (x : Operand) → Stands e x → is_variable x ≡ true → is_read_only x ≡ false → is_narrowed x ≡ false → Written x
  written_unnarrowed x h v r n = by x.shape x.use_ x.what h.does v r n
    where
      by : (s : Shape) (u : Use) (what : What) → StandsAs e s u what → is_variable (operand s what u) ≡ true → is_read_only (operand s what u) ≡ false → is_narrowed (operand s what u) ≡ false → Written (operand s what u)
      by s (AsVariable r t k) what h v i n = from_claims s r t k what (unnarrowed e order s r t k what h n) i
      by s AsConstant what h v i n = no v
      by s AsValue what h v i n = no v

  pub written_no_pointer : (x : Operand) → Stands e x → is_variable x ≡ true → is_read_only x ≡ false → is_pointer x.shape ≡ false → Written x
  written_no_pointer x h v r n = by x.shape x.use_ x.what h.does v r n
    where
      by : (s : Shape) (u : Use) (what : What) → StandsAs e s u what → is_variable (operand s what u) ≡ true → is_read_only (operand s what u) ≡ false → is_pointer s ≡ false → Written (operand s what u)
      by s (AsVariable r t k) what h v i n = from_claims s r t k what (no_pointer e order s r t k what h n) i
      by s AsConstant what h v i n = no v
      by s AsValue what h v i n = no v

  module _ (p : Source) (w : World) (right : Right e p w) where
    -- ---- one argument

    -- an open array's argument: the array has such elements and says its length
    open_array : (a s : Shape) (n : Named) → may_name w.known (Open a) s ≡ true → Fits n s → good e s ≡ true → array_of a (length_of_shape (outline e s)) n ≡ true
    open_array a (Array m b) n h f g = subst (λ k. array_of k (Some m) n ≡ true) (sym (same-is a b h)) (fits_array e order n m b f g)
    open_array a (Open b) n h f g = subst (λ k. array_of k None n ≡ true) (sym (same-is a b h)) (fits_open e order n b f)
    open_array a _ n h f g = no h

    record_is : (r : ℕ) (s : Shape) → may_name w.known (Record r) s ≡ true → (k : ℕ) × (s ≡ Record k) × (record_extends w.known k r ≡ true)
    record_is r (Record k) h = (k, refl, h)
    record_is r _ h = no h

    reference_record : (r k : ℕ) (n : Named) → Fits n (Record k) → is_writable n ≡ true → e.extends k r ≡ true → record_suits e r k n ≡ true
    reference_record r k n (as_whole (Record j) true i) h x = and_from (k == k) (e.extends k r) (eq-eqb k k refl) x
    reference_record r k n (as_whole (Record j) false i) h x = no h
    reference_record r k n (as_record j) h x = x

    -- a variable of the very type, which is no open array and no record
    abbrev is_direct : Shape → Bool
    is_direct (Open a) = false
    is_direct (Record r) = false
    is_direct s = true

    place_itself : (t : Shape) (n : Named) → Fits n t → is_writable n ≡ true → is_direct t ≡ true → place_suits e t true n ≡ true
    place_itself t n as_done h i = no h
    place_itself t n (as_whole s w j) h i = and_from (same s s) w (same-self s) h
    place_itself t n (as_open a w) h i = no i
    place_itself t n (as_record r) h i = no i

    direct_reference : (t : Shape) (x : Operand) → Written x → is_direct t ≡ true → same t x.shape ≡ true → holds_of (place_suits e t true) (designated e (outline e) (designator_of x)) ≡ true
    direct_reference t x d i m = subst (λ o. holds_of (place_suits e t true) o ≡ true) (sym d.1) (place_itself t d.0 (subst (λ k. Fits d.0 k) (sym (same-is t x.shape m)) d.2) d.3 i)

    -- the argument of a VAR parameter
    t_reference : (t : Shape) (x : Operand) → Stands e x → Written x → may_name w.known t x.shape ≡ true → argument_suits e (outline e) (as_reference t x) true t ≡ true
    t_reference (Open a) x h d m = subst (λ o. holds_of (open_suits a true (length_of_shape (outline e x.shape))) o ≡ true) (sym d.1)
        (and_from (array_of a (length_of_shape (outline e x.shape)) d.0) (is_writable d.0) (open_array a x.shape d.0 m d.2 h.good) d.3)
    t_reference (Record r) x h d m =
        let k = record_is r x.shape m in
        subst (λ o. holds_of (record_suits e r (record_in (outline e x.shape))) o ≡ true) (sym d.1)
        (subst (λ s. record_suits e r (record_in (outline e s)) d.0 ≡ true) (sym k.1)
        (reference_record r k.0 d.0 (subst (λ s. Fits d.0 s) k.1 d.2) d.3 (right.extends k.0 r k.2)))
    t_reference Integer x h d m = direct_reference Integer x d refl m
    t_reference Boolean x h d m = direct_reference Boolean x d refl m
    t_reference Char x h d m = direct_reference Char x d refl m
    t_reference Byte x h d m = direct_reference Byte x d refl m
    t_reference Set x h d m = direct_reference Set x d refl m
    t_reference Nil x h d m = direct_reference Nil x d refl m
    t_reference Nothing x h d m = direct_reference Nothing x d refl m
    t_reference (TextShape n) x h d m = direct_reference (TextShape n) x d refl m
    t_reference (Array n a) x h d m = direct_reference (Array n a) x d refl m
    t_reference (Pointer n) x h d m = direct_reference (Pointer n) x d refl m
    t_reference (Procedure ps s) x h d m = direct_reference (Procedure ps s) x d refl m

    -- a string for an open array of CHAR
    pub chars_open : (s : Shape) (u : Use) (what : What) → StandsAs e s u what → is_chars what ≡ true → holds_of (open_suits Char false (length_of_shape (outline e s))) (designated e (outline e) (of_type (place_in what) s)) ≡ true
    chars_open s u (Chars cs) h i = subst (λ k. holds_of (open_suits Char false (length_of_shape (outline e k))) (designated e (outline e) (of_type (Tree.Text cs) k)) ≡ true) (sym h.0)
        (let parts = and_of (all (λ c. nat_lt c 256) cs) (nat_lt (suc (length cs)) (2 ^ 32)) h.1 in
        let bytes = parts.0 in
        let few = parts.1 in
        let equal : (suc (length cs) == suc (length cs)) ≡ true = eq-eqb (suc (length cs)) (suc (length cs)) refl in
        rw bytes (rw equal (rw equal (rw few refl))))
    chars_open s u (ThePlace d) h i = no i
    chars_open s u (Valued x) h i = no i
    chars_open s u (Code f l) h i = no i
    chars_open s u (Proper d) h i = no i

    open_compound : (a s : Shape) → may_name w.known (Open a) s ≡ true → is_compound s ≡ true
    open_compound a (Array n b) h = refl
    open_compound a (Open b) h = refl
    open_compound a _ h = no h

    -- the argument of a value parameter
    passed_open : (a : Shape) (x : Operand) → Stands e x → may_name w.known (Open a) x.shape ≡ true → holds_of (open_suits a false (length_of_shape (outline e x.shape))) (designated e (outline e) (designator_of x)) ≡ true
    passed_open a x h m =
        let d = compound e order x.shape x.use_ x.what h.does (open_compound a x.shape m) in
        subst (λ o. holds_of (open_suits a false (length_of_shape (outline e x.shape))) o ≡ true) (sym d.1) (open_array a x.shape d.0 m d.3 h.good)

    open_text_char : (a : Shape) (what : What) → is_open_text (Open a) what ≡ true → (a ≡ Char) × (is_chars what ≡ true)
    open_text_char Char what h = (refl, h)
    open_text_char _ what h = no h

    record_place : (r k : ℕ) (n : Named) → Fits n (Record k) → e.extends k r ≡ true → place_suits e (Record r) false n ≡ true
    record_place r k n (as_whole (Record j) x i) h = by (same (Record j) (Record r))
      where
        by : (b : Bool) → (b || e.extends j r) ≡ true
        by true = refl
        by false = h
    record_place r k n (as_record j) h = h

    array_place : (n : ℕ) (a : Shape) (d : Named) → Fits d (Array n a) → place_suits e (Array n a) false d ≡ true
    array_place n a d (as_whole (Array m b) x i) = ap (λ c. c || false) (same-self (Array n a))

    scalar_value : (t : Shape) (x : Operand) → Stands e x → good e t ≡ true → is_whole t ≡ true → is_scalar t ≡ true → may_assign w.known t x ≡ true → given_for e (formed (stored t x).form) (scalar e t) ≡ true
    scalar_value t x h g i c m = t_stored e order p w right t x h i g c (and_of (assignable w.known t x.shape) (not (is_local_code x.what)) m).0

    t_passed : (t : Shape) (x : Operand) → Stands e x → good e t ≡ true → is_formal t ≡ true → may_pass w.known t x ≡ true → argument_suits e (outline e) (as_passed t x) false t ≡ true
    t_passed (Open a) x h g i m = or_cases (is_open_text (Open a) x.what) (is_variable x && may_name w.known (Open a) x.shape) m
        (λ q. let c = open_text_char a x.what q in subst (λ k. holds_of (open_suits k false (length_of_shape (outline e x.shape))) (designated e (outline e) (designator_of x)) ≡ true) (sym c.0) (chars_open x.shape x.use_ x.what h.does c.1))
        (λ q. passed_open a x h (and_of (is_variable x) (may_name w.known (Open a) x.shape) q).1)
    t_passed (Record r) x h g i m =
        let k = record_is r x.shape (and_of (is_variable x) (may_name w.known (Record r) x.shape) m).1 in
        let d = compound e order x.shape x.use_ x.what h.does (ap is_compound k.1) in
        subst (λ o. holds_of (place_suits e (Record r) false) o ≡ true) (sym d.1) (record_place r k.0 d.0 (subst (λ s. Fits d.0 s) k.1 d.3) (right.extends k.0 r k.2))
    t_passed (Array n a) x h g i m =
        let is = same-is (Array n a) x.shape (and_of (is_variable x) (same (Array n a) x.shape) m).1 in
        let d = compound e order x.shape x.use_ x.what h.does (ap is_compound (sym is)) in
        subst (λ o. holds_of (place_suits e (Array n a) false) o ≡ true) (sym d.1) (array_place n a d.0 (subst (λ s. Fits d.0 s) (sym is) d.3))
    t_passed Integer x h g i m = scalar_value Integer x h g i refl m
    t_passed Boolean x h g i m = scalar_value Boolean x h g i refl m
    t_passed Char x h g i m = scalar_value Char x h g i refl m
    t_passed Byte x h g i m = scalar_value Byte x h g i refl m
    t_passed Set x h g i m = scalar_value Set x h g i refl m
    t_passed (Pointer n) x h g i m = scalar_value (Pointer n) x h g i refl m
    t_passed (Procedure ps s) x h g i m = scalar_value (Procedure ps s) x h g i refl m
    t_passed _ x h g i m = no i

    pub t_bound : (v : Bool) (t : Shape) (x : Given) → Stands e x.operand → good e t ≡ true → is_formal t ≡ true → Gives (λ a. argument_suits e (outline e) a v t ≡ true) (bound w v t x)
    t_bound true t x h g i = both_rules x.at (is_variable x.operand) (not (is_read_only x.operand)) (λ used written_.
        by_rule 31 x.at (not (is_narrowed x.operand) && may_name w.known t x.operand.shape) (λ m.
        let k = and_of (not (is_narrowed x.operand)) (may_name w.known t x.operand.shape) m in
        keeps (λ a. argument_suits e (outline e) a true t ≡ true) (as_reference t x.operand)
        (t_reference t x.operand h (written_unnarrowed x.operand h used (not_true (is_read_only x.operand) written_) (not_true (is_narrowed x.operand) k.0)) k.1)))
    t_bound false t x h g i = by_rule 31 x.at (may_pass w.known t x.operand) (λ m.
        keeps (λ a. argument_suits e (outline e) a false t ≡ true) (as_passed t x.operand) (t_passed t x.operand h g i m))

    -- ---- all arguments

    abbrev pub AllStand : List Given → Type 0
    AllStand [] = Unit {0}
    AllStand (x ∷ xs) = Stands e x.operand × AllStand xs

    pub t_all_bound : (ps : Formals) (xs : List Given) → AllStand xs → goods e ps ≡ true → is_count ps xs ≡ true → Gives (λ bs. all_suit e (outline e) bs ps ≡ true) (all_bound w ps xs)
    t_all_bound none [] h g c = keeps (λ bs. all_suit e (outline e) bs none ≡ true) no_argument refl
    t_all_bound none (x ∷ xs) h g c = no c
    t_all_bound (one v t ps) [] h g c = no c
    t_all_bound (one v t ps) (x ∷ xs) h g c =
        let a = and_of (is_formal t) (good e t && goods e ps) g in
        let b = and_of (good e t) (goods e ps) a.1 in
        and_then (t_bound v t x h.0 b.0 a.0) (λ y suits.
        and_then (t_all_bound ps xs h.1 b.1 c) (λ ys rest.
        keeps (λ bs. all_suit e (outline e) bs (one v t ps) ≡ true) (next_argument y ys) (and_from (argument_suits e (outline e) y v t) (all_suit e (outline e) ys ps) suits rest)))

    -- ---- calls

    -- a call's arguments suit and it gives a result of this type
    abbrev IsCallOf : Call → Shape → Type 0
    IsCallOf c s = (call_suits e (outline e) c ≡ true) × (call_form e (outline e) c ≡ scalar e s)

    direct_call : (f : ℕ) (bs : Arguments) (ps : Formals) (s : Shape) → e.heading f ≡ Some (ps, s) → all_suit e (outline e) bs ps ≡ true → IsCallOf (Direct f bs) s
    direct_call f bs ps s is h = (ap (λ o. holds_of (λ k. all_suit e (outline e) bs k.0) o) is ∙ h, ap (λ o. with_some o (λ k. scalar e k.1)) is)

    indirect_call : (d : Designator) (bs : Arguments) (ps : Formals) (s : Shape) (n : Named) → designated e (outline e) d ≡ Some n → scalar_in e n ≡ Some (Routines ps s) → all_suit e (outline e) bs ps ≡ true → IsCallOf (Indirect d bs) s
    indirect_call d bs ps s n is at h =
        let form_is = ap (λ o. with_some o (scalar_in e)) is ∙ at in
        (ap (λ o. holds_of (suits_through e (all_suit e (outline e) bs)) o) form_is ∙ h, ap (λ o. with_some o (result_through e)) form_is)

    procedure_form : (n : Named) (ps : Formals) (s : Shape) → Fits n (Procedure ps s) → scalar_in e n ≡ Some (Routines ps s)
    procedure_form n ps s (as_whole (Procedure qs u) x i) = refl

    shape_parameters : (ps qs : Formals) (s u : Shape) → Procedure ps s ≡ Procedure qs u → ps ≡ qs
    shape_parameters ps qs s u h = cc

    shape_result : (ps qs : Formals) (s u : Shape) → Procedure ps s ≡ Procedure qs u → s ≡ u
    shape_result ps qs s u h = cc

    t_call_of : (x : Operand) → IsBegun e x → (ps : Formals) (s : Shape) → x.shape ≡ Procedure ps s → (bs : Arguments) → all_suit e (outline e) bs ps ≡ true → IsCallOf (call_of x x.what bs) s
    t_call_of x b ps s is bs h = by x.what b.stands.does b.used refl
      where
        by : (what : What) → StandsAs e x.shape x.use_ what → IsUsed e x.shape x.use_ what → x.what ≡ what → IsCallOf (call_of x what bs) s
        by (Code f l) k u i =
            let same = sym k.2 ∙ is in
            direct_call f bs ps s (k.3 ∙ ap₂ (λ a c. Some (a, c)) (shape_parameters k.0 ps k.1 s same) (shape_result k.0 ps k.1 s same)) h
        by (ThePlace d) k u i =
            let n = place_designates e order x.shape x.use_ (ThePlace d) k.0 k.1 k.2 k.3 in
            indirect_call (designator_of x) bs ps s n.0 (ap (λ a. designated e (outline e) (of_type (place_in a) x.shape)) i ∙ n.1) (procedure_form n.0 ps s (subst (λ a. Fits n.0 a) is n.3)) h
        by (Valued y) k u i = value_none x.use_ y u
          where
            value_none : (u : Use) (y : Expr) → IsUsed e x.shape u (Valued y) → IsCallOf (call_of x (Valued y) bs) s
            value_none (AsVariable r t m) y u = no (sym (sym (ap is_procedure is) ∙ u))
            value_none AsConstant y u = no (sym (sym (ap is_procedure is) ∙ u))
            value_none AsValue y u = no (sym (sym (ap is_procedure is) ∙ u))
        by (Chars cs) k u i = no (ap is_procedure (sym k.0 ∙ is))
        by (Proper d) k u i = no (ap is_procedure (sym k.0 ∙ is))

    result_value : (c : Call) (s : Shape) → is_result s ≡ true → good e s ≡ true → IsCallOf c s → IsValue e s (Result c)
    result_value c Nothing r g h = (c, refl, h.0)
    result_value c Integer r g h = ap₂ (λ b o. near_for e (provided b o) (Some Number)) h.0 h.1
    result_value c Boolean r g h = ap₂ (λ b o. near_for e (provided b o) (Some Truth)) h.0 h.1
    result_value c Set r g h = ap₂ (λ b o. near_for e (provided b o) (Some Number)) h.0 h.1
    result_value c Char r g h = ap₂ (λ b o. near_for e (provided b o) (Some Small)) h.0 h.1
    result_value c Byte r g h = ap₂ (λ b o. near_for e (provided b o) (Some Small)) h.0 h.1
    result_value c (Pointer n) r g h = by (e.target n) refl g
      where
        by : (o : Option ℕ) → e.target n ≡ o → is_some o ≡ true → near_for e (form e (outline e) (Result c)) (scalar e (Pointer n)) ≡ true
        by None i g = no g
        by (Some k) i g = ap₂ (λ b o. near_for e (provided b o) (scalar e (Pointer n))) h.0 h.1 ∙ self k i
          where
            self : (k : ℕ) → e.target n ≡ Some k → near_for e (scalar e (Pointer n)) (scalar e (Pointer n)) ≡ true
            self k i = ap (λ o. near_for e (option_map (λ r. ToRecord r) o) (option_map (λ r. ToRecord r) o)) i ∙ order.self k
    result_value c (Procedure ps u) r g h = ap₂ (λ b o. near_for e (provided b o) (Some (Routines ps u))) h.0 h.1 ∙ scalar_near e order (Procedure ps u) (Routines ps u) refl
    result_value c (Record n) r g h = no r
    result_value c (Array n a) r g h = no r
    result_value c _ r g h = no r

    pub t_called : (at : ℕ) (x : Operand) → IsBegun e x → (ps : Formals) (s : Shape) → x.shape ≡ Procedure ps s → (xs : List Given) → AllStand xs → Gives (λ y. Stands e y × IsLast e y) (called w at x ps s xs)
    t_called at x b ps s is xs h =
        let g = and_of (goods e ps) (is_result s && good e s) (ap (good e) (sym is) ∙ b.stands.good) in
        let r = and_of (is_result s) (good e s) g.1 in
        by_rule 40 at (is_count ps xs) (λ count.
        and_then (t_all_bound ps xs h g.0 count) (λ bs suit.
        keeps (λ y. Stands e y × IsLast e y) (value s (Result (call_of x x.what bs)))
        (record { does = (result_value (call_of x x.what bs) s r.0 r.1 (t_call_of x b ps s is bs suit), tt); good = r.1 }, refl)))

    pub t_applied : (at : ℕ) (x : Operand) → IsBegun e x → (xs : List Given) → AllStand xs → Gives (λ y. Stands e y × IsLast e y) (applied p w at x x.shape xs)
    t_applied at x b xs h = by x.shape refl
      where
        by : (s : Shape) → x.shape ≡ s → Gives (λ y. Stands e y × IsLast e y) (applied p w at x s xs)
        by (Procedure ps r) i = t_called at x b ps r i xs h
        by Integer i = breaks (λ y. Stands e y × IsLast e y) 31 at
        by _ i = breaks (λ y. Stands e y × IsLast e y) 31 at

    -- ---- the standard procedures

    abbrev Given_ : Operand → Type 0
    Given_ y = Stands e y × IsLast e y

    a_function : (s : Shape) (y : Expr) → IsValue e s y → good e s ≡ true → is_procedure s ≡ false → Gives Given_ (function s y)
    a_function s y v g n = keeps Given_ (operand s (Valued y) AsConstant) (record { does = (v, tt); good = g }, last (is_call (Valued y)))
      where
        last : (b : Bool) → ((b || not (is_procedure s)) && true) ≡ true
        last true = refl
        last false = ap (λ c. not c && true) n

    a_proper : (d : Statement) → fine e (outline e) d ≡ true → Gives Given_ (proper d)
    a_proper d h = keeps Given_ (operand Nothing (Proper d) AsValue) (record { does = (refl, h, tt); good = refl }, refl)

    -- a number as a whole expression
    abbrev IsNumber : Checked → Type 0
    IsNumber c = (gives_number (formed c.form) ≡ true) × (gives_number (checked_form e (outline e) c) ≡ true)

    number_plain : (s : Shape) → is_number s ≡ true → is_plain s ≡ true
    number_plain Integer h = refl
    number_plain Byte h = refl
    number_plain _ h = no h

    checked_number : (x : Operand) → Stands e x → is_plain x.shape ≡ true → gives_number (formed (form_of x)) ≡ true → gives_number (checked_form e (outline e) (checked x)) ≡ true
    checked_number x h i n = ap gives_number (checked_is e order x h i) ∙ n

    t_number : (x : Given) → Stands e x.operand → Gives IsNumber (number x)
    t_number x h = by_rule 31 x.at (is_number x.operand.shape) (λ n.
        let v = numbers e order x.operand h n in
        keeps IsNumber (checked x.operand) (v, checked_number x.operand h (number_plain x.operand.shape n) v))

    scalar_whole : (t : Shape) → is_whole t ≡ true → is_scalar t ≡ true → good e t ≡ true → (x : Given) → Stands e x.operand → Gives (λ c. given_for e (checked_form e (outline e) c) (scalar e t) ≡ true) (assigned_to w t x)
    scalar_whole t i c g x h = by_rule 31 x.at (may_assign w.known t x.operand) (λ m.
        keeps (λ c. given_for e (checked_form e (outline e) c) (scalar e t) ≡ true) (stored t x.operand) (t_stored_checked e order p w right t x.operand h i g c (and_of (assignable w.known t x.operand.shape) (not (is_local_code x.operand.what)) m).0))

    given_small : (o : Option Form) → given_for e o (Some Small) ≡ true → holds_of is_small_form o ≡ true
    given_small None h = h
    given_small (Some Zero) h = refl
    given_small (Some Truth) h = refl
    given_small (Some Small) h = refl
    given_small (Some _) h = no h

    given_number : (o : Option Form) → given_for e o (Some Number) ≡ true → gives_number o ≡ true
    given_number None h = h
    given_number (Some Zero) h = refl
    given_number (Some Truth) h = refl
    given_number (Some Small) h = refl
    given_number (Some Number) h = refl
    given_number (Some _) h = no h

    t_shifted : (op : Binary) (x n : Given) → Stands e x.operand → Stands e n.operand → Gives Given_ (shifted op x n)
    t_shifted op x n h k = and_then (t_number x h) (λ a i. and_then (t_number n k) (λ b j.
        a_function Integer (operated op a.form b.form) (number_near e order (formed (operated op a.form b.form)) (on_two e order a.form b.form op i.0 j.0)) refl refl))

    -- a number that may be written takes a number
    number_takes : (s : Shape) (n : Named) → Fits n s → is_number s ≡ true → is_writable n ≡ true → takes e (changes (is_byte (outline e s))) n ≡ true
    number_takes s n (as_whole Integer w i) h k = and_from w true k refl
    number_takes s n (as_whole Byte w i) h k = and_from w true k refl
    number_takes s n as_done h k = no h
    number_takes s n (as_whole _ w i) h k = no h
    number_takes s n (as_open a w) h k = no h
    number_takes s n (as_record r) h k = no h

    no_number_pointer : (s : Shape) → is_number s ≡ true → is_pointer s ≡ false
    no_number_pointer (Pointer n) h = no h
    no_number_pointer Integer h = refl
    no_number_pointer _ h = refl

    no_set_pointer : (s : Shape) → is_set s ≡ true → is_pointer s ≡ false
    no_set_pointer (Pointer n) h = no h
    no_set_pointer Set h = refl
    no_set_pointer _ h = refl

    t_changed : (change : Designator → Checked → Statement) → ((d : Designator) (c : Checked) → gives_number (checked_form e (outline e) c) ≡ true → holds_of (takes e (changes (is_byte (shape_in e (outline e) d)))) (designated e (outline e) d) ≡ true → fine e (outline e) (change d c) ≡ true)
        → (v : Given) (n : Judged Checked) → Stands e v.operand → Gives IsNumber n → Gives Given_ (changed change v n)
    t_changed change ok v n h k = both_rules v.at (is_variable v.operand) (not (is_read_only v.operand)) (λ used free.
        by_number v h (λ c. n >>= λ x. proper (change (designator_of v.operand) x)) (λ number_.
        and_then k (λ c i.
        let d = written_no_pointer v.operand h used (not_true (is_read_only v.operand) free) (no_number_pointer v.operand.shape number_) in
        a_proper (change (designator_of v.operand) c) (ok (designator_of v.operand) c i.1 (subst (λ o. holds_of (takes e (changes (is_byte (outline e v.operand.shape)))) o ≡ true) (sym d.1) (number_takes v.operand.shape d.0 d.2 number_ d.3))))))
      where
        by_number : (v : Given) → Stands e v.operand → {B : Type 0} {Q : B → Type 0} → (f : Checked → Judged B) → (is_number v.operand.shape ≡ true → Gives Q (f (checked v.operand))) → Gives Q (number v >>= f)
        by_number v h {Q = Q} f next = cases (is_number v.operand.shape) next
          where
            cases : (b : Bool) → (b ≡ true → Gives Q (f (checked v.operand))) → Gives Q ((rule 31 v.at b >> Keeps (checked v.operand)) >>= f)
            cases true next = next refl
            cases false next = breaks Q 31 v.at

    full_takes : (s : Shape) (n : Named) → Fits n s → is_set s ≡ true → is_writable n ≡ true → takes e is_full n ≡ true
    full_takes s n (as_whole Set w i) h k = and_from w true k refl
    full_takes s n as_done h k = no h
    full_takes s n (as_whole _ w i) h k = no h
    full_takes s n (as_open a w) h k = no h
    full_takes s n (as_record r) h k = no h

    t_set_changed : (change : Designator → Checked → Statement) → ((d : Designator) (c : Checked) → gives_number (checked_form e (outline e) c) ≡ true → holds_of (takes e is_full) (designated e (outline e) d) ≡ true → fine e (outline e) (change d c) ≡ true)
        → (v x : Given) → Stands e v.operand → Stands e x.operand → Gives Given_ (set_changed change v x)
    t_set_changed change ok v x h k = both_rules v.at (is_variable v.operand) (not (is_read_only v.operand)) (λ used free.
        by_rule 31 v.at (is_set v.operand.shape) (λ set_.
        and_then (t_number x k) (λ c i.
        let d = written_no_pointer v.operand h used (not_true (is_read_only v.operand) free) (no_set_pointer v.operand.shape set_) in
        a_proper (change (designator_of v.operand) c) (ok (designator_of v.operand) c i.1 (subst (λ o. holds_of (takes e is_full) o ≡ true) (sym d.1) (full_takes v.operand.shape d.0 d.2 set_ d.3))))))

    one_is : IsNumber (record { form = Literal 1; shape = Integer })
    one_is = (refl, refl)

    t_by_one : Gives IsNumber by_one
    t_by_one = keeps IsNumber (record { form = Literal 1; shape = Integer }) one_is

    any_of : (s : Shape) (n : Named) → Fits n s → good e s ≡ true → is_compound s ≡ true → is_some (element_of s) ≡ true → any_array (length_of_shape (outline e s)) n ≡ true
    any_of s n (as_whole (Array m a) w i) g c h =
        let few = (and_of (nat_lt m (2 ^ 32)) (is_whole a && good e a) g).0 in
        let equal : (m == m) ≡ true = eq-eqb m m refl in
        rw equal (rw few refl)
    any_of s n (as_whole (Open a) w i) g c h = no i
    any_of s n (as_open a w) g c h = refl
    any_of s n as_done g c h = no c
    any_of s n (as_record r) g c h = no h
    any_of s n (as_whole _ w i) g c h = no h

    element_compound : (s : Shape) → is_some (element_of s) ≡ true → is_compound s ≡ true
    element_compound (Array n a) h = refl
    element_compound (Open a) h = refl
    element_compound _ h = no h

    pointer_takes : (k r : ℕ) (s : Shape) (n : Named) → Fits n s → s ≡ Pointer k → e.target k ≡ Some r → is_writable n ≡ true → takes e (points_to e (record_in (outline e s))) n ≡ true
    pointer_takes k r s n (as_whole (Pointer m) w i) is t h =
        let same : m ≡ k = (let z = is in cc) in
        and_from w (holds_of (points_to e (or_zero (e.target m))) (option_map (λ x. ToRecord x) (e.target m))) h
        (subst (λ o. holds_of (points_to e (or_zero o)) (option_map (λ x. ToRecord x) o) ≡ true) (sym (ap (λ x. e.target x) same ∙ t)) (and_from (e.is_record r) (e.extends r r) (order.there k r t) (order.self r)))
    pointer_takes k r s n as_done is t h = absurd (let z = is in cc)
    pointer_takes k r s n (as_open a w) is t h = absurd (let z = is in cc)
    pointer_takes k r s n (as_record m) is t h = absurd (let z = is in cc)
    pointer_takes k r s n (as_whole _ w i) is t h = absurd (let z = is in cc)

    pointer_shape : (s : Shape) (r : ℕ) → target_of w.known s ≡ Some r → (k : ℕ) × (s ≡ Pointer k) × (e.target k ≡ Some r)
    pointer_shape (Pointer n) r h = (n, refl, right.targets n r h)
    pointer_shape _ r h = none_some r h

    char_takes : (s : Shape) (n : Named) → Fits n s → is_char_only s ≡ true → is_writable n ≡ true → takes e (changes true) n ≡ true
    char_takes s n (as_whole Char w i) h k = and_from w true k refl
    char_takes s n as_done h k = no h
    char_takes s n (as_whole _ w i) h k = no h
    char_takes s n (as_open a w) h k = no h
    char_takes s n (as_record r) h k = no h

    no_char_pointer : (s : Shape) → is_char_only s ≡ true → is_pointer s ≡ false
    no_char_pointer Char h = refl
    no_char_pointer (Pointer n) h = no h
    no_char_pointer _ h = refl

    ordered_number : (x : Operand) → Stands e x → may_order x.shape ≡ true → gives_number (formed (form_of x)) ≡ true
    ordered_number x h m = or_cases (is_char x.shape || is_truth x.shape) (is_set x.shape) m
        (λ q. or_cases (is_char x.shape) (is_truth x.shape) q (λ c. char_value e order p w right x h c) (λ t. truth_number (formed (form_of x)) (truths e order x h (truth_shape x.shape t))))
        (λ s. sets e order x h (set_shape x.shape s))

    truth_plain : (s : Shape) → is_truth s ≡ true → is_plain s ≡ true
    truth_plain Boolean h = refl
    truth_plain _ h = no h

    text_use : (x : Operand) → Stands e x → (is_chars x.what || is_variable x && is_text x.shape) ≡ true → is_text x.shape ≡ true
    text_use x h m = or_cases (is_chars x.what) (is_variable x && is_text x.shape) m (λ c. by x.shape x.use_ x.what h.does c) (λ q. (and_of (is_variable x) (is_text x.shape) q).1)
      where
        by : (s : Shape) (u : Use) (what : What) → StandsAs e s u what → is_chars what ≡ true → is_text s ≡ true
        by s u (Chars cs) h c = ap is_text h.0
        by s u (ThePlace d) h c = no c
        by s u (Valued x) h c = no c
        by s u (Code f l) h c = no c
        by s u (Proper d) h c = no c

    pub t_standard : (at : ℕ) (s : Standard) (xs : List Given) → AllStand xs → Gives Given_ (standard w at s xs)
    t_standard at Abs (x ∷ []) h = and_then (t_number x h.0) (λ a i. a_function Integer (Apply TheUnary.Abs a.form) (ap (λ b. near_for e (provided b (Some Number)) (Some Number)) i.0) refl refl)
    t_standard at Odd (x ∷ []) h = and_then (t_number x h.0) (λ a i. a_function Boolean (Apply TheUnary.Odd a.form) (ap (λ b. near_for e (provided b (Some Truth)) (Some Truth)) i.0) refl refl)
    t_standard at Len (x ∷ []) h = by_rule 31 x.at (is_variable x.operand && is_some (element_of x.operand.shape)) (λ m.
        let el = (and_of (is_variable x.operand) (is_some (element_of x.operand.shape)) m).1 in
        let c = element_compound x.operand.shape el in
        let d = compound e order x.operand.shape x.operand.use_ x.operand.what (h.0).does c in
        keeps Given_ (value Integer (Length (designator_of x.operand)))
        (record { does = (ap (λ b. near_for e (provided b (Some Number)) (Some Number)) (ap (λ o. holds_of (any_array (length_of_shape (outline e x.operand.shape))) o) d.1 ∙ any_of x.operand.shape d.0 d.3 (h.0).good c el), tt); good = refl }, refl))
    t_standard at Lsl (x ∷ n ∷ []) h = t_shifted TheBinary.Lsl x n h.0 (h.1).0
    t_standard at Asr (x ∷ n ∷ []) h = t_shifted TheBinary.Asr x n h.0 (h.1).0
    t_standard at Ror (x ∷ n ∷ []) h = t_shifted TheBinary.Ror x n h.0 (h.1).0
    t_standard at Ord (x ∷ []) h = by_rule 31 x.at (may_order x.operand.shape) (λ m.
        a_function Integer (form_of x.operand) (number_near e order (formed (form_of x.operand)) (ordered_number x.operand h.0 m)) refl refl)
    t_standard at Chr (x ∷ []) h = and_then (t_number x h.0) (λ a i. a_function Char (AsByte a.form) (ap (λ b. near_for e (provided b (Some Small)) (Some Small)) i.0) refl refl)
    t_standard at Inc (v ∷ []) h = t_changed Tree.Increase (λ d c i j. and_from (gives_number (checked_form e (outline e) c)) (holds_of (takes e (changes (is_byte (shape_in e (outline e) d)))) (designated e (outline e) d)) i j) v by_one h.0 t_by_one
    t_standard at Inc (v ∷ n ∷ []) h = t_changed Tree.Increase (λ d c i j. and_from (gives_number (checked_form e (outline e) c)) (holds_of (takes e (changes (is_byte (shape_in e (outline e) d)))) (designated e (outline e) d)) i j) v (number n) h.0 (t_number n (h.1).0)
    t_standard at Dec (v ∷ []) h = t_changed Tree.Decrease (λ d c i j. and_from (gives_number (checked_form e (outline e) c)) (holds_of (takes e (changes (is_byte (shape_in e (outline e) d)))) (designated e (outline e) d)) i j) v by_one h.0 t_by_one
    t_standard at Dec (v ∷ n ∷ []) h = t_changed Tree.Decrease (λ d c i j. and_from (gives_number (checked_form e (outline e) c)) (holds_of (takes e (changes (is_byte (shape_in e (outline e) d)))) (designated e (outline e) d)) i j) v (number n) h.0 (t_number n (h.1).0)
    t_standard at Incl (v ∷ x ∷ []) h = t_set_changed Tree.Include (λ d c i j. and_from (gives_number (checked_form e (outline e) c)) (holds_of (takes e is_full) (designated e (outline e) d)) i j) v x h.0 (h.1).0
    t_standard at Excl (v ∷ x ∷ []) h = t_set_changed Tree.Exclude (λ d c i j. and_from (gives_number (checked_form e (outline e) c)) (holds_of (takes e is_full) (designated e (outline e) d)) i j) v x h.0 (h.1).0
    t_standard at New (v ∷ []) h = both_rules v.at (is_variable v.operand) (not (is_read_only v.operand)) (λ used free.
        by_some 31 v.at (target_of w.known v.operand.shape) (λ r is.
        by_rule 31 v.at (not (is_narrowed v.operand)) (λ wide.
        let d = written_unnarrowed v.operand h.0 used (not_true (is_read_only v.operand) free) (not_true (is_narrowed v.operand) wide) in
        let k = pointer_shape v.operand.shape r is in
        a_proper (Tree.New (designator_of v.operand)) (subst (λ o. holds_of (takes e (points_to e (record_in (outline e v.operand.shape)))) o ≡ true) (sym d.1) (pointer_takes k.0 r v.operand.shape d.0 d.2 k.1 k.2 d.3)))))
    t_standard at Assert (x ∷ []) h = by_rule 31 x.at (is_truth x.operand.shape) (λ t.
        a_proper (Tree.Assert (checked x.operand)) (checked_number x.operand h.0 (truth_plain x.operand.shape t) (truth_number (formed (form_of x.operand)) (truths e order x.operand h.0 (truth_shape x.operand.shape t)))))
    t_standard at OutChar (x ∷ []) h = and_then (scalar_whole Char refl refl refl x h.0) (λ a i. a_proper (Tree.OutChar a) (given_small (checked_form e (outline e) a) i))
    t_standard at OutInt (x ∷ n ∷ []) h = and_then (scalar_whole Integer refl refl refl x h.0) (λ a i. and_then (scalar_whole Integer refl refl refl n (h.1).0) (λ b j.
        a_proper (Tree.OutInt a b) (and_from (gives_number (checked_form e (outline e) a)) (gives_number (checked_form e (outline e) b)) (given_number (checked_form e (outline e) a) i) (given_number (checked_form e (outline e) b) j))))
    t_standard at OutString (x ∷ []) h = by_rule 31 x.at (is_chars x.operand.what || is_variable x.operand && is_text x.operand.shape) (λ m.
        a_proper (Tree.OutString (designator_of x.operand)) (texts e order x.operand.shape x.operand.use_ x.operand.what (h.0).does (h.0).good (text_use x.operand h.0 m)))
    t_standard at OutLn [] h = a_proper Tree.OutLn refl
    t_standard at InChar (v ∷ []) h = both_rules v.at (is_variable v.operand) (not (is_read_only v.operand)) (λ used free.
        by_rule 31 v.at (is_char_only v.operand.shape) (λ c.
        let d = written_no_pointer v.operand h.0 used (not_true (is_read_only v.operand) free) (no_char_pointer v.operand.shape c) in
        a_proper (Tree.InChar (designator_of v.operand)) (subst (λ o. holds_of (takes e (changes true)) o ≡ true) (sym d.1) (char_takes v.operand.shape d.0 d.2 c d.3))))
    t_standard at s xs h = breaks Given_ 40 at
