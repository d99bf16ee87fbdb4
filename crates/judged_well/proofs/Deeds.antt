-- Assignments, calls that are statements, and conditions.
use Rattle.std.proofs.Common.{◌≡◌, ℕ, [], Bool, true, false, not, ◌&&◌, ◌||◌, Option, Some, None, refl, sym, ap, ap₂, ◌∙◌, subst, eqb-true, le-leb, ltb-true, arith, suc}
use Rattle.std.specs.Prelude.{if◌then◌else◌, nat_eq, slice_get}
use Rattle.ob_types.specs.WellFormed.{holds_of, lengths_fit}
use Rattle.ob_types.proofs.Tests.{no, none_some, some_same, and_of, and_from}
use Rattle.ob_syntax.specs.Syntax as S
use Rattle.ob_judge.specs.Judged.{Judged, Keeps, ◌>>=◌}
use Rattle.ob_judge.specs.Shapes.{Shape, target_of, element_of, Integer, Boolean, Char, Byte, Set, Nil, Nothing, Array, Open, Record, Pointer, Procedure, Formals, same, assignable, record_extends, is_number, is_truth, is_scalar, is_pointer}
use Rattle.ob_judge.specs.Shapes.{Text as TextShape}
use Rattle.ob_judge.specs.Image.{Expr, Literal, Result, Call, Constant, Designator, of_type, Checked, Statement, Assign, CopyArray, CopyRecord, Invoke, Place, Global, Local, Parameter}
use Rattle.ob_judge.specs.Image as Tree
use Rattle.ob_judge.specs.Scopes.{World, Source, spelled, Object, AConstant, AType, AVariable, AProcedure, AStandard, AModule, place}
use Rattle.ob_judge.specs.Operands.{What, Named as ThePlace, Valued, Chars, Code, Proper, Use, AsValue, Operand, operand, place_of, length_of, of_constant, designator_of, checked, is_variable, is_read_only, is_narrowed, is_local_code, whole_variable}
use Rattle.ob_judge.specs.Operands.{form as form_of}
use Rattle.ob_judge.specs.Symbols.{expression_first, bare_list}
use Rattle.ob_judge.specs.Calls.{is_chars, may_assign, stored, standard, called}
use Rattle.ob_judge.specs.Names.{Stage, Whole, Partly, Ended, object_operand, variable_read, narrowed_to, named, type_named, begun, finished}
use Rattle.ob_judge.specs.Parts.{record_of, fields_of, part_of, followed, tested_tag, guard_of, field, element, target, guarded, applied, guard_name, is_procedure}
use Rattle.ob_judge.specs.Expressions.{expression, arguments, selected, select, indexed, indexed_more, designator}
use Rattle.ob_judge.specs.Assignments.{is_call, whole_object, destination, assigned, assignment, alone, called_alone, called_bare, deed_of, call_statement, assign_or_call, condition, number, integer_variable}
use Rattle.judged_tree.proofs.SameShapes.{same-is}
use Rattle.judged_well.specs.Gives.{Gives}
use Rattle.judged_well.specs.Forms.{Named, is_writable, gives_number, is_full}
use Rattle.judged_well.specs.Setting.{Setting, IsOrder}
use Rattle.judged_well.specs.Typing.{outline, form, designated, scalar, scalar_in, given_for, checked_form, fine, array_of, may_copy, has_record, length_of_shape, element_in, record_in, takes, call_suits, begins_there, is_base}
use Rattle.judged_well.specs.Standing.{is_whole, Fits, as_done, as_whole, as_open, as_record, StandsAs, Stands, IsBegun, IsLast, IsRead, IsValue, good, ObjectStands, IsUnnarrowed, StageStands, Right, IsOwn, is_own}
use Rattle.judged_well.proofs.Judging.{keeps, breaks, weaken, and_then, and_then_as, by_rule, by_some, anything, gives_both}
use Rattle.judged_well.proofs.Values.{designated_is}
use Rattle.judged_well.proofs.Places.{compound, fits_array, fits_open}
use Rattle.judged_well.specs.Standing.{is_compound}
use Rattle.judged_well.proofs.Selecting.{own_record}
use Rattle.judged_well.proofs.Operating.{numbers, truths, truth_shape, truth_number}
use Rattle.judged_well.proofs.Storing.{checked_is, t_stored_checked}
use Rattle.judged_well.specs.Standing.{is_plain}
use Rattle.judged_well.proofs.Calling.{Written, t_applied, written_unnarrowed, not_true, t_standard, t_called, chars_open}
use Rattle.judged_well.proofs.Naming.{t_named, t_member, t_begun, t_whole_variable, IsFinished}
use Rattle.judged_well.proofs.Tree.{t_expression, t_designator, t_select, t_arguments}

module _ (e : Setting) (order : IsOrder e) (p : Source) (read : IsRead p) (w : World) (right : Right e p w) where
  -- ---- what is selected isn't narrowed

  abbrev pub Wide : Operand → Type 0
  Wide x = is_narrowed x ≡ false

  abbrev WideStage : Stage → Type 0
  WideStage (Whole o) = IsUnnarrowed e p w o
  WideStage (Partly x) = Wide x
  WideStage (Ended x) = Wide x

  wide_field : (at i : ℕ) (x : Operand) → Gives Wide (field p w at i x)
  wide_field at i x = by_some 31 at (record_of p w x) (λ r is.
      by_some 30 (place p i) (fields_of (slice_get w.known.records r.0) (spelled p i)) (λ f found.
      by_rule 34 (place p i) (f.exported || nat_eq f.owner w.module_number) (λ seen.
      keeps Wide (part_of r.1 f.shape (Tree.Field (place_of r.1) f.adder f.number)) refl)))

  wide_element : (at at_index : ℕ) (x i : Operand) → Gives Wide (element at at_index x i)
  wide_element at at_index x i = by_some 31 at (element_of x.shape) (λ a is. by_rule 31 at_index (is_number i.shape) (λ n. keeps Wide (part_of x a (Tree.Index (place_of x) (length_of x) a (form_of i))) refl))

  wide_indexed_more : (at : ℕ) (x : Operand) → Wide x → (xs : S.NextExpressions) → Gives Wide (indexed_more p w at x xs)
  wide_indexed_more at x h S.no_expression = keeps Wide x h
  wide_indexed_more at x h (S.next_expression comma y rest) = and_then (anything (expression p w y)) (λ i z. and_then (wide_element at (place p (expression_first y)) x i) (λ k l. wide_indexed_more at k l rest))

  wide_indexed : (at : ℕ) (x : Operand) (xs : S.Expressions) → Gives Wide (indexed p w at x xs)
  wide_indexed at x (S.expressions first more) = and_then (anything (expression p w first)) (λ i z. and_then (wide_element at (place p (expression_first first)) x i) (λ k l. wide_indexed_more at k l more))

  wide_target : (at : ℕ) (x : Operand) → Gives Wide (target p w at x)
  wide_target at x = by_some 31 at (target_of w.known x.shape) (λ r is. keeps Wide (followed x r) refl)

  wide_guard : (x : Operand) (t : Shape) (r : ℕ) → Wide (guard_of x t r)
  wide_guard x (Pointer n) r = refl
  wide_guard x Integer r = refl
  wide_guard x _ r = refl

  wide_guarded : (at : ℕ) (x : Operand) (t : Shape) → Gives Wide (guarded p w at x t)
  wide_guarded at x t = by_some 31 at (tested_tag p w x t) (λ r is. keeps Wide (guard_of x t r) (wide_guard x t r))

  last_wide : (x : Operand) → IsLast e x → Wide x
  last_wide x h = not_true (is_narrowed x) (and_of (is_call x.what || not (is_procedure x.shape)) (not (is_narrowed x)) h).1

  ended_wide : (m : Judged Operand) → Gives (λ y. Stands e y × IsLast e y) m → Gives WideStage (m >>= λ y. Keeps (Ended y))
  ended_wide m g = and_then g (λ y h. keeps WideStage (Ended y) (last_wide y h.1))

  partly_wide : (m : Judged Operand) → Gives Wide m → Gives WideStage (m >>= λ y. Keeps (Partly y))
  partly_wide m g = and_then g (λ y h. keeps WideStage (Partly y) h)

  wide_parens : (at : ℕ) (stage : Stage) → StageStands e stage → (list : S.Expressions)
      → Gives WideStage (begun p w at stage >>= λ x. elim (guard_name x (bare_list list)) as (λ _. Judged Stage) [
        | Some q ↦ type_named p w 31 q.0 q.1 >>= λ t. guarded p w at x t >>= λ y. Keeps (Partly y)
        | None ↦ arguments p w list >>= λ xs. applied p w at x x.shape xs >>= λ y. Keeps (Ended y)
      ])
  wide_parens at stage h list = and_then (t_begun e order p w right at stage h) (λ x k. by x k (guard_name x (bare_list list)))
    where
      by : (x : Operand) → IsBegun e x → (q : Option (ℕ × Option ℕ)) → Gives WideStage (elim q as (λ _. Judged Stage) [
        | Some q ↦ type_named p w 31 q.0 q.1 >>= λ t. guarded p w at x t >>= λ y. Keeps (Partly y)
        | None ↦ arguments p w list >>= λ xs. applied p w at x x.shape xs >>= λ y. Keeps (Ended y)
      ])
      by x k (Some q) = and_then (anything (type_named p w 31 q.0 q.1)) (λ t i. partly_wide (guarded p w at x t) (wide_guarded at x t))
      by x k None = and_then (t_arguments e order p read w right list) (λ xs l. ended_wide (applied p w at x x.shape xs) (t_applied e order p w right at x k xs l))

  wide_select : (at : ℕ) (stage : Stage) → StageStands e stage → (s : S.Selector) → Gives WideStage (select p w at stage s)
  wide_select at (Whole (AModule m)) h (S.Field period i) = and_then (t_member e order p w right m i) (λ o k. keeps WideStage (Whole o) k.1)
  wide_select at stage h (S.Field period i) = and_then (t_begun e order p w right at stage h) (λ x k. partly_wide (field p w at i x) (wide_field at i x))
  wide_select at stage h (S.Index left_bracket list right_bracket) = and_then (t_begun e order p w right at stage h) (λ x k. partly_wide (indexed p w at x list) (wide_indexed at x list))
  wide_select at stage h (S.Arrow i) = and_then (t_begun e order p w right at stage h) (λ x k. partly_wide (target p w at x) (wide_target at x))
  wide_select at (Whole (AStandard s)) h (S.EmptyParens left_paren right_paren) = ended_wide (standard w at s []) (t_standard e order p w right at s [] tt)
  wide_select at (Whole (AStandard s)) h (S.Parens left_paren list right_paren) = and_then (t_arguments e order p read w right list) (λ xs k. ended_wide (standard w at s xs) (t_standard e order p w right at s xs k))
  wide_select at stage h (S.EmptyParens left_paren right_paren) = and_then (t_begun e order p w right at stage h) (λ x k. ended_wide (applied p w at x x.shape []) (t_applied e order p w right at x k [] tt))
  wide_select at stage h (S.Parens left_paren list right_paren) = wide_parens at stage h list

  wide_constant : (c : Constant) → Wide (of_constant c)
  wide_constant (Tree.Bits s n) = refl
  wide_constant (Tree.Chars cs) = refl

  wide_object : (at : ℕ) (o : Object) → IsUnnarrowed e p w o → Gives Wide (object_operand p w at o)
  wide_object at (AConstant c) h = keeps Wide (of_constant c) (wide_constant c)
  wide_object at (AVariable v) h = keeps Wide (variable_read p w v) (ap (λ o. is_narrowed (narrowed_to (whole_variable w v) (is_pointer v.shape) o)) h)
  wide_object at (AProcedure f s l) h = keeps Wide (operand s (Code f l) AsValue) refl
  wide_object at (AType s) h = breaks Wide 31 at
  wide_object at _ h = breaks Wide 31 at

  wide_finished : (at : ℕ) (stage : Stage) → WideStage stage → Gives Wide (finished p w at stage)
  wide_finished at (Whole o) h = wide_object at o h
  wide_finished at (Partly x) h = keeps Wide x h
  wide_finished at (Ended x) h = keeps Wide x h

  wide_selected : (at : ℕ) (stage : Stage) → StageStands e stage → WideStage stage → (xs : S.Selectors) → Gives Wide (selected p w at stage xs)
  wide_selected at stage h k S.no_selector = wide_finished at stage k
  wide_selected at stage h k (S.selected s rest) = and_then (gives_both (t_select e order p read w right at stage h s) (wide_select at stage h s)) (λ next l. wide_selected at next l.0 l.1 rest)

  -- ---- the destination of an assignment

  abbrev IsDestination : Operand → Type 0
  IsDestination x = Stands e x × Wide x

  other_destination : (d : S.Designator) → Gives Wide (designator p w d) → Gives IsDestination (designator p w d)
  other_destination d g = weaken (gives_both (t_designator e order p read w right d) g) (λ x h. ((h.0).stands, h.1))

  t_destination : (d : S.Designator) → Gives IsDestination (destination p w d)
  t_destination d = and_then_as (t_named e order p w right d.name) (λ o is h. by o is h d.selectors refl)
    where
      named_wide : (o : Object) → named p w d.name ≡ Keeps o → ObjectStands e o → IsUnnarrowed e p w o → Gives Wide (designator p w d)
      named_wide o is h u = subst (λ m. Gives Wide (m >>= λ k. selected p w (place p d.name) (Whole k) d.selectors)) (sym is) (wide_selected (place p d.name) (Whole o) h u d.selectors)

      selected_wide : (s : S.Selector) (rest : S.Selectors) → d.selectors ≡ S.selected s rest → Gives Wide (designator p w d)
      selected_wide s rest at = and_then (t_named e order p w right d.name) (λ o h.
          subst (λ xs. Gives Wide (selected p w (place p d.name) (Whole o) xs)) (sym at)
          (and_then (gives_both (t_select e order p read w right (place p d.name) (Whole o) h s) (wide_select (place p d.name) (Whole o) h s)) (λ next l. wide_selected (place p d.name) next l.0 l.1 rest)))

      by : (o : Object) → named p w d.name ≡ Keeps o → ObjectStands e o → (xs : S.Selectors) → d.selectors ≡ xs → Gives IsDestination (whole_object w o xs (designator p w d))
      by (AVariable v) is h S.no_selector at = keeps IsDestination (whole_variable w v) ((t_whole_variable e order p w right v h).stands, refl)
      by (AVariable v) is h (S.selected s rest) at = other_destination d (selected_wide s rest at)
      by (AConstant c) is h xs at = other_destination d (named_wide (AConstant c) is h tt)
      by (AType s) is h xs at = other_destination d (named_wide (AType s) is h tt)
      by (AProcedure f s l) is h xs at = other_destination d (named_wide (AProcedure f s l) is h tt)
      by (AStandard s) is h xs at = other_destination d (named_wide (AStandard s) is h tt)
      by (AModule m) is h xs at = other_destination d (named_wide (AModule m) is h tt)

  -- ---- assignments

  abbrev IsFine : Statement → Type 0
  IsFine s = fine e (outline e) s ≡ true

  -- what an array takes
  abbrev IsFrom : Shape → Shape → Type 0
  IsFrom a (Array m b) = a ≡ b
  IsFrom a (Open b) = a ≡ b
  IsFrom a (TextShape m) = a ≡ Char
  IsFrom a s = ⊥

  or_no : (b : Bool) → ((b || false) || false) ≡ true → b ≡ true
  or_no true h = refl
  or_no false h = h

  array_array : (a b : Shape) (n m : ℕ) → assignable w.known (Array n a) (Array m b) ≡ (((nat_eq n m && same a b) || false) || false)
  array_array Char b n m = refl
  array_array _ b n m = refl

  array_open : (a b : Shape) (n : ℕ) → assignable w.known (Array n a) (Open b) ≡ same a b
  array_open Char b n = refl
  array_open _ b n = refl

  array_text : (a : Shape) (n m : ℕ) → assignable w.known (Array n a) (TextShape m) ≡ true → a ≡ Char
  array_text Char n m h = refl
  array_text _ n m h = no h

  open_array_of : (a b : Shape) (m : ℕ) → assignable w.known (Open a) (Array m b) ≡ same a b
  open_array_of Char b m = refl
  open_array_of _ b m = refl

  open_open : (a b : Shape) → assignable w.known (Open a) (Open b) ≡ ((same a b || false) || false)
  open_open Char b = refl
  open_open _ b = refl

  open_text : (a : Shape) (m : ℕ) → assignable w.known (Open a) (TextShape m) ≡ true → a ≡ Char
  open_text Char m h = refl
  open_text _ m h = no h

  abbrev is_source : Shape → Bool
  is_source (TextShape m) = true
  is_source (Array m b) = true
  is_source (Open b) = true
  is_source s = false

  array_none : (a s : Shape) (n : ℕ) → is_source s ≡ false → assignable w.known (Array n a) s ≡ true → IsFrom a s
  array_none Char (TextShape m) n i h = no (sym i)
  array_none Char (Array m b) n i h = no (sym i)
  array_none Char (Open b) n i h = no (sym i)
  array_none Char _ n i h = no h
  array_none _ (TextShape m) n i h = no (sym i)
  array_none _ (Array m b) n i h = no (sym i)
  array_none _ (Open b) n i h = no (sym i)
  array_none _ _ n i h = no h

  open_none : (a s : Shape) → is_source s ≡ false → assignable w.known (Open a) s ≡ true → IsFrom a s
  open_none Char (TextShape m) i h = no (sym i)
  open_none Char (Array m b) i h = no (sym i)
  open_none Char (Open b) i h = no (sym i)
  open_none Char _ i h = no h
  open_none _ (TextShape m) i h = no (sym i)
  open_none _ (Array m b) i h = no (sym i)
  open_none _ (Open b) i h = no (sym i)
  open_none _ _ i h = no h

  from_array : (a : Shape) (n : ℕ) (s : Shape) → assignable w.known (Array n a) s ≡ true → IsFrom a s
  from_array a n (TextShape m) h = array_text a n m h
  from_array a n (Open b) h = same-is a b (sym (array_open a b n) ∙ h)
  from_array a n (Array m b) h = same-is a b (and_of (nat_eq n m) (same a b) (or_no (nat_eq n m && same a b) (sym (array_array a b n m) ∙ h))).1
  from_array a n Integer h = array_none a Integer n refl h
  from_array a n _ h = array_none a _ n refl h

  from_open : (a s : Shape) → assignable w.known (Open a) s ≡ true → IsFrom a s
  from_open a (TextShape m) h = open_text a m h
  from_open a (Open b) h = same-is a b (or_no (same a b) (sym (open_open a b) ∙ h))
  from_open a (Array m b) h = same-is a b (sym (open_array_of a b m) ∙ h)
  from_open a Integer h = open_none a Integer refl h
  from_open a _ h = open_none a _ refl h

  text_chars : (s : Shape) (u : Use) (what : What) → StandsAs e s u what → (m : ℕ) → s ≡ TextShape m → is_chars what ≡ true
  text_chars s u (Chars cs) h m i = refl
  text_chars s u (ThePlace d) h m i = never h.0 s h.2 i
    where
      never : (n : Named) (s : Shape) → Fits n s → s ≡ TextShape m → false ≡ true
      never n s as_done i = absurd (let z = i in cc)
      never n s (as_whole k c h) i = ap is_whole (sym i) ∙ h
      never n s (as_open a c) i = absurd (let z = i in cc)
      never n s (as_record r) i = absurd (let z = i in cc)
  text_chars s u (Valued x) h m i = absurd (subst (λ k. IsValue e k x) i h.0)
  text_chars s u (Code f l) h m i = absurd (let z = sym h.2 ∙ i in cc)
  text_chars s u (Proper d) h m i = absurd (let z = sym h.0 ∙ i in cc)

  source_array : (a : Shape) (y : Operand) → Stands e y → (s : Shape) → y.shape ≡ s → IsFrom a s → holds_of (array_of a (length_of_shape (outline e y.shape))) (designated e (outline e) (designator_of y)) ≡ true
  source_array a y h (Array m b) i f =
      let d = compound e order y.shape y.use_ y.what h.does (ap is_compound i) in
      subst (λ o. holds_of (array_of a (length_of_shape (outline e y.shape))) o ≡ true) (sym d.1)
      (subst (λ k. array_of a (length_of_shape (outline e k)) d.0 ≡ true) (sym i) (subst (λ k. array_of k (Some m) d.0 ≡ true) (sym f) (fits_array e order d.0 m b (subst (λ k. Fits d.0 k) i d.3) (ap (good e) (sym i) ∙ h.good))))
  source_array a y h (Open b) i f =
      let d = compound e order y.shape y.use_ y.what h.does (ap is_compound i) in
      subst (λ o. holds_of (array_of a (length_of_shape (outline e y.shape))) o ≡ true) (sym d.1)
      (subst (λ k. array_of a (length_of_shape (outline e k)) d.0 ≡ true) (sym i) (subst (λ k. array_of k None d.0 ≡ true) (sym f) (fits_open e order d.0 b (subst (λ k. Fits d.0 k) i d.3))))
  source_array a y h (TextShape m) i f =
      subst (λ k. holds_of (array_of k (length_of_shape (outline e y.shape))) (designated e (outline e) (designator_of y)) ≡ true) (sym f)
      (chars_open e order p w right y.shape y.use_ y.what h.does (text_chars y.shape y.use_ y.what h.does m i))
  source_array a y h Integer i f = absurd f
  source_array a y h _ i f = absurd f

  -- an array that is assigned isn't longer
  from_fits : (a : Shape) (n : ℕ) (s : Shape) → assignable w.known (Array n a) s ≡ true → lengths_fit (Some n) (length_of_shape (outline e s)) ≡ true
  from_fits a n (TextShape m) h = le-leb (suc m) n (let lt = ltb-true m n (subst (λ a. assignable w.known (Array n a) (TextShape m) ≡ true) (array_text a n m h) h) in omega (arith, lt))
  from_fits a n (Array m b) h =
      let same_long = eqb-true n m (and_of (nat_eq n m) (same a b) (or_no (nat_eq n m && same a b) (sym (array_array a b n m) ∙ h))).0 in
      le-leb m n (omega (arith, same_long))
  from_fits a n _ h = refl

  array_copied : (a : Shape) (m : Option ℕ) (x y : Operand) → (d : Written e order x) → element_in (outline e x.shape) ≡ a → length_of_shape (outline e x.shape) ≡ m → lengths_fit m (length_of_shape (outline e y.shape)) ≡ true → array_of a m d.0 ≡ true
      → holds_of (array_of a (length_of_shape (outline e y.shape))) (designated e (outline e) (designator_of y)) ≡ true → IsFine (CopyArray (designator_of x) (designator_of y))
  array_copied a m x y d el long fit h k =
      and_from (lengths_fit (length_of_shape (outline e x.shape)) (length_of_shape (outline e y.shape))) (holds_of (may_copy (element_in (outline e x.shape)) (length_of_shape (outline e x.shape))) (designated e (outline e) (designator_of x)) && holds_of (array_of (element_in (outline e x.shape)) (length_of_shape (outline e y.shape))) (designated e (outline e) (designator_of y)))
      (ap (λ n. lengths_fit n (length_of_shape (outline e y.shape))) long ∙ fit)
      (and_from (holds_of (may_copy (element_in (outline e x.shape)) (length_of_shape (outline e x.shape))) (designated e (outline e) (designator_of x))) (holds_of (array_of (element_in (outline e x.shape)) (length_of_shape (outline e y.shape))) (designated e (outline e) (designator_of y)))
      (ap (λ o. holds_of (may_copy (element_in (outline e x.shape)) (length_of_shape (outline e x.shape))) o) d.1 ∙ and_from (is_writable d.0) (array_of (element_in (outline e x.shape)) (length_of_shape (outline e x.shape)) d.0) d.3 (ap₂ (λ b n. array_of b n d.0) el long ∙ h))
      (ap (λ b. holds_of (array_of b (length_of_shape (outline e y.shape))) (designated e (outline e) (designator_of y))) el ∙ k))

  from_record : (r : ℕ) (s : Shape) → assignable w.known (Record r) s ≡ true → (k : ℕ) × (s ≡ Record k) × (e.extends k r ≡ true)
  from_record r (Record k) h = (k, refl, by (nat_eq r k) refl h)
    where
      drop_no : (b : Bool) → (b || false) ≡ true → b ≡ true
      drop_no true h = refl
      drop_no false h = h

      by : (c : Bool) → nat_eq r k ≡ c → ((c || record_extends w.known k r) || false) ≡ true → e.extends k r ≡ true
      by true i h = subst (λ z. e.extends z r ≡ true) (eqb-true r k i) (order.self r)
      by false i h = right.extends k r (drop_no (record_extends w.known k r) h)
  from_record r _ h = no h

  record_copied : (r : ℕ) (x y : Operand) → Written e order x → Stands e y → x.shape ≡ Record r → assignable w.known (Record r) y.shape ≡ true → IsFine (CopyRecord (designator_of x) (designator_of y))
  record_copied r x y d k i m =
      let at : record_in (outline e x.shape) ≡ r = ap (λ s. record_in (outline e s)) i in
      let f = from_record r y.shape m in
      let c = compound e order y.shape y.use_ y.what k.does (ap is_compound f.1) in
      let own = own_record e order p w right d.0 r (subst (λ s. Fits d.0 s) i d.2) in
      let other = own_record e order p w right c.0 f.0 (subst (λ s. Fits c.0 s) f.1 c.3) in
      and_from (holds_of (λ t. is_writable t && has_record e (record_in (outline e x.shape)) t) (designated e (outline e) (designator_of x))) (holds_of (has_record e (record_in (outline e x.shape))) (designated e (outline e) (designator_of y)))
      (ap (λ o. holds_of (λ t. is_writable t && has_record e (record_in (outline e x.shape)) t) o) d.1 ∙ and_from (is_writable d.0) (has_record e (record_in (outline e x.shape)) d.0) d.3 (ap₂ (λ b o. holds_of (λ s. e.extends s b) o) at own ∙ order.self r))
      (ap (λ o. holds_of (has_record e (record_in (outline e x.shape))) o) c.1 ∙ ap₂ (λ b o. holds_of (λ s. e.extends s b) o) at other ∙ f.2)

  scalar_fits : (n : Named) (t : Shape) → Fits n t → is_writable n ≡ true → is_scalar t ≡ true → (is_whole t ≡ true) × (scalar_in e n ≡ scalar e t)
  scalar_fits n t as_done w c = no w
  scalar_fits n t (as_whole s k h) w c = (h, refl)
  scalar_fits n t (as_open a k) w c = no c
  scalar_fits n t (as_record r) w c = no c

  scalar_assigned : (t : Shape) (x y : Operand) → (d : Written e order x) → Stands e x → Stands e y → x.shape ≡ t → is_scalar t ≡ true → assignable w.known t y.shape ≡ true → IsFine (Assign (designator_of x) (stored t y))
  scalar_assigned t x y d h k i c m =
      let f = scalar_fits d.0 t (subst (λ s. Fits d.0 s) i d.2) d.3 c in
      ap (λ o. holds_of (λ n. is_writable n && given_for e (checked_form e (outline e) (stored t y)) (scalar_in e n)) o) d.1
      ∙ and_from (is_writable d.0) (given_for e (checked_form e (outline e) (stored t y)) (scalar_in e d.0)) d.3
      (ap (λ o. given_for e (checked_form e (outline e) (stored t y)) o) f.1 ∙ t_stored_checked e order p w right t y k f.0 (ap (good e) (sym i) ∙ h.good) c m)

  t_assigned : (x y : Operand) → Written e order x → Stands e x → Stands e y → may_assign w.known x.shape y ≡ true → IsFine (assigned x.shape x y)
  t_assigned x y d h k m = by x.shape refl (and_of (assignable w.known x.shape y.shape) (not (is_local_code y.what)) m).0
    where
      by : (s : Shape) → x.shape ≡ s → assignable w.known s y.shape ≡ true → IsFine (assigned s x y)
      by (Array n a) i m = array_copied a (Some n) x y d (ap (λ s. element_in (outline e s)) i) (ap (λ s. length_of_shape (outline e s)) i) (from_fits a n y.shape m) (fits_array e order d.0 n a (subst (λ s. Fits d.0 s) i d.2) (ap (good e) (sym i) ∙ h.good)) (source_array a y k y.shape refl (from_array a n y.shape m))
      by (Open a) i m = array_copied a None x y d (ap (λ s. element_in (outline e s)) i) (ap (λ s. length_of_shape (outline e s)) i) refl (fits_open e order d.0 a (subst (λ s. Fits d.0 s) i d.2)) (source_array a y k y.shape refl (from_open a y.shape m))
      by (Record r) i m = record_copied r x y d k i m
      by Integer i m = scalar_assigned Integer x y d h k i refl m
      by Boolean i m = scalar_assigned Boolean x y d h k i refl m
      by Char i m = scalar_assigned Char x y d h k i refl m
      by Byte i m = scalar_assigned Byte x y d h k i refl m
      by Set i m = scalar_assigned Set x y d h k i refl m
      by Nil i m = scalar_assigned Nil x y d h k i refl m
      by Nothing i m = scalar_assigned Nothing x y d h k i refl m
      by (TextShape n) i m = scalar_assigned (TextShape n) x y d h k i refl m
      by (Pointer n) i m = scalar_assigned (Pointer n) x y d h k i refl m
      by (Procedure ps r) i m = scalar_assigned (Procedure ps r) x y d h k i refl m

  pub t_assignment : (d : S.Designator) (x : S.Expression) → Gives IsFine (assignment p w d x)
  t_assignment d v = and_then (t_destination d) (λ x h. and_then (t_expression e order p read w right v) (λ y k.
      by_rule 31 (place p d.name) (is_variable x) (λ used.
      by_rule 33 (place p d.name) (not (is_read_only x)) (λ free.
      by_rule 31 (place p (expression_first v)) (may_assign w.known x.shape y) (λ m.
      keeps IsFine (assigned x.shape x y) (t_assigned x y (written_unnarrowed e order x h.0 used (not_true (is_read_only x) free) h.1) h.0 k m))))))

  -- ---- calls

  finished_of : (x : Operand) → Stands e x × IsLast e x → IsFinished e order p w right x
  finished_of x h = record { stands = h.0; begun = λ i. no (sym i ∙ (and_of (is_call x.what || not (is_procedure x.shape)) (not (is_narrowed x)) h.1).0) }

  t_called_alone : (at : ℕ) (o : Option Object) (m : Judged Operand) → Gives (IsFinished e order p w right) m → Gives (IsFinished e order p w right) (called_alone w at o m)
  t_called_alone at (Some (AStandard s)) m g = weaken (t_standard e order p w right at s [] tt) finished_of
  t_called_alone at (Some (AConstant c)) m g = g
  t_called_alone at (Some _) m g = g
  t_called_alone at None m g = g

  t_called_bare : (at : ℕ) (x : Operand) → IsFinished e order p w right x → Gives (Stands e) (called_bare w at x x.shape)
  t_called_bare at x h = by x.shape refl
    where
      called_if : (ps : Formals) (r : Shape) → x.shape ≡ Procedure ps r → (b : Bool) → is_call x.what ≡ b → Gives (Stands e) (if b then Keeps x else called w at x ps r [])
      called_if ps r i true j = keeps (Stands e) x h.stands
      called_if ps r i false j = weaken (t_called e order p w right at x (h.begun (ap₂ (λ c s. c || not (is_procedure s)) j i)) ps r i [] tt) (λ y k. k.0)

      by : (s : Shape) → x.shape ≡ s → Gives (Stands e) (called_bare w at x s)
      by (Procedure ps r) i = called_if ps r i (is_call x.what) refl
      by Integer i = keeps (Stands e) x h.stands
      by _ i = keeps (Stands e) x h.stands

  t_deed : (at : ℕ) (y : Operand) → Stands e y → Gives IsFine (deed_of at y.shape y.what)
  t_deed at y h = by y.shape y.use_ y.what h.does
    where
      by : (s : Shape) (u : Use) (what : What) → StandsAs e s u what → Gives IsFine (deed_of at s what)
      by Nothing u (Proper d) h = keeps IsFine d h.1
      by Nothing u (Valued (Result c)) h = keeps IsFine (Invoke c) (let k = h.0 in subst (λ z. call_suits e (outline e) z ≡ true) (sym (same c k.0 k.1)) k.2)
        where
          same : (a b : Call) → Result a ≡ Result b → a ≡ b
          same a b i = cc
      by Nothing u (Valued (Literal n)) h = breaks IsFine 31 at
      by Nothing u (Valued _) h = breaks IsFine 31 at
      by Nothing u _ h = breaks IsFine 31 at
      by Integer u what h = breaks IsFine 31 at
      by _ u what h = breaks IsFine 31 at

  pub t_call_statement : (d : S.Designator) → Gives IsFine (call_statement p w d)
  t_call_statement d = and_then (anything (named p w d.name)) (λ o z. and_then (anything (alone p w o d.selectors)) (λ only z.
      and_then (t_called_alone (place p d.name) only (designator p w d) (t_designator e order p read w right d)) (λ x h.
      and_then (t_called_bare (place p d.name) x h) (λ y k. t_deed (place p d.name) y k))))

  pub t_assign_or_call : (d : S.Designator) (a : Option S.Assigned) → Gives IsFine (assign_or_call p w d a)
  t_assign_or_call d None = t_call_statement d
  t_assign_or_call d (Some a) = t_assignment d a.value

  -- ---- conditions and FOR

  abbrev pub IsCondition : Checked → Type 0
  IsCondition c = gives_number (checked_form e (outline e) c) ≡ true

  pub t_condition : (x : S.Expression) → Gives IsCondition (condition p w x)
  t_condition x = and_then (t_expression e order p read w right x) (λ y h. by_rule 31 (place p (expression_first x)) (is_truth y.shape) (λ t.
      keeps IsCondition (checked y) (ap gives_number (checked_is e order y h (truth_plain y.shape t)) ∙ truth_number (form e (outline e) (form_of y)) (truths e order y h (truth_shape y.shape t)))))
    where
      truth_plain : (s : Shape) → is_truth s ≡ true → is_plain s ≡ true
      truth_plain Boolean h = refl
      truth_plain _ h = no h

  number_plain : (s : Shape) → is_number s ≡ true → is_plain s ≡ true
  number_plain Integer h = refl
  number_plain Byte h = refl
  number_plain _ h = no h

  pub number_checked : (y : Operand) → Stands e y → is_number y.shape ≡ true → IsCondition (checked y)
  number_checked y h n = ap gives_number (checked_is e order y h (number_plain y.shape n)) ∙ numbers e order y h n

  pub t_number : (x : S.Expression) → Gives IsCondition (number p w x)
  t_number x = and_then (t_expression e order p read w right x) (λ y h. by_rule 31 (place p (expression_first x)) (is_number y.shape) (λ n. keeps IsCondition (checked y) (number_checked y h n)))

  -- the variable of a FOR
  own_base : (here : ℕ) (d : Place) → is_own e here d ≡ true → is_base d ≡ true
  own_base here (Global m v) h = refl
  own_base here (Local v) h = refl
  own_base here (Parameter k) h = refl
  own_base here _ h = no h

  pub integer_base : (o : Object) → IsOwn e w o → (d : Designator) → integer_variable w o ≡ Some d → begins_there d ≡ true
  integer_base (AVariable v) h d is = by v.shape is
    where
      by : (s : Shape) → elim s as (λ _. Option Designator) [ Integer ↦ Some (of_type v.place Integer) | other ↦ None ] ≡ Some d → begins_there d ≡ true
      by Integer j = subst (λ k. begins_there k ≡ true) (some_same (of_type v.place Integer) d j) (own_base w.module_number v.place h)
      by _ j = none_some d j
  integer_base (AConstant c) h d is = none_some d is
  integer_base _ h d is = none_some d is

  pub t_integer_variable : (o : Object) → ObjectStands e o → (d : Designator) → integer_variable w o ≡ Some d → holds_of (takes e is_full) (designated e (outline e) d) ≡ true
  t_integer_variable (AVariable v) h d is = by v.shape refl is
    where
      full : (n : Named) → Fits n Integer → is_writable n ≡ true → takes e is_full n ≡ true
      full n (as_whole Integer c i) k = and_from c true k refl

      by : (s : Shape) → v.shape ≡ s → elim s as (λ _. Option Designator) [ Integer ↦ Some (of_type v.place Integer) | other ↦ None ] ≡ Some d → holds_of (takes e is_full) (designated e (outline e) d) ≡ true
      by Integer i j =
          let f = subst (λ s. Fits h.names s) i h.fits in
          subst (λ k. holds_of (takes e is_full) (designated e (outline e) k) ≡ true) (some_same (of_type v.place Integer) d j)
          (ap (λ o. holds_of (takes e is_full) o) (designated_is e order v.place Integer h.names h.are f) ∙ full h.names f (h.integer i))
      by _ i j = none_some d j
  t_integer_variable (AConstant c) h d is = none_some d is
  t_integer_variable _ h d is = none_some d is
