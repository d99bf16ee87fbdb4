-- A constant expression has a value of its type, where those that names stand for have: a truth value is 0 or 1, a character
-- is below 256, NIL is 0, and none is of type BYTE.
use Rattle.std.proofs.Common.{◌≡◌, ◌<◌, ◌-◌, ◌^◌, ◌%◌, ◌==◌, arith, pos, negsuc, int_le, int_lt, nat_lt, ℕ, suc, List, [], ◌∷◌, Bool, true, false, not, ◌&&◌, ◌||◌, Option, Some, None, option_map, refl, sym, ap, ◌∙◌, subst}
use Rattle.std.proofs.lemmas.Int.{ints}
use Rattle.std.specs.Prelude.{is_some, if◌then◌else◌, slice_get}
use Rattle.ob_types.proofs.Tests.{no, none_some, some_same, and_of}
use Rattle.ob_types.specs.declared.tree.Unary.TheVariants as TheUnary
use Rattle.ob_types.specs.declared.tree.Binary.{Binary}
use Rattle.ob_types.specs.declared.tree.Binary.TheVariants as TheBinary
use Rattle.ob_types.specs.declared.tree.Relation.TheVariants as TheComparison
use Rattle.ob_syntax.specs.Syntax as S
use Rattle.ob_syntax.specs.declared.expressions.Relation.{Relation}
use Rattle.ob_syntax.specs.declared.expressions.Relation.TheVariants as TheRelation
use Rattle.ob_syntax.specs.declared.expressions.Sign.{Sign}
use Rattle.ob_syntax.specs.declared.expressions.Sign.TheVariants as TheSign
use Rattle.ob_judge.specs.Judged.{Judged, Keeps, Breaks, ◌>>=◌}
use Rattle.ob_judge.specs.Shapes.{Shape, Integer, Boolean, Char, Byte, Set, Nil, Nothing, Record, Pointer, Procedure, is_number, is_truth, is_set, target_of, element_of}
use Rattle.ob_judge.specs.Shapes.{Text as TextShape}
use Rattle.ob_judge.specs.Operators.{Operator, Plus, Minus, Times, Slash, Div, Mod, And, Or, Row, on_numbers, on_sets, on_truths, row_of, negated_row, may_compare, are_texts, are_included}
use Rattle.ob_judge.specs.Image as I
use Rattle.ob_judge.specs.Scopes.{Object, AConstant, AType, AVariable, AProcedure, AStandard, AModule, Standard, Imported, TheOut, TheIn, Earlier, Entry, World, Source, symbol_at, place, spelled, characters, look_up, or_else, is_visible, no_names}
use Rattle.ob_judge.specs.Scopes as J
use Rattle.ob_judge.specs.Operands.{Operand, What, Named, Valued, Chars, Code, Proper, AsVariable, AsConstant, AsValue, operand, value, as_value, is_variable, is_narrowed, is_constant, form, form_in, designator_of, of_constant, whole_variable, fold, of_one, of_two, element_only, both_of, either_of, constant_in}
use Rattle.ob_judge.specs.Calls.{Given, function, proper, number, shifted, changed, set_changed, by_one, may_order, is_char_only, assigned_to, all_bound, is_count, standard, written, call_of}
use Rattle.ob_judge.specs.Symbols.{add_operator, add_symbol, mul_operator, mul_symbol, expression_first, bare_simple, bare_list}
use Rattle.ob_judge.specs.Names.{Stage, Whole, Partly, Ended, named, member, type_named, variable_read, narrowed_to, narrowing_of, object_operand, begun, finished, names_in}
use Rattle.ob_judge.specs.Names as Names
use Rattle.ob_judge.specs.Parts.{joined, signed, inclusion, comparison, compared, related, tested_tag, test_of, is_test, guard_of, guarded, part_of, followed, record_of, fields_of, field, element, target, is_nothing, applied, guard_name, int_of, char_of}
use Rattle.ob_judge.specs.Expressions.{constant, expression, simple, added, term, multiplied, factor, with_elements, with_element, selected, select, indexed, indexed_more, arguments}
use Rattle.judged_well.specs.Gives.{Gives}
use Rattle.judged_well.proofs.Judging.{keeps, breaks, and_then, by_rule, by_some, by_unit, at_last, anything}
use Rattle.ob_types.specs.Operators.{truth, holds, inside, binary_of, relation_of}
use Rattle.wrapping_numbers.specs.Sets.{subset, has}
use Rattle.ob_types.specs.Store as TheCell
use Rattle.ob_symbol.specs.declared.symbol.Kind.{Kind}
use Rattle.ob_symbol.specs.declared.symbol.Kind.TheVariants as TheKind
use Rattle.judged_well.specs.Standing.{IsRead}
use Rattle.judged_outlines.specs.ends.Ends.{IsValueOf, IsInRange, ObjectInRange, NamesInRange}

-- a value that is known is in its type's range
abbrev HasRange : Shape → Option ℕ → Type 0
HasRange s None = Unit {0}
HasRange s (Some n) = IsValueOf s n

abbrev is_text_shape : Shape → Bool
is_text_shape (TextShape n) = true
is_text_shape s = false

-- a string, or a value in its type's range
abbrev InRangeAs : Shape → What → Type 0
InRangeAs s (Chars cs) = is_text_shape s ≡ true
InRangeAs s what = HasRange s (fold (form_in s what))

any_integer : (o : Option ℕ) → HasRange Integer o
any_integer None = tt
any_integer (Some n) = tt

any_set : (o : Option ℕ) → HasRange Set o
any_set None = tt
any_set (Some n) = tt

of_truth : (b : Bool) → truth b < 2
of_truth true = omega arith
of_truth false = omega arith

of_truths : (o : Option Bool) → HasRange Boolean (option_map truth o)
of_truths None = tt
of_truths (Some b) = of_truth b

-- what of a value that may be none is a truth value
of_test : (f : ℕ → ℕ → Option ℕ) → ((a b : ℕ) → HasRange Boolean (f a b)) → (x y : Option ℕ) → HasRange Boolean (of_two f x y)
of_test f h (Some a) (Some b) = h a b
of_test f h None y = tt
of_test f h (Some a) None = tt

element_test : (a b : ℕ) → HasRange Boolean (element_only a (λ e. Some (truth (has b e))))
element_test a b = by (inside a 64)
  where
    by : (k : Bool) → HasRange Boolean (if k then Some (truth (has b a)) else None)
    by true = of_truth (has b a)
    by false = tt

both_range : (x y : Option ℕ) → HasRange Boolean y → HasRange Boolean (both_of x y)
both_range None y h = tt
both_range (Some a) y h = by (holds a)
  where
    by : (k : Bool) → HasRange Boolean (if k then y else Some 0)
    by true = h
    by false = omega arith

either_range : (x y : Option ℕ) → HasRange Boolean y → HasRange Boolean (either_of x y)
either_range None y h = tt
either_range (Some a) y h = by (holds a)
  where
    by : (k : Bool) → HasRange Boolean (if k then Some 1 else y)
    by true = omega arith
    by false = h

inside_byte : (a : ℕ) → inside a 256 ≡ true → a < 256
inside_byte a h = by (nat_lt a (2 ^ 63)) h
  where
    by : (k : Bool) → (int_le (pos 0) (if k then pos a else negsuc (2 ^ 64 - suc a)) && int_lt (if k then pos a else negsuc (2 ^ 64 - suc a)) (pos 256)) ≡ true → a < 256
    by true h = let y = and_of (int_le (pos 0) (pos a)) (int_lt (pos a) (pos 256)) h in omega (arith, ints, y.1)
    by false h = let y = and_of (int_le (pos 0) (negsuc (2 ^ 64 - suc a))) (int_lt (negsuc (2 ^ 64 - suc a)) (pos 256)) h in absurd (omega (arith, ints, y.0))

byte_range : (o : Option ℕ) → HasRange Char (of_one (λ a. if inside a 256 then Some a else None) o)
byte_range None = tt
byte_range (Some a) = by (inside a 256) refl
  where
    by : (k : Bool) → inside a 256 ≡ k → HasRange Char (if k then Some a else None)
    by true is = inside_byte a is
    by false is = tt

odd_range : (o : Option ℕ) → HasRange Boolean (of_one (λ a. Some (a % 2)) o)
odd_range None = tt
odd_range (Some a) = omega arith

not_range : (o : Option ℕ) → HasRange Boolean (of_one (λ a. Some (truth (a == 0))) o)
not_range None = tt
not_range (Some a) = of_truth (a == 0)

pub record Right (p : Source) (w : World) : Type 0 where
  pub names : (q : List ℕ) (x : Entry) → look_up q w.levels ≡ Some x → ObjectInRange x.object
  pub members : (m : Imported) → NamesInRange (Names.names_of p w m)

-- an operand that a constant expression may have as a factor
abbrev IsPlain : Operand → Type 0
IsPlain x = InRangeAs x.shape x.what

abbrev IsFactor : Operand → Type 0
IsFactor x = is_constant x ≡ true → IsPlain x

abbrev IsFactorStage : Stage → Type 0
IsFactorStage (Whole o) = ObjectInRange o
IsFactorStage (Partly x) = IsFactor x
IsFactorStage (Ended x) = IsFactor x

-- the value of a truth value
truth_in : (s : Shape) (what : What) → s ≡ Boolean → InRangeAs s what → HasRange Boolean (fold (form_in s what))
truth_in s (Chars cs) e h = no (sym (ap is_text_shape e) ∙ h)
truth_in s (Named d) e h = tt
truth_in s (Valued x) e h = subst (λ z. HasRange z (fold x)) e h
truth_in s (Code f l) e h = tt
truth_in s (Proper d) e h = omega arith

module _ (p : Source) (w : World) where
  -- ---- operators

  row_range : (op : Operator) (a b : Shape) (x y : I.Expr) → (b ≡ Boolean → HasRange Boolean (fold y)) → (row : Row) → row_of op a b ≡ Some row → HasRange row.0 (fold (row.1 x y))
  row_range op a b x y h row is = by a b h is
    where
      same : (r : Row) → HasRange r.0 (fold (r.1 x y)) → Some r ≡ Some row → HasRange row.0 (fold (row.1 x y))
      same r k i = subst (λ z. HasRange z.0 (fold (z.1 x y))) (some_same r row i) k

      numbers : (op : Operator) → on_numbers op ≡ Some row → HasRange row.0 (fold (row.1 x y))
      numbers Plus i = same _ (any_integer _) i
      numbers Minus i = same _ (any_integer _) i
      numbers Times i = same _ (any_integer _) i
      numbers Div i = same _ (any_integer _) i
      numbers Mod i = same _ (any_integer _) i
      numbers _ i = none_some row i

      sets : (op : Operator) → on_sets op ≡ Some row → HasRange row.0 (fold (row.1 x y))
      sets Plus i = same _ (any_set _) i
      sets Minus i = same _ (any_set _) i
      sets Times i = same _ (any_set _) i
      sets Slash i = same _ (any_set _) i
      sets _ i = none_some row i

      truths : HasRange Boolean (fold y) → (op : Operator) → on_truths op ≡ Some row → HasRange row.0 (fold (row.1 x y))
      truths k And i = same _ (both_range (fold x) (fold y) k) i
      truths k Or i = same _ (either_range (fold x) (fold y) k) i
      truths k _ i = none_some row i

      by : (a b : Shape) → (b ≡ Boolean → HasRange Boolean (fold y)) → row_of op a b ≡ Some row → HasRange row.0 (fold (row.1 x y))
      by Set Set k i = sets op i
      by Boolean Boolean k i = truths (k refl) op i
      by Integer Integer k i = numbers op i
      by Integer Byte k i = numbers op i
      by Byte Integer k i = numbers op i
      by Byte Byte k i = numbers op i
      by _ _ k i = none_some row i

  joined_plain : (op : Operator) (at : ℕ) (x y : Operand) → IsPlain y → Gives IsPlain (joined op at x y)
  joined_plain op at x y h = by_some 31 at (row_of op x.shape y.shape) (λ row is.
      keeps IsPlain (value row.0 (row.1 (form x) (form y))) (row_range op x.shape y.shape (form x) (form y) (λ e. truth_in y.shape y.what e h) row is))

  negated_range : (s : Shape) (x : I.Expr) (row : Shape × (I.Expr → I.Expr)) → negated_row s ≡ Some row → HasRange row.0 (fold (row.1 x))
  negated_range Set x row h = subst (λ z. HasRange z.0 (fold (z.1 x))) (some_same _ row h) (any_set _)
  negated_range Integer x row h = subst (λ z. HasRange z.0 (fold (z.1 x))) (some_same _ row h) (any_integer _)
  negated_range Byte x row h = subst (λ z. HasRange z.0 (fold (z.1 x))) (some_same _ row h) (any_integer _)
  negated_range _ x row h = none_some row h

  signed_plain : (s : Option Sign) (x : Operand) → IsPlain x → Gives IsPlain (signed p w s x)
  signed_plain None x h = keeps IsPlain x h
  signed_plain (Some (TheSign.Plus i)) x h = by_rule 31 (place p i) (is_number x.shape) (λ n. keeps IsPlain (value Integer (form x)) (any_integer (fold (form x))))
  signed_plain (Some (TheSign.Minus i)) x h = by_some 31 (place p i) (negated_row x.shape) (λ row is. keeps IsPlain (value row.0 (row.1 (form x))) (negated_range x.shape (form x) row is))

  inclusion_range : (r : _) (x y : I.Expr) → HasRange Boolean (fold (inclusion r x y))
  inclusion_range TheComparison.GreaterEqual x y = of_test (binary_of TheBinary.Superset) (λ a b. of_truth (subset b a)) (fold x) (fold y)
  inclusion_range TheComparison.Equal x y = of_test (binary_of TheBinary.Subset) (λ a b. of_truth (subset a b)) (fold x) (fold y)
  inclusion_range TheComparison.Unequal x y = of_test (binary_of TheBinary.Subset) (λ a b. of_truth (subset a b)) (fold x) (fold y)
  inclusion_range TheComparison.Less x y = of_test (binary_of TheBinary.Subset) (λ a b. of_truth (subset a b)) (fold x) (fold y)
  inclusion_range TheComparison.LessEqual x y = of_test (binary_of TheBinary.Subset) (λ a b. of_truth (subset a b)) (fold x) (fold y)
  inclusion_range TheComparison.Greater x y = of_test (binary_of TheBinary.Subset) (λ a b. of_truth (subset a b)) (fold x) (fold y)

  comparison_range : (r : _) (x y : Operand) → HasRange Boolean (fold (comparison r x y))
  comparison_range r x y = by (are_texts x.shape y.shape) (are_included r x.shape y.shape)
    where
      by : (a b : Bool) → HasRange Boolean (fold (if a then I.CompareTexts r (designator_of x) (designator_of y) else if b then inclusion r (form x) (form y) else I.Compare r (form x) (form y)))
      by true b = tt
      by false true = inclusion_range r (form x) (form y)
      by false false = of_test (λ a b. option_map truth (relation_of r (TheCell.Bits a) (TheCell.Bits b))) (λ a b. of_truths (relation_of r (TheCell.Bits a) (TheCell.Bits b))) (fold (form x)) (fold (form y))

  compared_plain : (r : _) (at : ℕ) (x y : Operand) → Gives IsPlain (compared p w r at x y)
  compared_plain r at x y = by_rule 31 at (may_compare w.known r x.shape y.shape) (λ m. by_rule 32 at (not (w.constant && are_texts x.shape y.shape)) (λ c. keeps IsPlain (value Boolean (comparison r x y)) (comparison_range r x y)))

  related_plain : (r : Relation) (x y : Operand) → Gives IsPlain (related p w r x y)
  related_plain (TheRelation.Equal i) x y = compared_plain TheComparison.Equal (place p i) x y
  related_plain (TheRelation.NotEqual i) x y = compared_plain TheComparison.Unequal (place p i) x y
  related_plain (TheRelation.Less i) x y = compared_plain TheComparison.Less (place p i) x y
  related_plain (TheRelation.LessEqual i) x y = compared_plain TheComparison.LessEqual (place p i) x y
  related_plain (TheRelation.Greater i) x y = compared_plain TheComparison.Greater (place p i) x y
  related_plain (TheRelation.GreaterEqual i) x y = compared_plain TheComparison.GreaterEqual (place p i) x y
  related_plain (TheRelation.In i) x y = by_rule 31 (place p i) (is_number x.shape && is_set y.shape) (λ m. keeps IsPlain (value Boolean (I.In (form x) (form y))) (of_test (λ a b. element_only a (λ e. Some (truth (has b e)))) element_test (fold (form x)) (fold (form y))))
  related_plain (TheRelation.Is i) x y = breaks IsPlain 31 (place p i)

  test_range : (x : Operand) (t : Shape) (r : ℕ) → HasRange Boolean (fold (test_of x t r))
  test_range x (Pointer n) r = tt
  test_range x Integer r = tt
  test_range x t r = tt

  tested_plain : (q : Option (ℕ × Option ℕ)) (at : ℕ) (x : Operand) → Gives IsPlain (is_test p w q at x)
  tested_plain None at x = breaks IsPlain 31 at
  tested_plain (Some q) at x = and_then (anything (type_named p w 31 q.0 q.1)) (λ t z. by_some 31 at (tested_tag p w x t) (λ r is. keeps IsPlain (value Boolean (test_of x t r)) (test_range x t r)))

  -- ---- standard procedures and calls

  a_value : (s : Shape) (x : I.Expr) → Gives IsFactor (Keeps (value s x))
  a_value s x = keeps IsFactor (value s x) (λ h. no h)

  a_proper : (d : I.Statement) → Gives IsFactor (proper d)
  a_proper d = keeps IsFactor (operand Nothing (Proper d) AsValue) (λ h. no h)

  a_function : (s : Shape) (x : I.Expr) → HasRange s (fold x) → Gives IsFactor (function s x)
  a_function s x h = keeps IsFactor (operand s (Valued x) AsConstant) (λ _. h)

  shifted_factor : (op : Binary) (x n : Given) → Gives IsFactor (shifted op x n)
  shifted_factor op x n = and_then (anything (number x)) (λ a i. and_then (anything (number n)) (λ b j. a_function Integer (I.Linked a.form (I.Operate op b.form)) (any_integer _)))

  changed_factor : (change : I.Designator → I.Checked → I.Statement) (v : Given) (n : Judged I.Checked) → Gives IsFactor (changed change v n)
  changed_factor change v n = by_unit (written v) (and_then (anything (number v)) (λ a i. and_then (anything n) (λ x j. a_proper (change _ x))))

  set_changed_factor : (change : I.Designator → I.Checked → I.Statement) (v x : Given) → Gives IsFactor (set_changed change v x)
  set_changed_factor change v x = by_unit (written v) (by_rule 31 v.at (is_set v.operand.shape) (λ s. and_then (anything (number x)) (λ a i. a_proper (change _ a))))

  standard_factor : (at : ℕ) (s : Standard) (xs : List Given) → Gives IsFactor (standard w at s xs)
  standard_factor at J.Abs (x ∷ []) = and_then (anything (number x)) (λ a i. a_function Integer (I.Apply TheUnary.Abs a.form) (any_integer _))
  standard_factor at J.Odd (x ∷ []) = and_then (anything (number x)) (λ a i. a_function Boolean (I.Apply TheUnary.Odd a.form) (odd_range (fold a.form)))
  standard_factor at J.Len (x ∷ []) = by_rule 31 x.at (is_variable x.operand && is_some (element_of x.operand.shape)) (λ m. a_value Integer _)
  standard_factor at J.Lsl (x ∷ n ∷ []) = shifted_factor TheBinary.Lsl x n
  standard_factor at J.Asr (x ∷ n ∷ []) = shifted_factor TheBinary.Asr x n
  standard_factor at J.Ror (x ∷ n ∷ []) = shifted_factor TheBinary.Ror x n
  standard_factor at J.Ord (x ∷ []) = by_rule 31 x.at (may_order x.operand.shape) (λ m. a_function Integer (form x.operand) (any_integer _))
  standard_factor at J.Chr (x ∷ []) = and_then (anything (number x)) (λ a i. a_function Char (I.AsByte a.form) (byte_range (fold a.form)))
  standard_factor at J.Inc (v ∷ []) = changed_factor I.Increase v by_one
  standard_factor at J.Inc (v ∷ n ∷ []) = changed_factor I.Increase v (number n)
  standard_factor at J.Dec (v ∷ []) = changed_factor I.Decrease v by_one
  standard_factor at J.Dec (v ∷ n ∷ []) = changed_factor I.Decrease v (number n)
  standard_factor at J.Incl (v ∷ x ∷ []) = set_changed_factor I.Include v x
  standard_factor at J.Excl (v ∷ x ∷ []) = set_changed_factor I.Exclude v x
  standard_factor at J.New (v ∷ []) = by_unit (written v) (by_some 31 v.at (target_of w.known v.operand.shape) (λ r is. by_rule 31 v.at (not (is_narrowed v.operand)) (λ n. a_proper _)))
  standard_factor at J.Assert (x ∷ []) = by_rule 31 x.at (is_truth x.operand.shape) (λ t. a_proper _)
  standard_factor at J.OutChar (x ∷ []) = and_then (anything (assigned_to w Char x)) (λ a i. a_proper (I.OutChar a))
  standard_factor at J.OutInt (x ∷ n ∷ []) = and_then (anything (assigned_to w Integer x)) (λ a i. and_then (anything (assigned_to w Integer n)) (λ b j. a_proper (I.OutInt a b)))
  standard_factor at J.OutString (x ∷ []) = by_rule 31 x.at _ (λ m. a_proper _)
  standard_factor at J.OutLn [] = a_proper I.OutLn
  standard_factor at J.InChar (v ∷ []) = by_unit (written v) (by_rule 31 v.at (is_char_only v.operand.shape) (λ m. a_proper _))
  standard_factor at s xs = breaks IsFactor 40 at

  applied_factor : (at : ℕ) (x : Operand) (s : Shape) (xs : List Given) → Gives IsFactor (applied p w at x s xs)
  applied_factor at x (Procedure ps result) xs = by_rule 40 at (is_count ps xs) (λ c. and_then (anything (all_bound w ps xs)) (λ bs z. a_value result (I.Result (call_of x x.what bs))))
  applied_factor at x _ xs = breaks IsFactor 31 at

  -- ---- designators

  a_variable : (s : Shape) (what : What) (r t n : Bool) → IsFactor (operand s what (AsVariable r t n))
  a_variable s what r t n = λ h. no h

  field_factor : (at i : ℕ) (x : Operand) → Gives IsFactor (field p w at i x)
  field_factor at i x = by_some 31 at (record_of p w x) (λ r is. by_some 30 (place p i) (fields_of (slice_get w.known.records r.0) (spelled p i)) (λ f k. by_rule 34 (place p i) _ (λ v. keeps IsFactor (part_of r.1 f.shape _) (λ h. no h))))

  element_factor : (at j : ℕ) (x i : Operand) → Gives IsFactor (element at j x i)
  element_factor at j x i = by_some 31 at (element_of x.shape) (λ s is. by_rule 31 j (is_number i.shape) (λ n. keeps IsFactor (part_of x s _) (λ h. no h)))

  target_factor : (at : ℕ) (x : Operand) → Gives IsFactor (target p w at x)
  target_factor at x = by_some 31 at (target_of w.known x.shape) (λ r is. keeps IsFactor (followed x r) (λ h. no h))

  guard_factor : (x : Operand) (t : Shape) (r : ℕ) → IsFactor (guard_of x t r)
  guard_factor x (Pointer n) r = λ h. no h
  guard_factor x (Record n) r = λ h. no h
  guard_factor x _ r = λ h. no h

  guarded_factor : (at : ℕ) (x : Operand) (t : Shape) → Gives IsFactor (guarded p w at x t)
  guarded_factor at x t = by_some 31 at (tested_tag p w x t) (λ r is. keeps IsFactor (guard_of x t r) (guard_factor x t r))

  more_factor : (at : ℕ) (x : Operand) → IsFactor x → (more : S.NextExpressions) → Gives IsFactor (indexed_more p w at x more)
  more_factor at x h S.no_expression = keeps IsFactor x h
  more_factor at x h (S.next_expression comma e rest) = and_then (anything (expression p w e)) (λ i z. and_then (element_factor at (place p (expression_first e)) x i) (λ y k. more_factor at y k rest))

  indexed_factor : (at : ℕ) (x : Operand) (list : S.Expressions) → Gives IsFactor (indexed p w at x list)
  indexed_factor at x (S.expressions first more) = and_then (anything (expression p w first)) (λ i z. and_then (element_factor at (place p (expression_first first)) x i) (λ y k. more_factor at y k more))

  narrowed_factor : (x : Operand) → is_constant x ≡ false → (pointer : Bool) (n : Option J.Narrowing) → IsFactor (narrowed_to x pointer n)
  narrowed_factor x v pointer None = λ h. no (sym v ∙ h)
  narrowed_factor x v true (Some n) = λ h. no h
  narrowed_factor x v false (Some n) = λ h. no h

  object_factor : (at : ℕ) (o : Object) → ObjectInRange o → Gives IsFactor (object_operand p w at o)
  object_factor at (AConstant (I.Bits s n)) h = keeps IsFactor (of_constant (I.Bits s n)) (λ _. h)
  object_factor at (AConstant (I.Chars cs)) h = keeps IsFactor (of_constant (I.Chars cs)) (λ _. refl)
  object_factor at (AVariable v) h = keeps IsFactor (variable_read p w v) (narrowed_factor (whole_variable w v) refl _ (narrowing_of v.place w.narrowed))
  object_factor at (AProcedure n shape l) h = keeps IsFactor (operand shape (Code n l) AsValue) (λ i. no i)
  object_factor at (AType s) h = breaks IsFactor 31 at
  object_factor at (AStandard s) h = breaks IsFactor 31 at
  object_factor at (AModule m) h = breaks IsFactor 31 at

  finished_factor : (at : ℕ) (s : Stage) → IsFactorStage s → Gives IsFactor (finished p w at s)
  finished_factor at (Whole o) h = object_factor at o h
  finished_factor at (Partly x) h = keeps IsFactor x h
  finished_factor at (Ended x) h = keeps IsFactor x h

  partly : {m : Judged Operand} → Gives IsFactor m → Gives IsFactorStage (m >>= λ y. Keeps (Partly y))
  partly g = and_then g (λ y h. keeps IsFactorStage (Partly y) h)

  ended : {m : Judged Operand} → Gives IsFactor m → Gives IsFactorStage (m >>= λ y. Keeps (Ended y))
  ended g = and_then g (λ y h. keeps IsFactorStage (Ended y) h)

  module _ (read : IsRead p) (right : Right p w) where
    member_basic : (m : Imported) (i : ℕ) → Gives ObjectInRange (member p w m i)
    member_basic m i = by_some 30 (place p i) (Names.names_of p w m (spelled p i)) (λ x is. by_rule 34 (place p i) x.exported (λ e. keeps ObjectInRange x.object (right.members m (spelled p i) x is)))

    named_basic : (i : ℕ) → Gives ObjectInRange (named p w i)
    named_basic i = by_some 30 (place p i) (look_up (spelled p i) w.levels) (λ x is. by_rule 34 (place p i) (is_visible w.procedure x.object) (λ v. keeps ObjectInRange x.object (right.names (spelled p i) x is)))

    listed : (at : ℕ) (x : Operand) (list : S.Expressions) (q : Option (ℕ × Option ℕ)) →
        Gives IsFactorStage (elim q as (λ _. Judged Stage) [
          | Some q ↦ type_named p w 31 q.0 q.1 >>= λ t. guarded p w at x t >>= λ y. Keeps (Partly y)
          | None ↦ arguments p w list >>= λ xs. applied p w at x x.shape xs >>= λ y. Keeps (Ended y)
        ])
    listed at x list (Some q) = and_then (anything (type_named p w 31 q.0 q.1)) (λ t z. partly (guarded_factor at x t))
    listed at x list None = and_then (anything (arguments p w list)) (λ xs z. ended (applied_factor at x x.shape xs))

    field_stage : (at i : ℕ) (stage : Stage) → Gives IsFactorStage (begun p w at stage >>= λ x. field p w at i x >>= λ y. Keeps (Partly y))
    field_stage at i stage = and_then (anything (begun p w at stage)) (λ x z. partly (field_factor at i x))

    empty_stage : (at : ℕ) (stage : Stage) → Gives IsFactorStage (begun p w at stage >>= λ x. applied p w at x x.shape [] >>= λ y. Keeps (Ended y))
    empty_stage at stage = and_then (anything (begun p w at stage)) (λ x z. ended (applied_factor at x x.shape []))

    parens_stage : (at : ℕ) (stage : Stage) (list : S.Expressions) → Gives IsFactorStage (begun p w at stage >>= λ x. elim (guard_name x (bare_list list)) as (λ _. Judged Stage) [
      | Some q ↦ type_named p w 31 q.0 q.1 >>= λ t. guarded p w at x t >>= λ y. Keeps (Partly y)
      | None ↦ arguments p w list >>= λ xs. applied p w at x x.shape xs >>= λ y. Keeps (Ended y)
    ])
    parens_stage at stage list = and_then (anything (begun p w at stage)) (λ x z. listed at x list (guard_name x (bare_list list)))

    select_stage : (at : ℕ) (stage : Stage) (s : S.Selector) → Gives IsFactorStage (select p w at stage s)
    select_stage at (Whole (AModule m)) (S.Field period i) = and_then (member_basic m i) (λ o h. keeps IsFactorStage (Whole o) h)
    select_stage at (Whole (AStandard s)) (S.EmptyParens i j) = ended (standard_factor at s [])
    select_stage at (Whole (AStandard s)) (S.Parens i list j) = and_then (anything (arguments p w list)) (λ xs z. ended (standard_factor at s xs))
    select_stage at stage (S.Index i list j) = and_then (anything (begun p w at stage)) (λ x z. partly (indexed_factor at x list))
    select_stage at stage (S.Arrow i) = and_then (anything (begun p w at stage)) (λ x z. partly (target_factor at x))
    select_stage at stage (S.Field period i) = field_stage at i stage
    select_stage at stage (S.EmptyParens i j) = empty_stage at stage
    select_stage at stage (S.Parens i list j) = parens_stage at stage list

    selected_factor : (at : ℕ) (stage : Stage) → IsFactorStage stage → (ss : S.Selectors) → Gives IsFactor (selected p w at stage ss)
    selected_factor at stage h S.no_selector = finished_factor at stage h
    selected_factor at stage h (S.selected s rest) = and_then (select_stage at stage s) (λ next k. selected_factor at next k rest)

    -- ---- expressions, where a constant is asked for

    module _ (asked : w.constant ≡ true) where
      wanted : (b : Bool) → (not w.constant || b) ≡ true → b ≡ true
      wanted b h = sym (ap (λ c. not c || b) asked) ∙ h

      char_range : (i : ℕ) (k : Kind) → (symbol_at p i).kind ≡ k → char_of k < 256
      char_range i (TheKind.Char n) is = read.chars i n is
      char_range i (TheKind.Int z) is = omega arith
      char_range i k is = omega arith

      mutual
        pub plain_constant : (x : S.Expression) → Gives IsPlain (expression p w x)
        plain_constant (S.only left) = simple_plain left
        plain_constant (S.compared left (TheRelation.Is i) right) = and_then (anything (simple p w left)) (λ x h. by (bare_simple right) x)
          where
            by : (q : Option (ℕ × Option ℕ)) (x : Operand) → Gives IsPlain (elim q as (λ _. Judged Operand) [ None ↦ simple p w right >>= λ y. Breaks 31 (place p i) | Some r ↦ is_test p w (Some r) (place p i) x ])
            by None x = and_then (anything (simple p w right)) (λ y z. breaks IsPlain 31 (place p i))
            by (Some r) x = tested_plain (Some r) (place p i) x
        plain_constant (S.compared left (TheRelation.Equal i) right) = and_then (anything (simple p w left)) (λ x h. and_then (anything (simple p w right)) (λ y z. related_plain (TheRelation.Equal i) x y))
        plain_constant (S.compared left relation right) = and_then (anything (simple p w left)) (λ x h. and_then (anything (simple p w right)) (λ y z. related_plain relation x y))

        simple_plain : (x : S.Simple) → Gives IsPlain (simple p w x)
        simple_plain (S.simple sign first more) = and_then (term_plain first) (λ x h. and_then (signed_plain sign x h) (λ y k. added_plain y k more))

        added_plain : (x : Operand) → IsPlain x → (more : S.Addeds) → Gives IsPlain (added p w x more)
        added_plain x h S.no_term = keeps IsPlain x h
        added_plain x h (S.added operator t rest) = and_then (term_plain t) (λ y z. and_then (joined_plain (add_operator operator) (place p (add_symbol operator)) x y z) (λ u k. added_plain u k rest))

        term_plain : (x : S.Term) → Gives IsPlain (term p w x)
        term_plain (S.term first more) = and_then (factor_plain first) (λ x h. multiplied_plain x h more)

        multiplied_plain : (x : Operand) → IsPlain x → (more : S.Multiplieds) → Gives IsPlain (multiplied p w x more)
        multiplied_plain x h S.no_factor = keeps IsPlain x h
        multiplied_plain x h (S.multiplied operator f rest) = and_then (factor_plain f) (λ y z. and_then (joined_plain (mul_operator operator) (place p (mul_symbol operator)) x y z) (λ u k. multiplied_plain u k rest))

        factor_plain : (x : S.Factor) → Gives IsPlain (factor p w x)
        factor_plain (S.Int i) = keeps IsPlain (value Integer (I.Literal (int_of (symbol_at p i).kind))) tt
        factor_plain (S.Text i) = keeps IsPlain (operand (TextShape _) (Chars (characters p i)) AsValue) refl
        factor_plain (S.Char i) = keeps IsPlain (value Char (I.Literal (char_of (symbol_at p i).kind))) (char_range i (symbol_at p i).kind refl)
        factor_plain (S.Nil i) = keeps IsPlain (value Nil (I.Literal 0)) refl
        factor_plain (S.True i) = keeps IsPlain (value Boolean (I.Literal 1)) (omega arith)
        factor_plain (S.False i) = keeps IsPlain (value Boolean (I.Literal 0)) (omega arith)
        factor_plain (S.EmptySet i j) = keeps IsPlain (value Set (I.Literal 0)) tt
        factor_plain (S.Set i first more j) = and_then (anything (with_element p w (I.Literal 0) first)) (λ s z. and_then (anything (with_elements p w s more)) (λ t y. keeps IsPlain (value Set t) (any_set (fold t))))
        factor_plain (S.Designated name selectors) = and_then (named_basic name) (λ o h. and_then (selected_factor (place p name) (Whole o) h selectors) (λ x k.
            by_rule 31 (place p name) (not (is_nothing x.shape)) (λ n. by_rule 32 (place p name) (not w.constant || is_constant x) (λ c. keeps IsPlain x (k (wanted (is_constant x) c))))))
        factor_plain (S.Paren i x j) = and_then (plain_constant x) (λ y h. keeps IsPlain (as_value y) h)
        factor_plain (S.Not i x) = and_then (anything (factor p w x)) (λ y z. by_rule 31 (place p i) (is_truth y.shape) (λ t. keeps IsPlain (value Boolean (I.Apply TheUnary.Not (form y))) (not_range (fold (form y)))))

-- so has each constant
constant_range : (s : Shape) (what : What) → InRangeAs s what → (c : I.Constant) → constant_in s what ≡ Some c → IsInRange c
constant_range s (Chars cs) h c is = subst IsInRange (some_same (I.Chars cs) c is) tt
constant_range s (Named d) h c is = none_some c is
constant_range s (Code f l) h c is = none_some c is
constant_range s (Proper d) h c is = subst IsInRange (some_same (I.Bits s 0) c is) h
constant_range s (Valued x) h c is = by (fold x) h is
  where
    by : (o : Option ℕ) → HasRange s o → option_map (I.Bits s) o ≡ Some c → IsInRange c
    by None h is = none_some c is
    by (Some n) h is = subst IsInRange (some_same (I.Bits s n) c is) h

pub constants_in_range : (p : Source) (w : World) → IsRead p → Right p (record w { constant = true }) → (x : S.Expression) → Gives IsInRange (constant p w x)
constants_in_range p w read right x = and_then (plain_constant p (record w { constant = true }) read right refl x) (λ y h. at_last 35 (place p (expression_first x)) (constant_in y.shape y.what) (λ c is. constant_range y.shape y.what h c is))
