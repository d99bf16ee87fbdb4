-- In the world of a scope a constant expression is a string, or of the type of a constant that is none.
use Rattle.std.proofs.Common.{◌≡◌, ℕ, zero, suc, List, [], ◌∷◌, ◌++◌, map, Bool, true, false, not, ◌&&◌, ◌||◌, Option, Some, None, option_map, refl, sym, ap, ◌∙◌, subst}
use Rattle.std.specs.Prelude.{is_some, if◌then◌else◌, slice_get}
use Rattle.std.specs.Str.{bytes_eq}
use Rattle.ob_types.proofs.Tests.{no, none_some, some_same}
use Rattle.ob_types.specs.Table.{Table}
use Rattle.ob_types.specs.declared.tree.Unary.TheVariants as TheUnary
use Rattle.ob_types.specs.declared.tree.Binary.{Binary}
use Rattle.ob_types.specs.declared.tree.Binary.TheVariants as TheBinary
use Rattle.ob_types.specs.declared.tree.Relation.TheVariants as TheComparison
use Rattle.ob_syntax.specs.Syntax as S
use Rattle.ob_syntax.specs.declared.expressions.Relation.{Relation}
use Rattle.ob_syntax.specs.declared.expressions.Relation.TheVariants as TheRelation
use Rattle.ob_syntax.specs.declared.expressions.Sign.{Sign}
use Rattle.ob_syntax.specs.declared.expressions.Sign.TheVariants as TheSign
use Rattle.ob_judge.specs.Judged.{Judged, Keeps, Breaks, ◌>>=◌}
use Rattle.ob_judge.specs.Shapes.{Shape, Integer, Boolean, Char, Byte, Set, Nil, Nothing, Record, Pointer, Procedure, is_number, is_truth, is_set, target_of, element_of}
use Rattle.ob_judge.specs.Shapes.{Text as TextShape}
use Rattle.ob_judge.specs.Operators.{Operator, Plus, Minus, Times, Slash, Div, Mod, And, Or, Row, on_numbers, on_sets, on_truths, row_of, negated_row, may_compare, are_texts}
use Rattle.ob_judge.specs.Image as I
use Rattle.ob_judge.specs.Scopes.{Object, AConstant, AType, AVariable, AProcedure, AStandard, AModule, Standard, Imported, TheOut, TheIn, Earlier, Entry, World, Source, symbol_at, place, spelled, characters, look_up, or_else, is_visible, no_names}
use Rattle.ob_judge.specs.Scopes as J
use Rattle.ob_judge.specs.Standards.{predeclared, names_of_out, names_of_in}
use Rattle.ob_judge.specs.Standards as Standards
use Rattle.ob_judge.specs.Operands.{Operand, What, Named, Valued, Chars, Code, Proper, AsVariable, AsConstant, AsValue, operand, value, as_value, is_variable, is_narrowed, is_constant, form, of_constant, whole_variable}
use Rattle.ob_judge.specs.Calls.{Given, function, proper, number, shifted, changed, set_changed, by_one, may_order, is_char_only, assigned_to, all_bound, is_count, standard, written, call_of}
use Rattle.ob_judge.specs.Symbols.{add_operator, add_symbol, mul_operator, mul_symbol, expression_first, bare_simple, bare_list}
use Rattle.ob_judge.specs.Names.{Stage, Whole, Partly, Ended, named, member, type_named, variable_read, narrowed_to, narrowing_of, object_operand, begun, finished, names_in}
use Rattle.ob_judge.specs.Names as Names
use Rattle.ob_judge.specs.Parts.{joined, signed, comparison, compared, related, tested_tag, test_of, is_test, guard_of, guarded, part_of, followed, record_of, fields_of, field, element, target, is_nothing, applied, guard_name, int_of, char_of}
use Rattle.ob_judge.specs.Expressions.{expression, simple, added, term, multiplied, factor, with_elements, with_element, selected, select, indexed, indexed_more, arguments}
use Rattle.ob_judge.specs.Modules.{offered}
use Rattle.judged_well.specs.Gives.{Gives}
use Rattle.judged_well.proofs.Judging.{keeps, breaks, and_then, by_rule, by_some, by_unit, anything}
use Rattle.judged_well.proofs.FirstWorld.{of_predeclared}
use Rattle.check_expressions.specs.constants.Constants.{basic_in, is_plain}
use Rattle.check_types.specs.declared.names.scope.Named.{Named as NamedByCode}
use Rattle.check_types.specs.declared.names.scope.Named.TheVariants as TheNamed
use Rattle.check_types.specs.declared.names.scope.Constant.TheVariants as TheConstant
use Rattle.check_types.specs.declared.names.scope.Basic.TheVariants as TheBasic
use Rattle.check_types.specs.declared.names.scope.Declared.{Declared}
use Rattle.check_types.specs.declared.names.scope.Closed.{Closed}
use Rattle.check_types.specs.declared.names.scope.Scope.{Scope}
use Rattle.check_types.specs.declared.names.scope.KnownModule.{KnownModule as ModuleByCode}
use Rattle.check_types.specs.declared.names.levels.Level.{Level}
use Rattle.check_types.specs.names.Before.{is_behind, unless_behind, names_before}
use Rattle.check_types.specs.names.Meaning.{object_of, entry_of, names_of, names_inside, module_of}
use Rattle.check_types.specs.names.Worlds.{table_of, strings_of, world_of}
use Rattle.check_types.specs.steps.Maps.{at_bytes}

abbrev is_basic : Shape → Bool
is_basic s = is_some (basic_in s)

-- of a constant: a string, or a basic type
abbrev IsConstantObject : Object → Type 0
IsConstantObject (AConstant (I.Bits s n)) = is_basic s ≡ true
IsConstantObject o = Unit {0}

-- what holds of each declaration that a name stands for
abbrev AllBasic : (List ℕ → Option Entry) → Type 0
AllBasic names = (q : List ℕ) (x : Entry) → names q ≡ Some x → IsConstantObject x.object

record Right (p : Source) (w : World) : Type 0 where
  names : (q : List ℕ) (x : Entry) → look_up q w.levels ≡ Some x → IsConstantObject x.object
  members : (m : Imported) → AllBasic (Names.names_of p w m)

-- an operand that a constant expression may have as a factor
abbrev IsPlain : Operand → Type 0
IsPlain x = is_plain x.shape x.what ≡ true

abbrev IsFactor : Operand → Type 0
IsFactor x = is_constant x ≡ true → IsPlain x

abbrev IsFactorStage : Stage → Type 0
IsFactorStage (Whole o) = IsConstantObject o
IsFactorStage (Partly x) = IsFactor x
IsFactorStage (Ended x) = IsFactor x

basic_plain : (s : Shape) (w : What) → is_basic s ≡ true → is_plain s w ≡ true
basic_plain s (Chars cs) h = refl
basic_plain s (Named d) h = h
basic_plain s (Valued x) h = h
basic_plain s (Code f l) h = h
basic_plain s (Proper d) h = h

module _ (p : Source) (w : World) where
  -- ---- operators

  row_basic : (op : Operator) (a b : Shape) (row : Row) → row_of op a b ≡ Some row → is_basic row.0 ≡ true
  row_basic op a b row h = by a b h
    where
      same : (r : Row) → is_basic r.0 ≡ true → Some r ≡ Some row → is_basic row.0 ≡ true
      same r k i = subst (λ z. is_basic z.0 ≡ true) (some_same r row i) k

      numbers : (op : Operator) → on_numbers op ≡ Some row → is_basic row.0 ≡ true
      numbers Plus i = same _ refl i
      numbers Minus i = same _ refl i
      numbers Times i = same _ refl i
      numbers Div i = same _ refl i
      numbers Mod i = same _ refl i
      numbers _ i = none_some row i

      sets : (op : Operator) → on_sets op ≡ Some row → is_basic row.0 ≡ true
      sets Plus i = same _ refl i
      sets Minus i = same _ refl i
      sets Times i = same _ refl i
      sets Slash i = same _ refl i
      sets _ i = none_some row i

      truths : (op : Operator) → on_truths op ≡ Some row → is_basic row.0 ≡ true
      truths And i = same _ refl i
      truths Or i = same _ refl i
      truths _ i = none_some row i

      by : (a b : Shape) → row_of op a b ≡ Some row → is_basic row.0 ≡ true
      by Set Set h = sets op h
      by Boolean Boolean h = truths op h
      by Integer Integer h = numbers op h
      by Integer Byte h = numbers op h
      by Byte Integer h = numbers op h
      by Byte Byte h = numbers op h
      by _ _ h = none_some row h

  joined_plain : (op : Operator) (at : ℕ) (x y : Operand) → Gives IsPlain (joined op at x y)
  joined_plain op at x y = by_some 31 at (row_of op x.shape y.shape) (λ row is. keeps IsPlain (value row.0 (row.1 (form x) (form y))) (row_basic op x.shape y.shape row is))

  negated_basic : (s : Shape) (row : Shape × (I.Expr → I.Expr)) → negated_row s ≡ Some row → is_basic row.0 ≡ true
  negated_basic Set row h = subst (λ z. is_basic z.0 ≡ true) (some_same _ row h) refl
  negated_basic Integer row h = subst (λ z. is_basic z.0 ≡ true) (some_same _ row h) refl
  negated_basic Byte row h = subst (λ z. is_basic z.0 ≡ true) (some_same _ row h) refl
  negated_basic _ row h = none_some row h

  signed_plain : (s : Option Sign) (x : Operand) → IsPlain x → Gives IsPlain (signed p w s x)
  signed_plain None x h = keeps IsPlain x h
  signed_plain (Some (TheSign.Plus i)) x h = by_rule 31 (place p i) (is_number x.shape) (λ n. keeps IsPlain (value Integer (form x)) refl)
  signed_plain (Some (TheSign.Minus i)) x h = by_some 31 (place p i) (negated_row x.shape) (λ row is. keeps IsPlain (value row.0 (row.1 (form x))) (negated_basic x.shape row is))

  compared_plain : (r : _) (at : ℕ) (x y : Operand) → Gives IsPlain (compared p w r at x y)
  compared_plain r at x y = by_rule 31 at (may_compare w.known r x.shape y.shape) (λ m. by_rule 32 at (not (w.constant && are_texts x.shape y.shape)) (λ c. keeps IsPlain (value Boolean (comparison r x y)) refl))

  related_plain : (r : Relation) (x y : Operand) → Gives IsPlain (related p w r x y)
  related_plain (TheRelation.Equal i) x y = compared_plain TheComparison.Equal (place p i) x y
  related_plain (TheRelation.NotEqual i) x y = compared_plain TheComparison.Unequal (place p i) x y
  related_plain (TheRelation.Less i) x y = compared_plain TheComparison.Less (place p i) x y
  related_plain (TheRelation.LessEqual i) x y = compared_plain TheComparison.LessEqual (place p i) x y
  related_plain (TheRelation.Greater i) x y = compared_plain TheComparison.Greater (place p i) x y
  related_plain (TheRelation.GreaterEqual i) x y = compared_plain TheComparison.GreaterEqual (place p i) x y
  related_plain (TheRelation.In i) x y = by_rule 31 (place p i) (is_number x.shape && is_set y.shape) (λ m. keeps IsPlain (value Boolean (I.In (form x) (form y))) refl)
  related_plain (TheRelation.Is i) x y = breaks IsPlain 31 (place p i)

  tested_plain : (q : Option (ℕ × Option ℕ)) (at : ℕ) (x : Operand) → Gives IsPlain (is_test p w q at x)
  tested_plain None at x = breaks IsPlain 31 at
  tested_plain (Some q) at x = and_then (anything (type_named p w 31 q.0 q.1)) (λ t z. by_some 31 at (tested_tag p w x t) (λ r is. keeps IsPlain (value Boolean (test_of x t r)) refl))

  -- ---- standard procedures and calls

  a_value : (s : Shape) (x : I.Expr) → Gives IsFactor (Keeps (value s x))
  a_value s x = keeps IsFactor (value s x) (λ h. no h)

  a_proper : (d : I.Statement) → Gives IsFactor (proper d)
  a_proper d = keeps IsFactor (operand Nothing (Proper d) AsValue) (λ h. no h)

  a_function : (s : Shape) (x : I.Expr) → is_basic s ≡ true → Gives IsFactor (function s x)
  a_function s x h = keeps IsFactor (operand s (Valued x) AsConstant) (λ _. h)

  shifted_factor : (op : Binary) (x n : Given) → Gives IsFactor (shifted op x n)
  shifted_factor op x n = and_then (anything (number x)) (λ a i. and_then (anything (number n)) (λ b j. a_function Integer (I.Linked a.form (I.Operate op b.form)) refl))

  changed_factor : (change : I.Designator → I.Checked → I.Statement) (v : Given) (n : Judged I.Checked) → Gives IsFactor (changed change v n)
  changed_factor change v n = by_unit (written v) (and_then (anything (number v)) (λ a i. and_then (anything n) (λ x j. a_proper (change _ x))))

  set_changed_factor : (change : I.Designator → I.Checked → I.Statement) (v x : Given) → Gives IsFactor (set_changed change v x)
  set_changed_factor change v x = by_unit (written v) (by_rule 31 v.at (is_set v.operand.shape) (λ s. and_then (anything (number x)) (λ a i. a_proper (change _ a))))

  standard_factor : (at : ℕ) (s : Standard) (xs : List Given) → Gives IsFactor (standard w at s xs)
  standard_factor at J.Abs (x ∷ []) = and_then (anything (number x)) (λ a i. a_function Integer (I.Apply TheUnary.Abs a.form) refl)
  standard_factor at J.Odd (x ∷ []) = and_then (anything (number x)) (λ a i. a_function Boolean (I.Apply TheUnary.Odd a.form) refl)
  standard_factor at J.Len (x ∷ []) = by_rule 31 x.at (is_variable x.operand && is_some (element_of x.operand.shape)) (λ m. a_value Integer _)
  standard_factor at J.Lsl (x ∷ n ∷ []) = shifted_factor TheBinary.Lsl x n
  standard_factor at J.Asr (x ∷ n ∷ []) = shifted_factor TheBinary.Asr x n
  standard_factor at J.Ror (x ∷ n ∷ []) = shifted_factor TheBinary.Ror x n
  standard_factor at J.Ord (x ∷ []) = by_rule 31 x.at (may_order x.operand.shape) (λ m. a_function Integer (form x.operand) refl)
  standard_factor at J.Chr (x ∷ []) = and_then (anything (number x)) (λ a i. a_function Char (I.AsByte a.form) refl)
  standard_factor at J.Inc (v ∷ []) = changed_factor I.Increase v by_one
  standard_factor at J.Inc (v ∷ n ∷ []) = changed_factor I.Increase v (number n)
  standard_factor at J.Dec (v ∷ []) = changed_factor I.Decrease v by_one
  standard_factor at J.Dec (v ∷ n ∷ []) = changed_factor I.Decrease v (number n)
  standard_factor at J.Incl (v ∷ x ∷ []) = set_changed_factor I.Include v x
  standard_factor at J.Excl (v ∷ x ∷ []) = set_changed_factor I.Exclude v x
  standard_factor at J.New (v ∷ []) = by_unit (written v) (by_some 31 v.at (target_of w.known v.operand.shape) (λ r is. by_rule 31 v.at (not (is_narrowed v.operand)) (λ n. a_proper _)))
  standard_factor at J.Assert (x ∷ []) = by_rule 31 x.at (is_truth x.operand.shape) (λ t. a_proper _)
  standard_factor at J.OutChar (x ∷ []) = and_then (anything (assigned_to w Char x)) (λ a i. a_proper (I.OutChar a))
  standard_factor at J.OutInt (x ∷ n ∷ []) = and_then (anything (assigned_to w Integer x)) (λ a i. and_then (anything (assigned_to w Integer n)) (λ b j. a_proper (I.OutInt a b)))
  standard_factor at J.OutString (x ∷ []) = by_rule 31 x.at _ (λ m. a_proper _)
  standard_factor at J.OutLn [] = a_proper I.OutLn
  standard_factor at J.InChar (v ∷ []) = by_unit (written v) (by_rule 31 v.at (is_char_only v.operand.shape) (λ m. a_proper _))
  standard_factor at s xs = breaks IsFactor 40 at

  applied_factor : (at : ℕ) (x : Operand) (s : Shape) (xs : List Given) → Gives IsFactor (applied p w at x s xs)
  applied_factor at x (Procedure ps result) xs = by_rule 40 at (is_count ps xs) (λ c. and_then (anything (all_bound w ps xs)) (λ bs z. a_value result (I.Result (call_of x x.what bs))))
  applied_factor at x _ xs = breaks IsFactor 31 at

  -- ---- designators

  a_variable : (s : Shape) (what : What) (r t n : Bool) → IsFactor (operand s what (AsVariable r t n))
  a_variable s what r t n = λ h. no h

  field_factor : (at i : ℕ) (x : Operand) → Gives IsFactor (field p w at i x)
  field_factor at i x = by_some 31 at (record_of p w x) (λ r is. by_some 30 (place p i) (fields_of (slice_get w.known.records r.0) (spelled p i)) (λ f k. by_rule 34 (place p i) _ (λ v. keeps IsFactor (part_of r.1 f.shape _) (λ h. no h))))

  element_factor : (at j : ℕ) (x i : Operand) → Gives IsFactor (element at j x i)
  element_factor at j x i = by_some 31 at (element_of x.shape) (λ s is. by_rule 31 j (is_number i.shape) (λ n. keeps IsFactor (part_of x s _) (λ h. no h)))

  target_factor : (at : ℕ) (x : Operand) → Gives IsFactor (target p w at x)
  target_factor at x = by_some 31 at (target_of w.known x.shape) (λ r is. keeps IsFactor (followed x r) (λ h. no h))

  guard_factor : (x : Operand) (t : Shape) (r : ℕ) → IsFactor (guard_of x t r)
  guard_factor x (Pointer n) r = λ h. no h
  guard_factor x (Record n) r = λ h. no h
  guard_factor x _ r = λ h. no h

  guarded_factor : (at : ℕ) (x : Operand) (t : Shape) → Gives IsFactor (guarded p w at x t)
  guarded_factor at x t = by_some 31 at (tested_tag p w x t) (λ r is. keeps IsFactor (guard_of x t r) (guard_factor x t r))

  more_factor : (at : ℕ) (x : Operand) → IsFactor x → (more : S.NextExpressions) → Gives IsFactor (indexed_more p w at x more)
  more_factor at x h S.no_expression = keeps IsFactor x h
  more_factor at x h (S.next_expression comma e rest) = and_then (anything (expression p w e)) (λ i z. and_then (element_factor at (place p (expression_first e)) x i) (λ y k. more_factor at y k rest))

  indexed_factor : (at : ℕ) (x : Operand) (list : S.Expressions) → Gives IsFactor (indexed p w at x list)
  indexed_factor at x (S.expressions first more) = and_then (anything (expression p w first)) (λ i z. and_then (element_factor at (place p (expression_first first)) x i) (λ y k. more_factor at y k more))

  narrowed_factor : (x : Operand) → is_constant x ≡ false → (pointer : Bool) (n : Option J.Narrowing) → IsFactor (narrowed_to x pointer n)
  narrowed_factor x v pointer None = λ h. no (sym v ∙ h)
  narrowed_factor x v true (Some n) = λ h. no h
  narrowed_factor x v false (Some n) = λ h. no h

  object_factor : (at : ℕ) (o : Object) → IsConstantObject o → Gives IsFactor (object_operand p w at o)
  object_factor at (AConstant (I.Bits s n)) h = keeps IsFactor (of_constant (I.Bits s n)) (λ _. h)
  object_factor at (AConstant (I.Chars cs)) h = keeps IsFactor (of_constant (I.Chars cs)) (λ _. refl)
  object_factor at (AVariable v) h = keeps IsFactor (variable_read p w v) (narrowed_factor (whole_variable w v) refl _ (narrowing_of v.place w.narrowed))
  object_factor at (AProcedure n shape l) h = keeps IsFactor (operand shape (Code n l) AsValue) (λ i. no i)
  object_factor at (AType s) h = breaks IsFactor 31 at
  object_factor at (AStandard s) h = breaks IsFactor 31 at
  object_factor at (AModule m) h = breaks IsFactor 31 at

  finished_factor : (at : ℕ) (s : Stage) → IsFactorStage s → Gives IsFactor (finished p w at s)
  finished_factor at (Whole o) h = object_factor at o h
  finished_factor at (Partly x) h = keeps IsFactor x h
  finished_factor at (Ended x) h = keeps IsFactor x h

  partly : {m : Judged Operand} → Gives IsFactor m → Gives IsFactorStage (m >>= λ y. Keeps (Partly y))
  partly g = and_then g (λ y h. keeps IsFactorStage (Partly y) h)

  ended : {m : Judged Operand} → Gives IsFactor m → Gives IsFactorStage (m >>= λ y. Keeps (Ended y))
  ended g = and_then g (λ y h. keeps IsFactorStage (Ended y) h)

  module _ (right : Right p w) where
    member_basic : (m : Imported) (i : ℕ) → Gives IsConstantObject (member p w m i)
    member_basic m i = by_some 30 (place p i) (Names.names_of p w m (spelled p i)) (λ x is. by_rule 34 (place p i) x.exported (λ e. keeps IsConstantObject x.object (right.members m (spelled p i) x is)))

    named_basic : (i : ℕ) → Gives IsConstantObject (named p w i)
    named_basic i = by_some 30 (place p i) (look_up (spelled p i) w.levels) (λ x is. by_rule 34 (place p i) (is_visible w.procedure x.object) (λ v. keeps IsConstantObject x.object (right.names (spelled p i) x is)))

    listed : (at : ℕ) (x : Operand) (list : S.Expressions) (q : Option (ℕ × Option ℕ)) →
        Gives IsFactorStage (elim q as (λ _. Judged Stage) [
          | Some q ↦ type_named p w 31 q.0 q.1 >>= λ t. guarded p w at x t >>= λ y. Keeps (Partly y)
          | None ↦ arguments p w list >>= λ xs. applied p w at x x.shape xs >>= λ y. Keeps (Ended y)
        ])
    listed at x list (Some q) = and_then (anything (type_named p w 31 q.0 q.1)) (λ t z. partly (guarded_factor at x t))
    listed at x list None = and_then (anything (arguments p w list)) (λ xs z. ended (applied_factor at x x.shape xs))

    field_stage : (at i : ℕ) (stage : Stage) → Gives IsFactorStage (begun p w at stage >>= λ x. field p w at i x >>= λ y. Keeps (Partly y))
    field_stage at i stage = and_then (anything (begun p w at stage)) (λ x z. partly (field_factor at i x))

    empty_stage : (at : ℕ) (stage : Stage) → Gives IsFactorStage (begun p w at stage >>= λ x. applied p w at x x.shape [] >>= λ y. Keeps (Ended y))
    empty_stage at stage = and_then (anything (begun p w at stage)) (λ x z. ended (applied_factor at x x.shape []))

    parens_stage : (at : ℕ) (stage : Stage) (list : S.Expressions) → Gives IsFactorStage (begun p w at stage >>= λ x. elim (guard_name x (bare_list list)) as (λ _. Judged Stage) [
      | Some q ↦ type_named p w 31 q.0 q.1 >>= λ t. guarded p w at x t >>= λ y. Keeps (Partly y)
      | None ↦ arguments p w list >>= λ xs. applied p w at x x.shape xs >>= λ y. Keeps (Ended y)
    ])
    parens_stage at stage list = and_then (anything (begun p w at stage)) (λ x z. listed at x list (guard_name x (bare_list list)))

    select_stage : (at : ℕ) (stage : Stage) (s : S.Selector) → Gives IsFactorStage (select p w at stage s)
    select_stage at (Whole (AModule m)) (S.Field period i) = and_then (member_basic m i) (λ o h. keeps IsFactorStage (Whole o) h)
    select_stage at (Whole (AStandard s)) (S.EmptyParens i j) = ended (standard_factor at s [])
    select_stage at (Whole (AStandard s)) (S.Parens i list j) = and_then (anything (arguments p w list)) (λ xs z. ended (standard_factor at s xs))
    select_stage at stage (S.Index i list j) = and_then (anything (begun p w at stage)) (λ x z. partly (indexed_factor at x list))
    select_stage at stage (S.Arrow i) = and_then (anything (begun p w at stage)) (λ x z. partly (target_factor at x))
    select_stage at stage (S.Field period i) = field_stage at i stage
    select_stage at stage (S.EmptyParens i j) = empty_stage at stage
    select_stage at stage (S.Parens i list j) = parens_stage at stage list

    selected_factor : (at : ℕ) (stage : Stage) → IsFactorStage stage → (ss : S.Selectors) → Gives IsFactor (selected p w at stage ss)
    selected_factor at stage h S.no_selector = finished_factor at stage h
    selected_factor at stage h (S.selected s rest) = and_then (select_stage at stage s) (λ next k. selected_factor at next k rest)

    -- ---- expressions, where a constant is asked for

    module _ (asked : w.constant ≡ true) where
      wanted : (b : Bool) → (not w.constant || b) ≡ true → b ≡ true
      wanted b h = sym (ap (λ c. not c || b) asked) ∙ h

      mutual
        plain_constant : (x : S.Expression) → Gives IsPlain (expression p w x)
        plain_constant (S.only left) = simple_plain left
        plain_constant (S.compared left (TheRelation.Is i) right) = and_then (anything (simple p w left)) (λ x h. by (bare_simple right) x)
          where
            by : (q : Option (ℕ × Option ℕ)) (x : Operand) → Gives IsPlain (elim q as (λ _. Judged Operand) [ None ↦ simple p w right >>= λ y. Breaks 31 (place p i) | Some r ↦ is_test p w (Some r) (place p i) x ])
            by None x = and_then (anything (simple p w right)) (λ y z. breaks IsPlain 31 (place p i))
            by (Some r) x = tested_plain (Some r) (place p i) x
        plain_constant (S.compared left (TheRelation.Equal i) right) = and_then (anything (simple p w left)) (λ x h. and_then (anything (simple p w right)) (λ y z. related_plain (TheRelation.Equal i) x y))
        plain_constant (S.compared left relation right) = and_then (anything (simple p w left)) (λ x h. and_then (anything (simple p w right)) (λ y z. related_plain relation x y))

        simple_plain : (x : S.Simple) → Gives IsPlain (simple p w x)
        simple_plain (S.simple sign first more) = and_then (term_plain first) (λ x h. and_then (signed_plain sign x h) (λ y k. added_plain y k more))

        added_plain : (x : Operand) → IsPlain x → (more : S.Addeds) → Gives IsPlain (added p w x more)
        added_plain x h S.no_term = keeps IsPlain x h
        added_plain x h (S.added operator t rest) = and_then (anything (term p w t)) (λ y z. and_then (joined_plain (add_operator operator) (place p (add_symbol operator)) x y) (λ u k. added_plain u k rest))

        term_plain : (x : S.Term) → Gives IsPlain (term p w x)
        term_plain (S.term first more) = and_then (factor_plain first) (λ x h. multiplied_plain x h more)

        multiplied_plain : (x : Operand) → IsPlain x → (more : S.Multiplieds) → Gives IsPlain (multiplied p w x more)
        multiplied_plain x h S.no_factor = keeps IsPlain x h
        multiplied_plain x h (S.multiplied operator f rest) = and_then (anything (factor p w f)) (λ y z. and_then (joined_plain (mul_operator operator) (place p (mul_symbol operator)) x y) (λ u k. multiplied_plain u k rest))

        factor_plain : (x : S.Factor) → Gives IsPlain (factor p w x)
        factor_plain (S.Int i) = keeps IsPlain (value Integer (I.Literal (int_of (symbol_at p i).kind))) refl
        factor_plain (S.Text i) = keeps IsPlain (operand (TextShape _) (Chars (characters p i)) AsValue) refl
        factor_plain (S.Char i) = keeps IsPlain (value Char (I.Literal (char_of (symbol_at p i).kind))) refl
        factor_plain (S.Nil i) = keeps IsPlain (value Nil (I.Literal 0)) refl
        factor_plain (S.True i) = keeps IsPlain (value Boolean (I.Literal 1)) refl
        factor_plain (S.False i) = keeps IsPlain (value Boolean (I.Literal 0)) refl
        factor_plain (S.EmptySet i j) = keeps IsPlain (value Set (I.Literal 0)) refl
        factor_plain (S.Set i first more j) = and_then (anything (with_element p w (I.Literal 0) first)) (λ s z. and_then (anything (with_elements p w s more)) (λ t y. keeps IsPlain (value Set t) refl))
        factor_plain (S.Designated name selectors) = and_then (named_basic name) (λ o h. and_then (selected_factor (place p name) (Whole o) h selectors) (λ x k.
            by_rule 31 (place p name) (not (is_nothing x.shape)) (λ n. by_rule 32 (place p name) (not w.constant || is_constant x) (λ c. keeps IsPlain x (k (wanted (is_constant x) c))))))
        factor_plain (S.Paren i x j) = and_then (plain_constant x) (λ y h. keeps IsPlain (as_value y) h)
        factor_plain (S.Not i x) = and_then (anything (factor p w x)) (λ y z. by_rule 31 (place p i) (is_truth y.shape) (λ t. keeps IsPlain (value Boolean (I.Apply TheUnary.Not (form y))) refl))

-- ---- the worlds of scopes

object_basic : (t : Table) (strings : List (List ℕ)) (n : NamedByCode) → IsConstantObject (object_of t strings n)
object_basic t strings (TheNamed.Constant (TheConstant.Bits TheBasic.Int k)) = refl
object_basic t strings (TheNamed.Constant (TheConstant.Bits TheBasic.Bool k)) = refl
object_basic t strings (TheNamed.Constant (TheConstant.Bits TheBasic.Char k)) = refl
object_basic t strings (TheNamed.Constant (TheConstant.Bits TheBasic.Byte k)) = refl
object_basic t strings (TheNamed.Constant (TheConstant.Bits TheBasic.Set k)) = refl
object_basic t strings (TheNamed.Constant (TheConstant.Bits TheBasic.Nil k)) = refl
object_basic t strings (TheNamed.Constant (TheConstant.Chars k)) = tt
object_basic t strings (TheNamed.Type k) = tt
object_basic t strings (TheNamed.Variable v) = tt
object_basic t strings (TheNamed.Procedure n g l) = tt
object_basic t strings (TheNamed.Standard s) = tt
object_basic t strings (TheNamed.Module m) = tt

module _ (t : Table) (strings : List (List ℕ)) where
  entry_basic : (o : Option Declared) (x : Entry) → option_map (entry_of t strings) o ≡ Some x → IsConstantObject x.object
  entry_basic None x h = none_some x h
  entry_basic (Some d) x h = subst (λ z. IsConstantObject z.object) (some_same (entry_of t strings d) x h) (object_basic t strings d.named)

  level_basic : (l : Level) → AllBasic (names_of t strings l)
  level_basic l q x h = entry_basic (at_bytes l.names q) x h

  offered_basic : (o : Option Entry) → ((x : Entry) → o ≡ Some x → IsConstantObject x.object) → (x : Entry) → offered o ≡ Some x → IsConstantObject x.object
  offered_basic None all x h = none_some x h
  offered_basic (Some e) all x h = by e.object h (all x)
    where
      by : (o : Object) → (elim o as (λ _. Option Entry) [ AModule m ↦ None | other ↦ Some e ]) ≡ Some x → (Some e ≡ Some x → IsConstantObject x.object) → IsConstantObject x.object
      by (AModule m) i f = none_some x i
      by (AConstant c) i f = f i
      by (AType s) i f = f i
      by (AVariable v) i f = f i
      by (AProcedure n s l) i f = f i
      by (AStandard s) i f = f i

  either_basic : (a b : Option Entry) → ((x : Entry) → a ≡ Some x → IsConstantObject x.object) → ((x : Entry) → b ≡ Some x → IsConstantObject x.object) → (x : Entry) → or_else a b ≡ Some x → IsConstantObject x.object
  either_basic (Some y) b f g x h = f x h
  either_basic None b f g x h = g x h

  levels_basic : (first : List ℕ → Option Entry) → AllBasic first → (ls : List Level) (q : List ℕ) (x : Entry) → look_up q (first ∷ map (names_of t strings) ls) ≡ Some x → IsConstantObject x.object
  levels_basic first h [] q x is = either_basic None (first q) (λ y k. none_some y k) (h q) x is
  levels_basic first h (l ∷ ls) q x is = either_basic (look_up q (names_of t strings l ∷ map (names_of t strings) ls)) (first q) (levels_basic (names_of t strings l) (level_basic l) ls q) (h q) x is

  unless_basic : (n : ℕ) (o : Option Entry) → ((x : Entry) → o ≡ Some x → IsConstantObject x.object) → (x : Entry) → unless_behind n o ≡ Some x → IsConstantObject x.object
  unless_basic n None all x h = none_some x h
  unless_basic n (Some y) all x h = by (is_behind n y.object) h
    where
      by : (b : Bool) → (if b then None else Some y) ≡ Some x → IsConstantObject x.object
      by true i = none_some x i
      by false i = all x i

  before_basic : (n : ℕ) (names : List ℕ → Option Entry) → AllBasic names → AllBasic (names_before n names)
  before_basic n names all q x h = unless_basic n (names q) (all q) x h

  inside_basic : (n : ℕ) (own : Level) (first : List ℕ → Option Entry) → AllBasic first → (ls : List Level) (q : List ℕ) (x : Entry)
      → look_up q (first ∷ map (λ l. names_before n (names_of t strings l)) ls ++ names_of t strings own ∷ []) ≡ Some x → IsConstantObject x.object
  inside_basic n own first h [] q x is = either_basic (look_up q (names_of t strings own ∷ [])) (first q) (λ y k. level_basic own q y k) (h q) x is
  inside_basic n own first h (l ∷ ls) q x is =
      let at = names_before n (names_of t strings l) in
      either_basic (look_up q (at ∷ map (λ k. names_before n (names_of t strings k)) ls ++ names_of t strings own ∷ [])) (first q) (inside_basic n own at (before_basic n (names_of t strings l) (level_basic l)) ls q) (h q) x is

  closed_basic : (first : List ℕ → Option Entry) → AllBasic first → (ls : List Level) (c : Option Closed) (q : List ℕ) (x : Entry) → look_up q (first ∷ names_inside t strings ls c) ≡ Some x → IsConstantObject x.object
  closed_basic first h ls None q x is = levels_basic first h ls q x is
  closed_basic first h ls (Some c) q x is = inside_basic c.procedures c.names.now first h ls q x is

  module_basic : (p : Source) (w : World) (ms : List ModuleByCode) (n : ℕ) → AllBasic (names_in (slice_get (map (module_of t strings) ms) n))
  module_basic p w [] n q x is = none_some x is
  module_basic p w (m ∷ ms) zero q x is = offered_basic (names_of t strings m.names q) (level_basic m.names q) x is
  module_basic p w (m ∷ ms) (suc n) q x is = module_basic p w ms n q x is

-- names of which none is a constant
abbrev is_no_constant : Object → Bool
is_no_constant (AConstant c) = false
is_no_constant o = true

abbrev have_no_constant : List (List ℕ × Object) → Bool
have_no_constant [] = true
have_no_constant (x ∷ xs) = is_no_constant x.1 && have_no_constant xs

no_constant : (o : Object) → is_no_constant o ≡ true → IsConstantObject o
no_constant (AConstant c) h = no h
no_constant (AType s) h = tt
no_constant (AVariable v) h = tt
no_constant (AProcedure n s l) h = tt
no_constant (AStandard s) h = tt
no_constant (AModule m) h = tt

table_basic_by : (y : List ℕ × Object) (ys : List (List ℕ × Object)) (q : List ℕ) (x : Entry) → (have_no_constant ys ≡ true → Standards.names_of ys q ≡ Some x → IsConstantObject x.object) →
    (a b : Bool) → is_no_constant y.1 ≡ a → (a && have_no_constant ys) ≡ true → (if b then Some (record { object = y.1; exported = true }) else Standards.names_of ys q) ≡ Some x → IsConstantObject x.object
table_basic_by y ys q x rest true true i k is = subst (λ z. IsConstantObject z.object) (some_same (record { object = y.1; exported = true }) x is) (no_constant y.1 i)
table_basic_by y ys q x rest true false i k is = rest k is
table_basic_by y ys q x rest false b i k is = no k

table_basic : (xs : List (List ℕ × Object)) → have_no_constant xs ≡ true → AllBasic (Standards.names_of xs)
table_basic [] h q x is = none_some x is
table_basic (y ∷ ys) h q x is = table_basic_by y ys q x (λ k. table_basic ys k q x) (is_no_constant y.1) (bytes_eq y.0 q) refl h is

right_here : (p : Source) (s : Scope) → Right p (record (world_of s) { constant = true })
right_here p s = record {
  names = closed_basic (table_of s) (strings_of s) predeclared (of_predeclared IsConstantObject tt tt tt tt tt (λ p. tt)) s.levels.now s.closed;
  members = of_module;
}
  where
    of_module : (m : Imported) → AllBasic (Names.names_of p (record (world_of s) { constant = true }) m)
    of_module TheOut = table_basic (
        (67 ∷ 104 ∷ 97 ∷ 114 ∷ [], AStandard J.OutChar) ∷
        (73 ∷ 110 ∷ 116 ∷ [], AStandard J.OutInt) ∷
        (83 ∷ 116 ∷ 114 ∷ 105 ∷ 110 ∷ 103 ∷ [], AStandard J.OutString) ∷
        (76 ∷ 110 ∷ [], AStandard J.OutLn) ∷
        []) refl
    of_module TheIn = table_basic (
        (67 ∷ 104 ∷ 97 ∷ 114 ∷ [], AStandard J.InChar) ∷
        (68 ∷ 111 ∷ 110 ∷ 101 ∷ [], AVariable (record { shape = Boolean; place = I.Done; home = J.ReadOnly; owner = 0; procedure = None })) ∷
        []) refl
    of_module (Earlier n) = module_basic (table_of s) (strings_of s) p (record (world_of s) { constant = true }) s.modules.now n

-- so it is for each expression of a scope
pub constants_are_plain : (p : Source) (s : Scope) (x : S.Expression) → Gives (λ a. is_plain a.shape a.what ≡ true) (expression p (record (world_of s) { constant = true }) x)
constants_are_plain p s x = plain_constant p (record (world_of s) { constant = true }) (right_here p s) refl x
