-- Parts of operands, guards, tests and operators name pointer types that there are.
use Rattle.std.proofs.Common.{◌≡◌, ℕ, ◌<◌, List, Bool, true, false, not, ◌&&◌, ◌||◌, Option, Some, None, refl, ap, ap₂, subst}
use Rattle.std.specs.Prelude.{slice_get, nat_eq, if◌then◌else◌}
use Rattle.ob_types.proofs.Tests.{none_some, some_same}
use Rattle.ob_types.specs.declared.tree.Unary.TheVariants as TheUnary
use Rattle.ob_types.specs.declared.tree.Binary.{Binary}
use Rattle.ob_types.specs.declared.tree.Binary.TheVariants as TheBinary
use Rattle.ob_types.specs.declared.tree.Relation.{Relation as Comparison}
use Rattle.ob_types.specs.declared.tree.Relation.TheVariants as TheComparison
use Rattle.ob_syntax.specs.declared.expressions.Relation.{Relation}
use Rattle.ob_syntax.specs.declared.expressions.Relation.TheVariants as TheRelation
use Rattle.ob_syntax.specs.declared.expressions.Sign.{Sign}
use Rattle.ob_syntax.specs.declared.expressions.Sign.TheVariants as TheSign
use Rattle.ob_judge.specs.Shapes.{Shape, Integer, Boolean, Byte, Set, Array, Open, Record, Pointer, Layout, Field as FieldOf, target_of, is_number, is_truth, is_set, element_of}
use Rattle.ob_judge.specs.Image.{Expr, Guard, Apply, Linked, Operate, And, Or, Compare, CompareTexts, In, IsPointer, IsParameter, Index, Field, Dereference, Narrow}
use Rattle.ob_judge.specs.Operators.{Operator, Plus, Minus, Times, Slash, Div, Mod, Row, operated, on_numbers, on_sets, on_truths, row_of, negated_row, are_texts, are_included, may_compare}
use Rattle.ob_judge.specs.Operators as Op
use Rattle.ob_judge.specs.Scopes.{World, Source, place, spelled}
use Rattle.ob_judge.specs.Operands.{Operand, value, form, place_of, length_of, designator_of, is_constant}
use Rattle.ob_judge.specs.Parts.{part_of, followed, record_of, fields_of, field, element, target, tested_tag, guard_of, guarded, test_of, tested, joined, signed, inverted, inclusion, comparison, compared, is_in, set_element, related, is_test, is_nothing, as_factor}
use Rattle.judged_well.specs.Gives.{Gives}
use Rattle.judged_well.proofs.Judging.{keeps, breaks, and_then, by_rule, by_some}
use Rattle.judged_outlines.specs.Among.{PointsAmong, WorldAmong}
use Rattle.judged_outlines.proofs.Images.{OperandStays, ExprStays, form_stays, place_stays, designator_stays, pointer_stays}
use Rattle.judged_outlines.proofs.Named.{a_type_named}

module _ (n : ℕ) (p : Source) (w : World) (among : WorldAmong n w) (before later : List (Option ℕ)) (same : (k : ℕ) → k < n → slice_get later k ≡ slice_get before k) where
  abbrev Stays : Operand → Type 0
  Stays = OperandStays n before later same

  abbrev Same : Expr → Type 0
  Same = ExprStays n before later same

  formed : (x : Operand) → Stays x → Same (form x)
  formed x h = form_stays n before later same x h

  -- a value of a type without pointer types
  a_value : (s : Shape) (x : Expr) → PointsAmong n s → Same x → Stays (value s x)
  a_value s x h k = record { shape = h; what = k }

  -- ---- parts

  followed_stays : (x : Operand) (r : ℕ) → Stays x → Stays (followed x r)
  followed_stays x r h = record { shape = tt; what = ap Dereference (pointer_stays n before later same (form x) (formed x h)) }

  record_stays : (x : Operand) → Stays x → (r : ℕ × Operand) → record_of p w x ≡ Some r → Stays r.1
  record_stays x h r is = by x.shape is
    where
      through : (o : Option ℕ) → elim o as (λ _. Option (ℕ × Operand)) [ Some k ↦ Some (k, followed x k) | None ↦ None ] ≡ Some r → Stays r.1
      through None i = none_some r i
      through (Some k) i = subst (λ z. Stays z.1) (some_same (k, followed x k) r i) (followed_stays x k h)

      by : (s : Shape) → elim s as (λ _. Option (ℕ × Operand)) [
        | Record m ↦ Some (m, x)
        | Pointer m ↦ elim (target_of w.known (Pointer m)) as (λ _. Option (ℕ × Operand)) [ Some k ↦ Some (k, followed x k) | None ↦ None ]
        | other ↦ None
      ] ≡ Some r → Stays r.1
      by (Record m) i = subst (λ z. Stays z.1) (some_same (m, x) r i) h
      by (Pointer m) i = through (target_of w.known (Pointer m)) i
      by Integer i = none_some r i
      by _ i = none_some r i

  field_among : (o : Option Layout) (r : ℕ) (q : List ℕ) (f : FieldOf) → slice_get w.known.records r ≡ o → fields_of o q ≡ Some f → PointsAmong n f.shape
  field_among None r q f at is = none_some f is
  field_among (Some l) r q f at is = among.fields r l at q f is

  pub a_field : (at i : ℕ) (x : Operand) → Stays x → Gives Stays (field p w at i x)
  a_field at i x h = by_some 31 at (record_of p w x) (λ r is.
      by_some 30 (place p i) (fields_of (slice_get w.known.records r.0) (spelled p i)) (λ f found.
      by_rule 34 (place p i) (f.exported || nat_eq f.owner w.module_number) (λ seen.
      keeps Stays (part_of r.1 f.shape (Field (place_of r.1) f.adder f.number)) (record {
        shape = field_among (slice_get w.known.records r.0) r.0 (spelled p i) f refl found;
        what = ap (λ d. Field d f.adder f.number) (place_stays n before later same r.1 (record_stays x h r is));
      }))))

  element_among : (s a : Shape) → element_of s ≡ Some a → PointsAmong n s → PointsAmong n a
  element_among (Array m c) a is h = subst (PointsAmong n) (some_same c a is) h
  element_among (Open c) a is h = subst (PointsAmong n) (some_same c a is) h
  element_among Integer a is h = none_some a is
  element_among _ a is h = none_some a is

  pub a_element : (at at_index : ℕ) (x i : Operand) → Stays x → Stays i → Gives Stays (element at at_index x i)
  a_element at at_index x i h k = by_some 31 at (element_of x.shape) (λ a is.
      by_rule 31 at_index (is_number i.shape) (λ number.
      keeps Stays (part_of x a (Index (place_of x) (length_of x) a (form i))) (record {
        shape = element_among x.shape a is h.shape;
        what = ap₂ (λ d y. Index d (length_of x) a y) (place_stays n before later same x h) (formed i k);
      })))

  pub a_target : (at : ℕ) (x : Operand) → Stays x → Gives Stays (target p w at x)
  a_target at x h = by_some 31 at (target_of w.known x.shape) (λ r is. keeps Stays (followed x r) (followed_stays x r h))

  -- ---- guards and type tests

  guard_stays : (x : Operand) (t : Shape) (r : ℕ) → Stays x → PointsAmong n t → Stays (guard_of x t r)
  guard_stays x (Pointer k) r h g = record { shape = g; what = ap (λ y. Guard y r) (formed x h) }
  guard_stays x Integer r h g = record { shape = g; what = ap (λ d. Narrow d r) (place_stays n before later same x h) }
  guard_stays x _ r h g = record { shape = g; what = ap (λ d. Narrow d r) (place_stays n before later same x h) }

  pub a_guarded : (at : ℕ) (x : Operand) (t : Shape) → Stays x → PointsAmong n t → Gives Stays (guarded p w at x t)
  a_guarded at x t h g = by_some 31 at (tested_tag p w x t) (λ r is. keeps Stays (guard_of x t r) (guard_stays x t r h g))

  test_stays : (x : Operand) (t : Shape) (r : ℕ) → Stays x → Same (test_of x t r)
  test_stays x (Pointer k) r h = ap (λ y. IsPointer y r) (formed x h)
  test_stays x Integer r h = ap (λ d. IsParameter d r) (designator_stays n before later same x h)
  test_stays x _ r h = ap (λ d. IsParameter d r) (designator_stays n before later same x h)

  a_tested : (at : ℕ) (x : Operand) (t : Shape) → Stays x → Gives Stays (tested p w at x t)
  a_tested at x t h = by_some 31 at (tested_tag p w x t) (λ r is. keeps Stays (value Boolean (test_of x t r)) (a_value Boolean (test_of x t r) tt (test_stays x t r h)))

  pub a_is_test : (q : Option (ℕ × Option ℕ)) (at : ℕ) (x : Operand) → Stays x → Gives Stays (is_test p w q at x)
  a_is_test None at x h = breaks Stays 31 at
  a_is_test (Some q) at x h = and_then (a_type_named n p w among 31 q.0 q.1) (λ t i. a_tested at x t h)

  -- ---- operators

  -- a row of the table of operators
  abbrev RowStays : Row → Type 0
  RowStays row = PointsAmong n row.0 × ((x y : Expr) → Same x → Same y → Same (row.1 x y))

  operates : (operator : Binary) (x y : Expr) → Same x → Same y → Same (operated operator x y)
  operates operator x y h k = ap₂ (λ a b. Linked a (Operate operator b)) h k

  the_row : (r row : Row) → Some r ≡ Some row → RowStays r → RowStays row
  the_row r row is h = subst RowStays (some_same r row is) h

  number_rows : (op : Operator) (row : Row) → on_numbers op ≡ Some row → RowStays row
  number_rows Plus row is = the_row (Integer, operated TheBinary.Add) row is (tt, operates TheBinary.Add)
  number_rows Minus row is = the_row (Integer, operated TheBinary.Subtract) row is (tt, operates TheBinary.Subtract)
  number_rows Times row is = the_row (Integer, operated TheBinary.Multiply) row is (tt, operates TheBinary.Multiply)
  number_rows Div row is = the_row (Integer, operated TheBinary.Div) row is (tt, operates TheBinary.Div)
  number_rows Mod row is = the_row (Integer, operated TheBinary.Mod) row is (tt, operates TheBinary.Mod)
  number_rows _ row is = none_some row is

  set_rows : (op : Operator) (row : Row) → on_sets op ≡ Some row → RowStays row
  set_rows Plus row is = the_row (Set, operated TheBinary.Union) row is (tt, operates TheBinary.Union)
  set_rows Minus row is = the_row (Set, operated TheBinary.Difference) row is (tt, operates TheBinary.Difference)
  set_rows Times row is = the_row (Set, operated TheBinary.Intersection) row is (tt, operates TheBinary.Intersection)
  set_rows Slash row is = the_row (Set, operated TheBinary.SymmetricDifference) row is (tt, operates TheBinary.SymmetricDifference)
  set_rows _ row is = none_some row is

  truth_rows : (op : Operator) (row : Row) → on_truths op ≡ Some row → RowStays row
  truth_rows Op.And row is = the_row (Boolean, λ x y. Linked x (And y)) row is (tt, λ x y h k. ap₂ (λ a b. Linked a (And b)) h k)
  truth_rows Op.Or row is = the_row (Boolean, λ x y. Linked x (Or y)) row is (tt, λ x y h k. ap₂ (λ a b. Linked a (Or b)) h k)
  truth_rows _ row is = none_some row is

  row_stays : (op : Operator) (a b : Shape) (row : Row) → row_of op a b ≡ Some row → RowStays row
  row_stays op Set Set row is = set_rows op row is
  row_stays op Boolean Boolean row is = truth_rows op row is
  row_stays op Integer Integer row is = number_rows op row is
  row_stays op Integer Byte row is = number_rows op row is
  row_stays op Byte Integer row is = number_rows op row is
  row_stays op Byte Byte row is = number_rows op row is
  row_stays op _ _ row is = none_some row is

  pub a_joined : (op : Operator) (at : ℕ) (x y : Operand) → Stays x → Stays y → Gives Stays (joined op at x y)
  a_joined op at x y h k = by_some 31 at (row_of op x.shape y.shape) (λ row is.
      let r = row_stays op x.shape y.shape row is in
      keeps Stays (value row.0 (row.1 (form x) (form y))) (a_value row.0 (row.1 (form x) (form y)) r.0 (r.1 (form x) (form y) (formed x h) (formed y k))))

  negated : (s : Shape) (row : Shape × (Expr → Expr)) → negated_row s ≡ Some row → (x : Expr) → Same x → Stays (value row.0 (row.1 x))
  negated Set row is x h = subst (λ r. Stays (value r.0 (r.1 x))) (some_same (Set, Apply TheUnary.Complement) row is) (a_value Set (Apply TheUnary.Complement x) tt (ap (Apply TheUnary.Complement) h))
  negated Integer row is x h = subst (λ r. Stays (value r.0 (r.1 x))) (some_same (Integer, Apply TheUnary.Negate) row is) (a_value Integer (Apply TheUnary.Negate x) tt (ap (Apply TheUnary.Negate) h))
  negated Byte row is x h = subst (λ r. Stays (value r.0 (r.1 x))) (some_same (Integer, Apply TheUnary.Negate) row is) (a_value Integer (Apply TheUnary.Negate x) tt (ap (Apply TheUnary.Negate) h))
  negated _ row is x h = none_some row is

  pub a_signed : (sign : Option Sign) (x : Operand) → Stays x → Gives Stays (signed p w sign x)
  a_signed None x h = keeps Stays x h
  a_signed (Some (TheSign.Plus i)) x h = by_rule 31 (place p i) (is_number x.shape) (λ number. keeps Stays (value Integer (form x)) (a_value Integer (form x) tt (formed x h)))
  a_signed (Some (TheSign.Minus i)) x h = by_some 31 (place p i) (negated_row x.shape) (λ row is. keeps Stays (value row.0 (row.1 (form x))) (negated x.shape row is (form x) (formed x h)))

  pub a_inverted : (at : ℕ) (x : Operand) → Stays x → Gives Stays (inverted at x)
  a_inverted at x h = by_rule 31 at (is_truth x.shape) (λ truth. keeps Stays (value Boolean (Apply TheUnary.Not (form x))) (a_value Boolean (Apply TheUnary.Not (form x)) tt (ap (Apply TheUnary.Not) (formed x h))))

  inclusion_stays : (r : Comparison) (x y : Expr) → Same x → Same y → Same (inclusion r x y)
  inclusion_stays TheComparison.GreaterEqual x y h k = operates TheBinary.Superset x y h k
  inclusion_stays TheComparison.Equal x y h k = operates TheBinary.Subset x y h k
  inclusion_stays _ x y h k = operates TheBinary.Subset x y h k

  comparison_stays : (r : Comparison) (x y : Operand) → Stays x → Stays y → Same (comparison r x y)
  comparison_stays r x y h k = by (are_texts x.shape y.shape) (are_included r x.shape y.shape)
    where
      by : (t i : Bool) → Same (if t then CompareTexts r (designator_of x) (designator_of y) else if i then inclusion r (form x) (form y) else Compare r (form x) (form y))
      by true i = ap₂ (λ a b. CompareTexts r a b) (designator_stays n before later same x h) (designator_stays n before later same y k)
      by false true = inclusion_stays r (form x) (form y) (formed x h) (formed y k)
      by false false = ap₂ (λ a b. Compare r a b) (formed x h) (formed y k)

  a_compared : (r : Comparison) (at : ℕ) (x y : Operand) → Stays x → Stays y → Gives Stays (compared p w r at x y)
  a_compared r at x y h k = by_rule 31 at (may_compare w.known r x.shape y.shape) (λ may.
      by_rule 32 at (not (w.constant && are_texts x.shape y.shape)) (λ c.
      keeps Stays (value Boolean (comparison r x y)) (a_value Boolean (comparison r x y) tt (comparison_stays r x y h k))))

  a_is_in : (at : ℕ) (x s : Operand) → Stays x → Stays s → Gives Stays (is_in at x s)
  a_is_in at x s h k = by_rule 31 at (is_number x.shape && is_set s.shape) (λ may.
      keeps Stays (value Boolean (In (form x) (form s))) (a_value Boolean (In (form x) (form s)) tt (ap₂ (λ a b. In a b) (formed x h) (formed s k))))

  pub a_set_element : (at : ℕ) (x : Operand) → Stays x → Gives Same (set_element at x)
  a_set_element at x h = by_rule 31 at (is_number x.shape) (λ number. keeps Same (form x) (formed x h))

  pub a_related : (relation : Relation) (x y : Operand) → Stays x → Stays y → Gives Stays (related p w relation x y)
  a_related (TheRelation.Equal i) x y h k = a_compared TheComparison.Equal (place p i) x y h k
  a_related (TheRelation.NotEqual i) x y h k = a_compared TheComparison.Unequal (place p i) x y h k
  a_related (TheRelation.Less i) x y h k = a_compared TheComparison.Less (place p i) x y h k
  a_related (TheRelation.LessEqual i) x y h k = a_compared TheComparison.LessEqual (place p i) x y h k
  a_related (TheRelation.Greater i) x y h k = a_compared TheComparison.Greater (place p i) x y h k
  a_related (TheRelation.GreaterEqual i) x y h k = a_compared TheComparison.GreaterEqual (place p i) x y h k
  a_related (TheRelation.In i) x y h k = a_is_in (place p i) x y h k
  a_related (TheRelation.Is i) x y h k = breaks Stays 31 (place p i)

  pub a_as_factor : (at : ℕ) (x : Operand) → Stays x → Gives Stays (as_factor p w at x)
  a_as_factor at x h = by_rule 31 at (not (is_nothing x.shape)) (λ a. by_rule 32 at (not w.constant || is_constant x) (λ b. keeps Stays x h))
