-- Parts of operands, guards, tests and operators are judged alike where more types are known.
use Rattle.std.proofs.Common.{◌≡◌, ℕ, List, not, ◌&&◌, ◌||◌, Option, Some, None, refl, ap, ap₂, subst}
use Rattle.std.specs.Prelude.{slice_get, nat_eq, if◌then◌else◌}
use Rattle.ob_types.proofs.Tests.{none_some, some_same}
use Rattle.ob_types.specs.declared.tree.Unary.TheVariants as TheUnary
use Rattle.ob_types.specs.declared.tree.Binary.TheVariants as TheBinary
use Rattle.ob_types.specs.declared.tree.Relation.{Relation as Comparison}
use Rattle.ob_types.specs.declared.tree.Relation.TheVariants as TheComparison
use Rattle.ob_syntax.specs.declared.expressions.Relation.{Relation}
use Rattle.ob_syntax.specs.declared.expressions.Relation.TheVariants as TheRelation
use Rattle.ob_syntax.specs.declared.expressions.Sign.{Sign}
use Rattle.ob_syntax.specs.declared.expressions.Sign.TheVariants as TheSign
use Rattle.ob_judge.specs.Shapes.{Shape, Integer, Boolean, Byte, Set, Array, Open, Record, Pointer, Known, Layout, Field as FieldOf, target_of, is_number, is_truth, is_set, is_pointer, element_of}
use Rattle.ob_judge.specs.Image.{Expr, Apply, Linked, And, Or, In, Index, Field}
use Rattle.ob_judge.specs.Operators.{Operator, Plus, Minus, Times, Slash, Div, Mod, Row, operated, on_numbers, on_sets, on_truths, row_of, negated_row, are_texts, may_compare}
use Rattle.ob_judge.specs.Operators as Op
use Rattle.ob_judge.specs.Scopes.{World, Source, place, spelled}
use Rattle.ob_judge.specs.Operands.{Operand, value, form, place_of, length_of, is_constant, is_tagged}
use Rattle.ob_judge.specs.Parts.{part_of, followed, record_of, fields_of, field, element, target, tested_tag, guard_of, guarded, test_of, tested, joined, signed, inverted, comparison, compared, is_in, related, is_test, is_nothing, as_factor}
use Rattle.judged_well.proofs.Judging.{keeps, by_rule, by_some}
use Rattle.later_types.proofs.Alike.{Alike, alone, alike_keeps, alike_breaks, behind, behind_rule, behind_some}
use Rattle.later_types.proofs.Within.{Within, OperandWithin, Ready, more}
use Rattle.later_types.proofs.Knowing.{target_same, target_there, extends_same, may_compare_same}
use Rattle.later_types.proofs.Named.{a_type_named}

module _ (P : ℕ → Type 0) (n : ℕ) where
  abbrev Good : Shape → Type 0
  Good = Within P n

  abbrev Fit : Operand → Type 0
  Fit = OperandWithin P n

  -- ---- what asks for no type

  element_within : (s a : Shape) → element_of s ≡ Some a → Good s → Good a
  element_within (Array m c) a is h = subst Good (some_same c a is) h
  element_within (Open c) a is h = subst Good (some_same c a is) h
  element_within _ a is h = none_some a is

  pub a_element : (at at_index : ℕ) (x i : Operand) → OperandWithin P n x → Alike (OperandWithin P n) (element at at_index x i) (element at at_index x i)
  a_element at at_index x i h = alone (by_some 31 at (element_of x.shape) (λ a is.
      by_rule 31 at_index (is_number i.shape) (λ number.
      keeps Fit (part_of x a (Index (place_of x) (length_of x) a (form i))) (element_within x.shape a is h))))

  the_row : (r row : Row) → Some r ≡ Some row → Good r.0 → Good row.0
  the_row r row is h = subst (λ z. Good z.0) (some_same r row is) h

  number_rows : (op : Operator) (row : Row) → on_numbers op ≡ Some row → Good row.0
  number_rows Plus row is = the_row (Integer, operated TheBinary.Add) row is (tt, tt)
  number_rows Minus row is = the_row (Integer, operated TheBinary.Subtract) row is (tt, tt)
  number_rows Times row is = the_row (Integer, operated TheBinary.Multiply) row is (tt, tt)
  number_rows Div row is = the_row (Integer, operated TheBinary.Div) row is (tt, tt)
  number_rows Mod row is = the_row (Integer, operated TheBinary.Mod) row is (tt, tt)
  number_rows _ row is = none_some row is

  set_rows : (op : Operator) (row : Row) → on_sets op ≡ Some row → Good row.0
  set_rows Plus row is = the_row (Set, operated TheBinary.Union) row is (tt, tt)
  set_rows Minus row is = the_row (Set, operated TheBinary.Difference) row is (tt, tt)
  set_rows Times row is = the_row (Set, operated TheBinary.Intersection) row is (tt, tt)
  set_rows Slash row is = the_row (Set, operated TheBinary.SymmetricDifference) row is (tt, tt)
  set_rows _ row is = none_some row is

  truth_rows : (op : Operator) (row : Row) → on_truths op ≡ Some row → Good row.0
  truth_rows Op.And row is = the_row (Boolean, λ x y. Linked x (And y)) row is (tt, tt)
  truth_rows Op.Or row is = the_row (Boolean, λ x y. Linked x (Or y)) row is (tt, tt)
  truth_rows _ row is = none_some row is

  row_within : (op : Operator) (a b : Shape) (row : Row) → row_of op a b ≡ Some row → Good row.0
  row_within op Set Set row is = set_rows op row is
  row_within op Boolean Boolean row is = truth_rows op row is
  row_within op Integer Integer row is = number_rows op row is
  row_within op Integer Byte row is = number_rows op row is
  row_within op Byte Integer row is = number_rows op row is
  row_within op Byte Byte row is = number_rows op row is
  row_within op _ _ row is = none_some row is

  pub a_joined : (op : Operator) (at : ℕ) (x y : Operand) → Alike (OperandWithin P n) (joined op at x y) (joined op at x y)
  a_joined op at x y = alone (by_some 31 at (row_of op x.shape y.shape) (λ row is.
      keeps Fit (value row.0 (row.1 (form x) (form y))) (row_within op x.shape y.shape row is)))

  negated_within : (s : Shape) (row : Shape × (Expr → Expr)) → negated_row s ≡ Some row → Good row.0
  negated_within Set row is = subst (λ r. Good r.0) (some_same (Set, Apply TheUnary.Complement) row is) (tt, tt)
  negated_within Integer row is = subst (λ r. Good r.0) (some_same (Integer, Apply TheUnary.Negate) row is) (tt, tt)
  negated_within Byte row is = subst (λ r. Good r.0) (some_same (Integer, Apply TheUnary.Negate) row is) (tt, tt)
  negated_within _ row is = none_some row is

  pub a_inverted : (at : ℕ) (x : Operand) → Alike (OperandWithin P n) (inverted at x) (inverted at x)
  a_inverted at x = alone (by_rule 31 at (is_truth x.shape) (λ truth. keeps Fit (value Boolean (Apply TheUnary.Not (form x))) (tt, tt)))

  a_is_in : (at : ℕ) (x s : Operand) → Alike (OperandWithin P n) (is_in at x s) (is_in at x s)
  a_is_in at x s = alone (by_rule 31 at (is_number x.shape && is_set s.shape) (λ may. keeps Fit (value Boolean (In (form x) (form s))) (tt, tt)))

module _ (P : ℕ → Type 0) (n : ℕ) (p : Source) (w : World) (later : Known) (ready : Ready P n w later) where
  abbrev Fits : Operand → Type 0
  Fits = OperandWithin P n

  -- ---- parts

  record_same : (x : Operand) → Fits x → record_of p (more w later) x ≡ record_of p w x
  record_same x h = by x.shape h
    where
      by : (s : Shape) → Within P n s → elim s as (λ _. Option (ℕ × Operand)) [
        | Record m ↦ Some (m, x)
        | Pointer m ↦ elim (target_of later (Pointer m)) as (λ _. Option (ℕ × Operand)) [ Some k ↦ Some (k, followed x k) | None ↦ None ]
        | other ↦ None
      ] ≡ elim s as (λ _. Option (ℕ × Operand)) [
        | Record m ↦ Some (m, x)
        | Pointer m ↦ elim (target_of w.known (Pointer m)) as (λ _. Option (ℕ × Operand)) [ Some k ↦ Some (k, followed x k) | None ↦ None ]
        | other ↦ None
      ]
      by (Record m) i = refl
      by (Pointer m) i = ap (λ o. elim o as (λ _. Option (ℕ × Operand)) [ Some k ↦ Some (k, followed x k) | None ↦ None ]) (target_same P n w later ready (Pointer m) i)
      by _ i = refl

  record_there : (x : Operand) → Fits x → (r : ℕ × Operand) → record_of p w x ≡ Some r → P r.0
  record_there x h r is = by x.shape h is
    where
      through : (o : Option ℕ) → ((k : ℕ) → o ≡ Some k → P k) → elim o as (λ _. Option (ℕ × Operand)) [ Some k ↦ Some (k, followed x k) | None ↦ None ] ≡ Some r → P r.0
      through None t i = none_some r i
      through (Some k) t i = subst (λ z. P z.0) (some_same (k, followed x k) r i) (t k refl)

      by : (s : Shape) → Within P n s → elim s as (λ _. Option (ℕ × Operand)) [
        | Record m ↦ Some (m, x)
        | Pointer m ↦ elim (target_of w.known (Pointer m)) as (λ _. Option (ℕ × Operand)) [ Some k ↦ Some (k, followed x k) | None ↦ None ]
        | other ↦ None
      ] ≡ Some r → P r.0
      by (Record m) g i = subst (λ z. P z.0) (some_same (m, x) r i) g.1
      by (Pointer m) g i = through (target_of w.known (Pointer m)) (target_there P n w later ready (Pointer m)) i
      by _ g i = none_some r i

  field_within : (o : Option Layout) (r : ℕ) (q : List ℕ) (f : FieldOf) → slice_get w.known.records r ≡ o → fields_of o q ≡ Some f → Within P n f.shape
  field_within None r q f at is = none_some f is
  field_within (Some l) r q f at is = (ready.among.fields r l at q f is, ready.scope.fields r l at q f is)

  pub a_field : (at i : ℕ) (x : Operand) → OperandWithin P n x → Alike (OperandWithin P n) (field p w at i x) (field p (more w later) at i x)
  a_field at i x h = behind_some 31 at (record_of p w x) (record_of p (more w later) x) (record_same x h) (λ r is.
      behind_some 30 (place p i) (fields_of (slice_get w.known.records r.0) (spelled p i)) (fields_of (slice_get later.records r.0) (spelled p i)) (ap (λ o. fields_of o (spelled p i)) (ready.records r.0 (record_there x h r is))) (λ f found.
      behind_rule 34 (place p i) (f.exported || nat_eq f.owner w.module_number) (f.exported || nat_eq f.owner w.module_number) refl (λ seen.
      alike_keeps Fits (part_of r.1 f.shape (Field (place_of r.1) f.adder f.number)) (field_within (slice_get w.known.records r.0) r.0 (spelled p i) f refl found))))

  pub a_target : (at : ℕ) (x : Operand) → OperandWithin P n x → Alike (OperandWithin P n) (target p w at x) (target p (more w later) at x)
  a_target at x h = behind_some 31 at (target_of w.known x.shape) (target_of later x.shape) (target_same P n w later ready x.shape h) (λ r is.
      alike_keeps Fits (followed x r) (tt, target_there P n w later ready x.shape r is))

  -- ---- guards and type tests

  tested_same : (x : Operand) (t : Shape) → Fits x → Within P n t → tested_tag p (more w later) x t ≡ tested_tag p w x t
  tested_same x (Pointer k) h g = ap₂ (λ b o. if is_pointer x.shape && b then o else None) (extends_same P n w later ready (Pointer k) x.shape g h) (target_same P n w later ready (Pointer k) g)
  tested_same x (Record r) h g = ap (λ b. if is_tagged x && b then Some r else None) (extends_same P n w later ready (Record r) x.shape g h)
  tested_same x _ h g = refl

  guard_within : (x : Operand) (t : Shape) (r : ℕ) → Within P n t → Fits (guard_of x t r)
  guard_within x (Pointer k) r g = g
  guard_within x _ r g = g

  pub a_guarded : (at : ℕ) (x : Operand) (t : Shape) → OperandWithin P n x → Within P n t → Alike (OperandWithin P n) (guarded p w at x t) (guarded p (more w later) at x t)
  a_guarded at x t h g = behind_some 31 at (tested_tag p w x t) (tested_tag p (more w later) x t) (tested_same x t h g) (λ r is. alike_keeps Fits (guard_of x t r) (guard_within x t r g))

  a_tested : (at : ℕ) (x : Operand) (t : Shape) → Fits x → Within P n t → Alike (OperandWithin P n) (tested p w at x t) (tested p (more w later) at x t)
  a_tested at x t h g = behind_some 31 at (tested_tag p w x t) (tested_tag p (more w later) x t) (tested_same x t h g) (λ r is. alike_keeps Fits (value Boolean (test_of x t r)) (tt, tt))

  pub a_is_test : (q : Option (ℕ × Option ℕ)) (at : ℕ) (x : Operand) → OperandWithin P n x → Alike (OperandWithin P n) (is_test p w q at x) (is_test p (more w later) q at x)
  a_is_test None at x h = alike_breaks Fits 31 at
  a_is_test (Some q) at x h = behind (a_type_named P n p w later ready 31 q.0 q.1) (λ t i. a_tested at x t h i)

  -- ---- operators

  pub a_signed : (sign : Option Sign) (x : Operand) → OperandWithin P n x → Alike (OperandWithin P n) (signed p w sign x) (signed p (more w later) sign x)
  a_signed None x h = alike_keeps Fits x h
  a_signed (Some (TheSign.Plus i)) x h = alone (by_rule 31 (place p i) (is_number x.shape) (λ number. keeps Fits (value Integer (form x)) (tt, tt)))
  a_signed (Some (TheSign.Minus i)) x h = alone (by_some 31 (place p i) (negated_row x.shape) (λ row is. keeps Fits (value row.0 (row.1 (form x))) (negated_within P n x.shape row is)))

  a_compared : (r : Comparison) (at : ℕ) (x y : Operand) → Fits x → Fits y → Alike (OperandWithin P n) (compared p w r at x y) (compared p (more w later) r at x y)
  a_compared r at x y h k = behind_rule 31 at (may_compare w.known r x.shape y.shape) (may_compare later r x.shape y.shape) (may_compare_same P n w later ready r x.shape y.shape h k) (λ may.
      behind_rule 32 at (not (w.constant && are_texts x.shape y.shape)) (not (w.constant && are_texts x.shape y.shape)) refl (λ c.
      alike_keeps Fits (value Boolean (comparison r x y)) (tt, tt)))

  pub a_related : (relation : Relation) (x y : Operand) → OperandWithin P n x → OperandWithin P n y → Alike (OperandWithin P n) (related p w relation x y) (related p (more w later) relation x y)
  a_related (TheRelation.Equal i) x y h k = a_compared TheComparison.Equal (place p i) x y h k
  a_related (TheRelation.NotEqual i) x y h k = a_compared TheComparison.Unequal (place p i) x y h k
  a_related (TheRelation.Less i) x y h k = a_compared TheComparison.Less (place p i) x y h k
  a_related (TheRelation.LessEqual i) x y h k = a_compared TheComparison.LessEqual (place p i) x y h k
  a_related (TheRelation.Greater i) x y h k = a_compared TheComparison.Greater (place p i) x y h k
  a_related (TheRelation.GreaterEqual i) x y h k = a_compared TheComparison.GreaterEqual (place p i) x y h k
  a_related (TheRelation.In i) x y h k = a_is_in P n (place p i) x y
  a_related (TheRelation.Is i) x y h k = alike_breaks Fits 31 (place p i)

  pub a_as_factor : (at : ℕ) (x : Operand) → OperandWithin P n x → Alike (OperandWithin P n) (as_factor p w at x) (as_factor p (more w later) at x)
  a_as_factor at x h = alone (by_rule 31 at (not (is_nothing x.shape)) (λ a. by_rule 32 at (not w.constant || is_constant x) (λ b. keeps Fits x h)))
