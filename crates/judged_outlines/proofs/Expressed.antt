-- Expressions name pointer types that there are: by recursion on their syntax.
use Rattle.std.proofs.Common.{◌≡◌, ℕ, ◌<◌, List, [], ◌∷◌, length, true, Option, Some, None, refl, ap₂, subst}
use Rattle.std.specs.Prelude.{slice_get, option_map}
use Rattle.ob_types.proofs.Tests.{none_some, some_same}
use Rattle.ob_syntax.specs.Syntax as S
use Rattle.ob_syntax.specs.declared.expressions.Relation.TheVariants as TheRelation
use Rattle.ob_judge.specs.Judged.{Judged, Keeps, Breaks, ◌>>=◌}
use Rattle.ob_judge.specs.Shapes.{Shape, Integer, Boolean, Char, Set, Nil}
use Rattle.ob_judge.specs.Shapes.{Text as TextShape}
use Rattle.ob_judge.specs.Image.{Expr, Literal, Linked, Element, Elements, Constant}
use Rattle.ob_judge.specs.Image.{Bits as TheBits, Chars as TheChars}
use Rattle.ob_judge.specs.Scopes.{World, Source, AStandard, AModule, symbol_at, place, characters}
use Rattle.ob_judge.specs.Operands.{What, Named, Chars, AsValue, Operand, operand, value, as_value, fold, form_in, constant_in}
use Rattle.ob_judge.specs.Calls.{Given, standard}
use Rattle.ob_judge.specs.Symbols.{add_operator, add_symbol, mul_operator, mul_symbol, expression_first, bare_simple, bare_list}
use Rattle.ob_judge.specs.Names.{Stage, Whole, Partly, Ended, type_named, begun}
use Rattle.ob_judge.specs.Parts.{is_test, int_of, char_of, literal, guard_name, field, target, guarded, applied}
use Rattle.ob_judge.specs.Expressions.{expression, simple, added, term, multiplied, factor, with_elements, with_element, selected, select, indexed, indexed_more, arguments, next_arguments, designator, constant}
use Rattle.judged_well.specs.Gives.{Gives}
use Rattle.judged_well.proofs.Judging.{keeps, breaks, and_then, at_last}
use Rattle.judged_outlines.specs.Among.{PointsAmong, ConstantAmong, WorldAmong}
use Rattle.judged_outlines.proofs.Images.{OperandStays, ExprStays}
use Rattle.judged_outlines.proofs.Named.{a_named, a_member, a_type_named, StageStays, a_begun, a_finished}
use Rattle.judged_outlines.proofs.Parted.{a_field, a_element, a_target, a_guarded, a_is_test, a_joined, a_signed, a_inverted, a_set_element, a_related, a_as_factor}
use Rattle.judged_outlines.proofs.Called.{AllStay, a_applied, a_standard}

module _ (n : ℕ) (p : Source) (w : World) (among : WorldAmong n w) (before later : List (Option ℕ)) (same : (k : ℕ) → k < n → slice_get later k ≡ slice_get before k) where
  abbrev Stays : Operand → Type 0
  Stays = OperandStays n before later same

  abbrev Same : Expr → Type 0
  Same = ExprStays n before later same

  abbrev Staged : Stage → Type 0
  Staged = StageStays n p w among before later same

  abbrev All : List Given → Type 0
  All = AllStay n p w before later same

  a_literal : (s : Shape) (bits : ℕ) → PointsAmong n s → Gives Stays (literal s bits)
  a_literal s bits h = keeps Stays (value s (Literal bits)) (record { shape = h; what = refl })

  partly : (m : Judged Operand) → Gives Stays m → Gives Staged (m >>= λ y. Keeps (Partly y))
  partly m g = and_then g (λ y h. keeps Staged (Partly y) h)

  ended : (m : Judged Operand) → Gives Stays m → Gives Staged (m >>= λ y. Keeps (Ended y))
  ended m g = and_then g (λ y h. keeps Staged (Ended y) h)

  -- a guard, or the arguments of a call
  parens : (at : ℕ) (stage : Stage) → Staged stage → (list : S.Expressions) → Gives All (arguments p w list)
      → Gives Staged (begun p w at stage >>= λ x. elim (guard_name x (bare_list list)) as (λ _. Judged Stage) [
        | Some q ↦ type_named p w 31 q.0 q.1 >>= λ t. guarded p w at x t >>= λ y. Keeps (Partly y)
        | None ↦ arguments p w list >>= λ xs. applied p w at x x.shape xs >>= λ y. Keeps (Ended y)
      ])
  parens at stage h list walked = and_then (a_begun n p w among before later same at stage h) (λ x k. by x k (guard_name x (bare_list list)))
    where
      by : (x : Operand) → Stays x → (q : Option (ℕ × Option ℕ)) → Gives Staged (elim q as (λ _. Judged Stage) [
        | Some q ↦ type_named p w 31 q.0 q.1 >>= λ t. guarded p w at x t >>= λ y. Keeps (Partly y)
        | None ↦ arguments p w list >>= λ xs. applied p w at x x.shape xs >>= λ y. Keeps (Ended y)
      ])
      by x k (Some q) = and_then (a_type_named n p w among 31 q.0 q.1) (λ t i. partly (guarded p w at x t) (a_guarded n p w among before later same at x t k i))
      by x k None = and_then walked (λ xs l. ended (applied p w at x x.shape xs) (a_applied n p w before later same at x k x.shape k.shape xs l))

  mutual
    pub a_expression : (x : S.Expression) → Gives Stays (expression p w x)
    a_expression (S.only left) = a_simple left
    a_expression (S.compared left (TheRelation.Is i) right_) = and_then (a_simple left) (λ x h. by (bare_simple right_) x h (a_simple right_))
      where
        by : (q : Option (ℕ × Option ℕ)) (x : Operand) → Stays x → Gives Stays (simple p w right_)
            → Gives Stays (elim q as (λ _. Judged Operand) [ None ↦ simple p w right_ >>= λ y. Breaks 31 (place p i) | Some r ↦ is_test p w (Some r) (place p i) x ])
        by None x h rest = and_then rest (λ y k. breaks Stays 31 (place p i))
        by (Some r) x h rest = a_is_test n p w among before later same (Some r) (place p i) x h
    a_expression (S.compared left (TheRelation.Equal i) right_) = and_then (a_simple left) (λ x h. and_then (a_simple right_) (λ y k. a_related n p w among before later same (TheRelation.Equal i) x y h k))
    a_expression (S.compared left relation right_) = and_then (a_simple left) (λ x h. and_then (a_simple right_) (λ y k. a_related n p w among before later same relation x y h k))

    a_simple : (x : S.Simple) → Gives Stays (simple p w x)
    a_simple (S.simple sign first more) = and_then (a_term first) (λ x h. and_then (a_signed n p w among before later same sign x h) (λ y k. a_added y k more))

    a_added : (x : Operand) → Stays x → (more : S.Addeds) → Gives Stays (added p w x more)
    a_added x h S.no_term = keeps Stays x h
    a_added x h (S.added operator t rest) = and_then (a_term t) (λ y k. and_then (a_joined n p w among before later same (add_operator operator) (place p (add_symbol operator)) x y h k) (λ z l. a_added z l rest))

    a_term : (x : S.Term) → Gives Stays (term p w x)
    a_term (S.term first more) = and_then (a_factor first) (λ x h. a_multiplied x h more)

    a_multiplied : (x : Operand) → Stays x → (more : S.Multiplieds) → Gives Stays (multiplied p w x more)
    a_multiplied x h S.no_factor = keeps Stays x h
    a_multiplied x h (S.multiplied operator f rest) = and_then (a_factor f) (λ y k. and_then (a_joined n p w among before later same (mul_operator operator) (place p (mul_symbol operator)) x y h k) (λ z l. a_multiplied z l rest))

    a_factor : (x : S.Factor) → Gives Stays (factor p w x)
    a_factor (S.Int i) = a_literal Integer (int_of (symbol_at p i).kind) tt
    a_factor (S.Text i) = keeps Stays (operand (TextShape (length (characters p i))) (Chars (characters p i)) AsValue) (record { shape = tt; what = tt })
    a_factor (S.Char i) = a_literal Char (char_of (symbol_at p i).kind) tt
    a_factor (S.Nil i) = a_literal Nil 0 tt
    a_factor (S.True i) = a_literal Boolean 1 tt
    a_factor (S.False i) = a_literal Boolean 0 tt
    a_factor (S.EmptySet i j) = a_literal Set 0 tt
    a_factor (S.Set i first more j) = and_then (a_with_element (Literal 0) refl first) (λ s h. and_then (a_with_elements s h more) (λ t k. keeps Stays (value Set t) (record { shape = tt; what = k })))
    a_factor (S.Designated name selectors) = and_then (a_named n p w among name) (λ o h. and_then (a_selected (place p name) (Whole o) h selectors) (λ x k. a_as_factor n p w among before later same (place p name) x k))
    a_factor (S.Paren i x j) = and_then (a_expression x) (λ y h. keeps Stays (as_value y) (record { shape = h.shape; what = h.what }))
    a_factor (S.Not i x) = and_then (a_factor x) (λ y h. a_inverted n p w among before later same (place p i) y h)

    a_with_elements : (s : Expr) → Same s → (more : S.NextElements) → Gives Same (with_elements p w s more)
    a_with_elements s h S.no_element = keeps Same s h
    a_with_elements s h (S.next_element comma x rest) = and_then (a_with_element s h x) (λ t k. a_with_elements t k rest)

    a_with_element : (s : Expr) → Same s → (x : S.Element) → Gives Same (with_element p w s x)
    a_with_element s h (S.one low) = and_then (a_expression low) (λ x k. and_then (a_set_element n p w among before later same (place p (expression_first low)) x k) (λ a l. keeps Same (Linked s (Element a)) (ap₂ (λ c d. Linked c (Element d)) h l)))
    a_with_element s h (S.range low dots high) = and_then (a_expression low) (λ x k. and_then (a_set_element n p w among before later same (place p (expression_first low)) x k) (λ a l.
        and_then (a_expression high) (λ y m. and_then (a_set_element n p w among before later same (place p (expression_first high)) y m) (λ b i. keeps Same (Linked s (Elements a b)) (ap₂ (λ c d. Linked c d) h (ap₂ (λ c d. Elements c d) l i))))))

    pub a_selected : (at : ℕ) (stage : Stage) → Staged stage → (xs : S.Selectors) → Gives Stays (selected p w at stage xs)
    a_selected at stage h S.no_selector = a_finished n p w among before later same at stage h
    a_selected at stage h (S.selected s rest) = and_then (a_select at stage h s) (λ next k. a_selected at next k rest)

    a_select : (at : ℕ) (stage : Stage) → Staged stage → (s : S.Selector) → Gives Staged (select p w at stage s)
    a_select at (Whole (AModule m)) h (S.Field period i) = and_then (a_member n p w among m i) (λ o k. keeps Staged (Whole o) k)
    a_select at stage h (S.Field period i) = and_then (a_begun n p w among before later same at stage h) (λ x k. partly (field p w at i x) (a_field n p w among before later same at i x k))
    a_select at stage h (S.Index left_bracket list right_bracket) = and_then (a_begun n p w among before later same at stage h) (λ x k. partly (indexed p w at x list) (a_indexed at x k list))
    a_select at stage h (S.Arrow i) = and_then (a_begun n p w among before later same at stage h) (λ x k. partly (target p w at x) (a_target n p w among before later same at x k))
    a_select at (Whole (AStandard s)) h (S.EmptyParens left_paren right_paren) = ended (standard w at s []) (a_standard n p w before later same at s [] tt)
    a_select at (Whole (AStandard s)) h (S.Parens left_paren list right_paren) = and_then (a_arguments list) (λ xs k. ended (standard w at s xs) (a_standard n p w before later same at s xs k))
    a_select at stage h (S.EmptyParens left_paren right_paren) = and_then (a_begun n p w among before later same at stage h) (λ x k. ended (applied p w at x x.shape []) (a_applied n p w before later same at x k x.shape k.shape [] tt))
    a_select at stage h (S.Parens left_paren list right_paren) = parens at stage h list (a_arguments list)

    a_indexed : (at : ℕ) (x : Operand) → Stays x → (xs : S.Expressions) → Gives Stays (indexed p w at x xs)
    a_indexed at x h (S.expressions first more) = and_then (a_expression first) (λ i k. and_then (a_element n p w among before later same at (place p (expression_first first)) x i h k) (λ y l. a_indexed_more at y l more))

    a_indexed_more : (at : ℕ) (x : Operand) → Stays x → (xs : S.NextExpressions) → Gives Stays (indexed_more p w at x xs)
    a_indexed_more at x h S.no_expression = keeps Stays x h
    a_indexed_more at x h (S.next_expression comma y rest) = and_then (a_expression y) (λ i k. and_then (a_element n p w among before later same at (place p (expression_first y)) x i h k) (λ z l. a_indexed_more at z l rest))

    a_arguments : (xs : S.Expressions) → Gives All (arguments p w xs)
    a_arguments (S.expressions first more) = and_then (a_expression first) (λ x h. and_then (a_next_arguments more) (λ xs k. keeps All (record { at = place p (expression_first first); operand = x } ∷ xs) (h, k)))

    a_next_arguments : (xs : S.NextExpressions) → Gives All (next_arguments p w xs)
    a_next_arguments S.no_expression = keeps All [] tt
    a_next_arguments (S.next_expression comma x rest) = and_then (a_expression x) (λ y h. and_then (a_next_arguments rest) (λ xs k. keeps All (record { at = place p (expression_first x); operand = y } ∷ xs) (h, k)))

  pub a_designator : (d : S.Designator) → Gives Stays (designator p w d)
  a_designator d = and_then (a_named n p w among d.name) (λ o h. a_selected (place p d.name) (Whole o) h d.selectors)

-- ---- constants

of_bits : (n : ℕ) (s : Shape) (o : Option ℕ) (c : Constant) → PointsAmong n s → option_map (TheBits s) o ≡ Some c → ConstantAmong n c
of_bits n s None c h is = none_some c is
of_bits n s (Some b) c h is = subst (ConstantAmong n) (some_same (TheBits s b) c is) h

constant_from : (n : ℕ) (s : Shape) (k : What) (c : Constant) → PointsAmong n s → constant_in s k ≡ Some c → ConstantAmong n c
constant_from n s (Chars cs) c h is = subst (ConstantAmong n) (some_same (TheChars cs) c is) tt
constant_from n s (Named d) c h is = of_bits n s (fold (form_in s (Named d))) c h is
constant_from n s k c h is = of_bits n s (fold (form_in s k)) c h is

pub a_constant : (n : ℕ) (p : Source) (w : World) → WorldAmong n w → (x : S.Expression) → Gives (ConstantAmong n) (constant p w x)
a_constant n p w among x = and_then (a_expression n p (record w { constant = true }) (record { names = among.names; members = among.members; fields = among.fields; narrowed = among.narrowed }) [] [] (λ k l. refl) x) (λ y h.
    at_last 35 (place p (expression_first x)) (constant_in y.shape y.what) (λ c is. constant_from n y.shape y.what c h.shape is))
