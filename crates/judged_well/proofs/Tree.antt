-- Expressions: by recursion on their syntax, each construct from its parts.
use Rattle.std.proofs.Common.{◌≡◌, ℕ, [], ◌∷◌, length, true, Option, Some, None, refl, ap, ap₂, ◌∙◌}
use Rattle.ob_types.specs.WellFormed.{provided}
use Rattle.ob_syntax.specs.Syntax as S
use Rattle.ob_syntax.specs.declared.expressions.Relation.TheVariants as TheRelation
use Rattle.ob_judge.specs.Judged.{Judged, Keeps, Breaks, ◌>>=◌}
use Rattle.ob_judge.specs.Shapes.{Shape, Integer, Boolean, Char, Set, Nil}
use Rattle.ob_judge.specs.Shapes.{Text as TextShape}
use Rattle.ob_judge.specs.Image.{Expr, Literal, Linked, Element, Elements}
use Rattle.ob_judge.specs.Scopes.{World, Source, AStandard, AModule, symbol_at, place, characters}
use Rattle.ob_judge.specs.Operands.{What, Named as ThePlace, Valued, Chars, Code, Proper, Use, AsValue, Operand, operand, value, as_value}
use Rattle.ob_judge.specs.Calls.{standard}
use Rattle.ob_judge.specs.Symbols.{add_operator, add_symbol, mul_operator, mul_symbol, expression_first, bare_simple, bare_list}
use Rattle.ob_judge.specs.Names.{Stage, Whole, Partly, Ended, type_named, begun}
use Rattle.ob_judge.specs.Parts.{is_test, int_of, char_of, literal, guard_name, field, target, guarded, applied}
use Rattle.ob_judge.specs.Expressions.{expression, simple, added, term, multiplied, factor, with_elements, with_element, selected, select, indexed, indexed_more, arguments, next_arguments, designator}
use Rattle.judged_well.specs.Forms.{Number, gives_number}
use Rattle.judged_well.specs.Setting.{Setting, IsOrder}
use Rattle.judged_well.specs.Typing.{outline, form}
use Rattle.judged_well.specs.Standing.{IsRead, StandsAs, Stands, IsBegun, IsLast, StageStands, Right}
use Rattle.judged_well.specs.Gives.{Gives}
use Rattle.judged_well.proofs.Judging.{keeps, breaks, and_then}
use Rattle.judged_well.proofs.Values.{literal_small, literal_number}
use Rattle.judged_well.proofs.Selecting.{t_field, t_element, t_target, t_guarded, t_tested}
use Rattle.judged_well.proofs.Operating.{number_near, valued, t_joined, t_signed, t_inverted, t_set_element, t_related, t_as_factor}
use Rattle.judged_well.proofs.Calling.{AllStand, t_applied, t_standard}
use Rattle.judged_well.proofs.Naming.{t_named, t_member, t_type_named, t_begun, IsFinished, t_finished}
use Rattle.judged_well.proofs.Reading.{int_small, char_small, characters_are}

module _ (e : Setting) (order : IsOrder e) (p : Source) (read : IsRead p) (w : World) (right : Right e p w) where
  abbrev Holds : Operand → Type 0
  Holds = Stands e

  abbrev IsSet : Expr → Type 0
  IsSet x = gives_number (form e (outline e) x) ≡ true

  abbrev Staged : Stage → Type 0
  Staged = StageStands e

  a_literal : (s : Shape) (n : ℕ) → Stands e (value s (Literal n)) → Gives Holds (literal s n)
  a_literal s n h = keeps Holds (value s (Literal n)) h

  -- in parentheses
  t_as_value : (x : Operand) → Stands e x → Stands e (as_value x)
  t_as_value x h = record { does = by x.shape x.use_ x.what h.does; good = h.good }
    where
      by : (s : Shape) (u : Use) (what : What) → StandsAs e s u what → StandsAs e s AsValue what
      by s u (ThePlace d) h = (h.0, h.1, h.2, tt)
      by s u (Valued x) h = (h.0, tt)
      by s u (Chars cs) h = (h.0, h.1, tt)
      by s u (Code f l) h = (h.0, h.1, h.2, h.3, tt)
      by s u (Proper d) h = (h.0, h.1, tt)

  t_is_test : (q : Option (ℕ × Option ℕ)) (at : ℕ) (x : Operand) → Stands e x → Gives Holds (is_test p w q at x)
  t_is_test None at x h = breaks Holds 31 at
  t_is_test (Some q) at x h = and_then (t_type_named e order p w right 31 q.0 q.1) (λ t i. t_tested e order p w right at x t h)

  one_element : (s x : Expr) → IsSet s → IsSet x → IsSet (Linked s (Element x))
  one_element s x h k = ap₂ (λ a b. gives_number (provided a (provided b (Some Number)))) h k

  two_elements : (s x y : Expr) → IsSet s → IsSet x → IsSet y → IsSet (Linked s (Elements x y))
  two_elements s x y h k l = ap₂ (λ a b. gives_number (provided a (provided b (provided (gives_number (form e (outline e) y)) (Some Number))))) h k ∙ ap (λ c. gives_number (provided c (Some Number))) l

  a_set : (x : Expr) → IsSet x → Stands e (value Set x)
  a_set x h = valued e order Set x (number_near e order (form e (outline e) x) h) refl

  abbrev ended : Operand → Type 0
  ended y = Stands e y × IsLast e y

  end_stage : (m : Judged Operand) → Gives ended m → Gives Staged (m >>= λ y. Keeps (Ended y))
  end_stage m g = and_then g (λ y h. keeps Staged (Ended y) h)

  begun_stage : (m : Judged Operand) → Gives (IsBegun e) m → Gives Staged (m >>= λ y. Keeps (Partly y))
  begun_stage m g = and_then g (λ y h. keeps Staged (Partly y) h)

  -- a guard, or the arguments of a call
  parens : (at : ℕ) (stage : Stage) → StageStands e stage → (list : S.Expressions) → Gives (AllStand e order p w right) (arguments p w list)
      → Gives Staged (begun p w at stage >>= λ x. elim (guard_name x (bare_list list)) as (λ _. Judged Stage) [
        | Some q ↦ type_named p w 31 q.0 q.1 >>= λ t. guarded p w at x t >>= λ y. Keeps (Partly y)
        | None ↦ arguments p w list >>= λ xs. applied p w at x x.shape xs >>= λ y. Keeps (Ended y)
      ])
  parens at stage h list walked = and_then (t_begun e order p w right at stage h) (λ x k. by x k (guard_name x (bare_list list)))
    where
      by : (x : Operand) → IsBegun e x → (q : Option (ℕ × Option ℕ)) → Gives Staged (elim q as (λ _. Judged Stage) [
        | Some q ↦ type_named p w 31 q.0 q.1 >>= λ t. guarded p w at x t >>= λ y. Keeps (Partly y)
        | None ↦ arguments p w list >>= λ xs. applied p w at x x.shape xs >>= λ y. Keeps (Ended y)
      ])
      by x k (Some q) = and_then (t_type_named e order p w right 31 q.0 q.1) (λ t i. begun_stage (guarded p w at x t) (t_guarded e order p w right at x t k))
      by x k None = and_then walked (λ xs l. end_stage (applied p w at x x.shape xs) (t_applied e order p w right at x k xs l))

  mutual
    pub t_expression : (x : S.Expression) → Gives Holds (expression p w x)
    t_expression (S.only left) = t_simple left
    t_expression (S.compared left (TheRelation.Is i) right_) = and_then (t_simple left) (λ x h. by (bare_simple right_) x h (t_simple right_))
      where
        by : (q : Option (ℕ × Option ℕ)) (x : Operand) → Stands e x → Gives Holds (simple p w right_)
            → Gives Holds (elim q as (λ _. Judged Operand) [ None ↦ simple p w right_ >>= λ y. Breaks 31 (place p i) | Some r ↦ is_test p w (Some r) (place p i) x ])
        by None x h rest = and_then rest (λ y k. breaks Holds 31 (place p i))
        by (Some r) x h rest = t_is_test (Some r) (place p i) x h
    t_expression (S.compared left (TheRelation.Equal i) right_) = and_then (t_simple left) (λ x h. and_then (t_simple right_) (λ y k. t_related e order p w right (TheRelation.Equal i) x y h k))
    t_expression (S.compared left relation right_) = and_then (t_simple left) (λ x h. and_then (t_simple right_) (λ y k. t_related e order p w right relation x y h k))

    t_simple : (x : S.Simple) → Gives Holds (simple p w x)
    t_simple (S.simple sign first more) = and_then (t_term first) (λ x h. and_then (t_signed e order p w right sign x h) (λ y k. t_added y k more))

    t_added : (x : Operand) → Stands e x → (more : S.Addeds) → Gives Holds (added p w x more)
    t_added x h S.no_term = keeps Holds x h
    t_added x h (S.added operator t rest) = and_then (t_term t) (λ y k. and_then (t_joined e order p w right (add_operator operator) (place p (add_symbol operator)) x y h k) (λ z l. t_added z l rest))

    t_term : (x : S.Term) → Gives Holds (term p w x)
    t_term (S.term first more) = and_then (t_factor first) (λ x h. t_multiplied x h more)

    t_multiplied : (x : Operand) → Stands e x → (more : S.Multiplieds) → Gives Holds (multiplied p w x more)
    t_multiplied x h S.no_factor = keeps Holds x h
    t_multiplied x h (S.multiplied operator f rest) = and_then (t_factor f) (λ y k. and_then (t_joined e order p w right (mul_operator operator) (place p (mul_symbol operator)) x y h k) (λ z l. t_multiplied z l rest))

    t_factor : (x : S.Factor) → Gives Holds (factor p w x)
    t_factor (S.Int i) = a_literal Integer (int_of (symbol_at p i).kind) (valued e order Integer (Literal (int_of (symbol_at p i).kind)) (literal_number e (int_of (symbol_at p i).kind) (int_small p read w i)) refl)
    t_factor (S.Text i) = keeps Holds (operand (TextShape (length (characters p i))) (Chars (characters p i)) AsValue) (record { does = (refl, characters_are p read i, tt); good = refl })
    t_factor (S.Char i) = a_literal Char (char_of (symbol_at p i).kind) (valued e order Char (Literal (char_of (symbol_at p i).kind)) (literal_small e (char_of (symbol_at p i).kind) (char_small p read w i)) refl)
    t_factor (S.Nil i) = a_literal Nil 0 (valued e order Nil (Literal 0) refl refl)
    t_factor (S.True i) = a_literal Boolean 1 (valued e order Boolean (Literal 1) refl refl)
    t_factor (S.False i) = a_literal Boolean 0 (valued e order Boolean (Literal 0) refl refl)
    t_factor (S.EmptySet i j) = a_literal Set 0 (valued e order Set (Literal 0) refl refl)
    t_factor (S.Set i first more j) = and_then (t_with_element (Literal 0) refl first) (λ s h. and_then (t_with_elements s h more) (λ t k. keeps Holds (value Set t) (a_set t k)))
    t_factor (S.Designated name selectors) = and_then (t_named e order p w right name) (λ o h. and_then (t_selected (place p name) (Whole o) h selectors) (λ x k. t_as_factor e order p w right (place p name) x k.stands))
    t_factor (S.Paren i x j) = and_then (t_expression x) (λ y h. keeps Holds (as_value y) (t_as_value y h))
    t_factor (S.Not i x) = and_then (t_factor x) (λ y h. t_inverted e order p w right (place p i) y h)

    t_with_elements : (s : Expr) → IsSet s → (more : S.NextElements) → Gives IsSet (with_elements p w s more)
    t_with_elements s h S.no_element = keeps IsSet s h
    t_with_elements s h (S.next_element comma x rest) = and_then (t_with_element s h x) (λ t k. t_with_elements t k rest)

    t_with_element : (s : Expr) → IsSet s → (x : S.Element) → Gives IsSet (with_element p w s x)
    t_with_element s h (S.one low) = and_then (t_expression low) (λ x k. and_then (t_set_element e order p w right (place p (expression_first low)) x k) (λ a l. keeps IsSet (Linked s (Element a)) (one_element s a h l)))
    t_with_element s h (S.range low dots high) = and_then (t_expression low) (λ x k. and_then (t_set_element e order p w right (place p (expression_first low)) x k) (λ a l.
        and_then (t_expression high) (λ y m. and_then (t_set_element e order p w right (place p (expression_first high)) y m) (λ b n. keeps IsSet (Linked s (Elements a b)) (two_elements s a b h l n)))))

    pub t_selected : (at : ℕ) (stage : Stage) → StageStands e stage → (xs : S.Selectors) → Gives (IsFinished e order p w right) (selected p w at stage xs)
    t_selected at stage h S.no_selector = t_finished e order p w right at stage h
    t_selected at stage h (S.selected s rest) = and_then (t_select at stage h s) (λ next k. t_selected at next k rest)

    pub t_select : (at : ℕ) (stage : Stage) → StageStands e stage → (s : S.Selector) → Gives Staged (select p w at stage s)
    t_select at (Whole (AModule m)) h (S.Field period i) = and_then (t_member e order p w right m i) (λ o k. keeps Staged (Whole o) k.0)
    t_select at stage h (S.Field period i) = and_then (t_begun e order p w right at stage h) (λ x k. begun_stage (field p w at i x) (t_field e order p w right at i x k))
    t_select at stage h (S.Index left_bracket list right_bracket) = and_then (t_begun e order p w right at stage h) (λ x k. begun_stage (indexed p w at x list) (t_indexed at x k list))
    t_select at stage h (S.Arrow i) = and_then (t_begun e order p w right at stage h) (λ x k. begun_stage (target p w at x) (t_target e order p w right at x k))
    t_select at (Whole (AStandard s)) h (S.EmptyParens left_paren right_paren) = end_stage (standard w at s []) (t_standard e order p w right at s [] tt)
    t_select at (Whole (AStandard s)) h (S.Parens left_paren list right_paren) = and_then (t_arguments list) (λ xs k. end_stage (standard w at s xs) (t_standard e order p w right at s xs k))
    t_select at stage h (S.EmptyParens left_paren right_paren) = and_then (t_begun e order p w right at stage h) (λ x k. end_stage (applied p w at x x.shape []) (t_applied e order p w right at x k [] tt))
    t_select at stage h (S.Parens left_paren list right_paren) = parens at stage h list (t_arguments list)

    pub t_indexed : (at : ℕ) (x : Operand) → IsBegun e x → (xs : S.Expressions) → Gives (IsBegun e) (indexed p w at x xs)
    t_indexed at x h (S.expressions first more) = and_then (t_expression first) (λ i k. and_then (t_element e order p w right at (place p (expression_first first)) x i h k) (λ y l. t_indexed_more at y l more))

    t_indexed_more : (at : ℕ) (x : Operand) → IsBegun e x → (xs : S.NextExpressions) → Gives (IsBegun e) (indexed_more p w at x xs)
    t_indexed_more at x h S.no_expression = keeps (IsBegun e) x h
    t_indexed_more at x h (S.next_expression comma y rest) = and_then (t_expression y) (λ i k. and_then (t_element e order p w right at (place p (expression_first y)) x i h k) (λ z l. t_indexed_more at z l rest))

    pub t_arguments : (xs : S.Expressions) → Gives (AllStand e order p w right) (arguments p w xs)
    t_arguments (S.expressions first more) = and_then (t_expression first) (λ x h. and_then (t_next_arguments more) (λ xs k. keeps (AllStand e order p w right) (record { at = place p (expression_first first); operand = x } ∷ xs) (h, k)))

    t_next_arguments : (xs : S.NextExpressions) → Gives (AllStand e order p w right) (next_arguments p w xs)
    t_next_arguments S.no_expression = keeps (AllStand e order p w right) [] tt
    t_next_arguments (S.next_expression comma x rest) = and_then (t_expression x) (λ y h. and_then (t_next_arguments rest) (λ xs k. keeps (AllStand e order p w right) (record { at = place p (expression_first x); operand = y } ∷ xs) (h, k)))

  pub t_designator : (d : S.Designator) → Gives (IsFinished e order p w right) (designator p w d)
  t_designator d = and_then (t_named e order p w right d.name) (λ o h. t_selected (place p d.name) (Whole o) h d.selectors)
