-- What judging an expression's parts comes to, by the parts that code takes out of it.
use Rattle.std.proofs.Common.{◌≡◌, ℕ, List, [], ◌∷◌, ◌++◌, Box, Global, Option, Some, None, refl, sym, ap, ◌∙◌, append_assoc}
use Rattle.ob_syntax.specs.Syntax as S
use Rattle.ob_syntax.specs.Plain.{plain_expression, plain_maybe_compared, plain_simple, plain_each_added, plain_term, plain_each_multiplied, plain_factor, plain_element, plain_each_selector, plain_list, plain_each_expression, plain_designator}
use Rattle.ob_syntax.specs.declared.expressions.Expression.{Expression, out-Expression}
use Rattle.ob_syntax.specs.declared.expressions.Compared.{Compared, out-Compared}
use Rattle.ob_syntax.specs.declared.expressions.Relation.{Relation}
use Rattle.ob_syntax.specs.declared.expressions.Relation.TheVariants as TheRelation
use Rattle.ob_syntax.specs.declared.expressions.Simple.{Simple, out-Simple}
use Rattle.ob_syntax.specs.declared.expressions.Added.{Added, out-Added}
use Rattle.ob_syntax.specs.declared.expressions.Term.{Term, out-Term}
use Rattle.ob_syntax.specs.declared.expressions.Multiplied.{Multiplied}
use Rattle.ob_syntax.specs.declared.expressions.Factor.TheVariants as TheFactor
use Rattle.ob_syntax.specs.declared.expressions.Designator.{Designator}
use Rattle.ob_syntax.specs.declared.expressions.Set.{Set, out-Set}
use Rattle.ob_syntax.specs.declared.expressions.Elements.{Elements, out-Elements}
use Rattle.ob_syntax.specs.declared.expressions.NextElement.{NextElement, out-NextElement}
use Rattle.ob_syntax.specs.declared.expressions.Element.{Element, out-Element}
use Rattle.ob_syntax.specs.declared.expressions.ElementHigh.{ElementHigh, out-ElementHigh}
use Rattle.ob_syntax.specs.declared.expressions.List.{List as ExpressionList, out-List}
use Rattle.ob_syntax.specs.declared.expressions.NextExpression.{NextExpression, out-NextExpression}
use Rattle.ob_syntax.specs.declared.expressions.Selector.{Selector}
use Rattle.ob_syntax.proofs.PlainParts.{expression_parts, simple_parts, added_parts, term_parts}
use Rattle.check_operands.specs.symbols.Parts.{plain_each_element, plain_set, plain_maybe_elements, plain_maybe_high}
use Rattle.check_operands.proofs.symbols.Parts.{compared_parts, designator_parts, list_parts, next_expression_parts, elements_parts, set_parts, next_element_parts, element_parts, high_parts}
use Rattle.ob_judge.specs.Judged.{Judged, Keeps, Breaks, ◌>>=◌}
use Rattle.ob_judge.specs.Shapes.{Set as SetShape}
use Rattle.ob_judge.specs.Image as I
use Rattle.ob_judge.specs.Scopes.{World, Source, place}
use Rattle.ob_judge.specs.Operands.{Operand, value}
use Rattle.ob_judge.specs.Calls as J
use Rattle.ob_judge.specs.Symbols.{add_operator, add_symbol, mul_operator, mul_symbol, expression_first, bare_simple}
use Rattle.ob_judge.specs.Names.{Stage, Whole, named}
use Rattle.ob_judge.specs.Parts.{element, joined, signed, related, set_element, is_test, as_factor}
use Rattle.ob_judge.specs.Expressions.{expression, simple, added, term, multiplied, factor, with_elements, with_element, selected, select, indexed, indexed_more, arguments, next_arguments, designator}
use Rattle.check_expressions.specs.Steps.{is_with, related_with, compared_with, added_one, multiplied_one, number_in, indexed_one, given_by, arguments_from}
use Rattle.check_types.specs.declared.names.scope.Scope.{Scope}
use Rattle.check_operands.specs.declared.calls.arguments.Given.{Given}
use Rattle.check_operands.specs.calls.Given.{IsGiven, AreGiven}
use Rattle.check_expressions.proofs.Walking.{with_nothing_behind}
use Rattle.check_operands.proofs.calls.Binding.{then_then}
use Rattle.check_operands.proofs.calls.Binding.{alike}

-- given arguments, and one more
pub given_last : (s : Scope) (xs : List Given) (bs : List J.Given) (x : Given) (b : J.Given) → AreGiven s xs bs → IsGiven s x b → AreGiven s (xs ++ x ∷ []) (bs ++ b ∷ [])
given_last s [] [] x b h k = (k, tt)
given_last s [] (a ∷ bs) x b h k = absurd h
given_last s (y ∷ xs) [] x b h k = absurd h
given_last s (y ∷ xs) (a ∷ bs) x b h k = (h.0, given_last s xs bs x b h.1 k)

module _ (p : Source) (w : World) where
  -- ---- relations

  is_with_is : (i : ℕ) (x : Operand) (right : Simple) (q : Option (ℕ × Option ℕ)) →
      elim q as (λ _. Judged Operand) [
        | None ↦ simple p w (plain_simple right) >>= λ y. Breaks 31 (place p i)
        | Some n ↦ is_test p w (Some n) (place p i) x
      ] ≡ is_with p w i x right q
  is_with_is i x right None = refl
  is_with_is i x right (Some n) = refl

  related_is : (left : S.Simple) (r : Relation) (right : Simple) → expression p w (S.compared left r (plain_simple right)) ≡ (simple p w left >>= λ x. related_with p w x r right)
  related_is left (TheRelation.Equal i) right = refl
  related_is left (TheRelation.NotEqual i) right = refl
  related_is left (TheRelation.Less i) right = refl
  related_is left (TheRelation.LessEqual i) right = refl
  related_is left (TheRelation.Greater i) right = refl
  related_is left (TheRelation.GreaterEqual i) right = refl
  related_is left (TheRelation.In i) right = refl
  related_is left (TheRelation.Is i) right = alike (simple p w left) _ _ (λ x. is_with_is i x right (bare_simple (plain_simple right)))

  pub expression_only : (x : Expression) → (out-Expression x).compared ≡ None → expression p w (plain_expression x) ≡ simple p w (plain_simple (out-Expression x).left)
  expression_only x h = ap (expression p w) (expression_parts x ∙ ap (plain_maybe_compared (plain_simple (out-Expression x).left)) h)

  pub expression_compared : (x : Expression) (c : Box Compared Global) → (out-Expression x).compared ≡ Some c →
      expression p w (plain_expression x) ≡ (simple p w (plain_simple (out-Expression x).left) >>= λ y. compared_with p w y c.value)
  expression_compared x c h =
      ap (expression p w) (expression_parts x ∙ ap (plain_maybe_compared (plain_simple (out-Expression x).left)) h ∙ compared_parts c.value (plain_simple (out-Expression x).left))
      ∙ related_is (plain_simple (out-Expression x).left) (out-Compared c.value).relation (out-Compared c.value).right

  -- ---- sums and products

  pub simple_is : (x : Simple) → simple p w (plain_simple x) ≡ (term p w (plain_term (out-Simple x).first) >>= λ y. signed p w (out-Simple x).sign y >>= λ z. added p w z (plain_each_added (out-Simple x).more.items))
  simple_is x = ap (simple p w) (simple_parts x)

  pub term_is : (x : Term) → term p w (plain_term x) ≡ (factor p w (plain_factor (out-Term x).first) >>= λ y. multiplied p w y (plain_each_multiplied (out-Term x).more.items))
  term_is x = ap (term p w) (term_parts x)

  -- without further terms or factors
  pub bare_simple_is : (x : Simple) → (out-Simple x).sign ≡ None → (out-Simple x).more.items ≡ [] → simple p w (plain_simple x) ≡ term p w (plain_term (out-Simple x).first)
  bare_simple_is x unsigned lone =
      simple_is x
      ∙ ap (λ o. term p w (plain_term (out-Simple x).first) >>= λ y. signed p w o y >>= λ z. added p w z (plain_each_added (out-Simple x).more.items)) unsigned
      ∙ ap (λ xs. term p w (plain_term (out-Simple x).first) >>= λ y. added p w y (plain_each_added xs)) lone
      ∙ with_nothing_behind (term p w (plain_term (out-Simple x).first))

  pub bare_term_is : (x : Term) → (out-Term x).more.items ≡ [] → term p w (plain_term x) ≡ factor p w (plain_factor (out-Term x).first)
  bare_term_is x lone =
      term_is x
      ∙ ap (λ xs. factor p w (plain_factor (out-Term x).first) >>= λ y. multiplied p w y (plain_each_multiplied xs)) lone
      ∙ with_nothing_behind (factor p w (plain_factor (out-Term x).first))

  pub added_law : (a : Operand) (x : Added) (xs : List Added) → added p w a (plain_each_added (x ∷ xs)) ≡ (added_one p w a x >>= λ z. added p w z (plain_each_added xs))
  added_law a x xs =
      ap (added p w a) (added_parts x xs)
      ∙ then_then (term p w (plain_term (out-Added x).term)) (λ y. joined (add_operator (out-Added x).operator) (place p (add_symbol (out-Added x).operator)) a y) (λ z. added p w z (plain_each_added xs))

  pub multiplied_law : (a : Operand) (x : Multiplied) (xs : List Multiplied) → multiplied p w a (plain_each_multiplied (x ∷ xs)) ≡ (multiplied_one p w a x >>= λ z. multiplied p w z (plain_each_multiplied xs))
  multiplied_law a x xs = then_then (factor p w (plain_factor x.factor)) (λ y. joined (mul_operator x.operator) (place p (mul_symbol x.operator)) a y) (λ z. multiplied p w z (plain_each_multiplied xs))

  -- ---- sets

  pub set_none : (x : Set) → (out-Set x).elements ≡ None → factor p w (plain_set x) ≡ Keeps (value SetShape (I.Literal 0))
  set_none x h = ap (factor p w) (set_parts x ∙ ap (λ e. plain_maybe_elements (out-Set x).left_brace e (out-Set x).right_brace) h)

  pub set_some : (x : Set) (e : Elements) → (out-Set x).elements ≡ Some e →
      factor p w (plain_set x) ≡ (with_element p w (I.Literal 0) (plain_element (out-Elements e).first) >>= λ s. with_elements p w s (plain_each_element (out-Elements e).more.items) >>= λ t. Keeps (value SetShape t))
  set_some x e h =
      ap (factor p w) (set_parts x ∙ ap (λ o. plain_maybe_elements (out-Set x).left_brace o (out-Set x).right_brace) h ∙ elements_parts (out-Set x).left_brace (out-Set x).right_brace e)

  pub elements_law : (a : I.Expr) (x : NextElement) (xs : List NextElement) →
      with_elements p w a (plain_each_element (x ∷ xs)) ≡ (with_element p w a (plain_element (out-NextElement x).element) >>= λ z. with_elements p w z (plain_each_element xs))
  elements_law a x xs = ap (with_elements p w a) (next_element_parts x xs)

  pub element_one : (a : I.Expr) (x : Element) → (out-Element x).high ≡ None → with_element p w a (plain_element x) ≡ (number_in p w (plain_expression (out-Element x).low) >>= λ b. Keeps (I.Linked a (I.Element b)))
  element_one a x h =
      ap (with_element p w a) (element_parts x ∙ ap (plain_maybe_high (plain_expression (out-Element x).low)) h)
      ∙ then_then (expression p w (plain_expression (out-Element x).low)) (λ y. set_element (place p (expression_first (plain_expression (out-Element x).low))) y) (λ b. Keeps (I.Linked a (I.Element b)))

  ranged : (a : I.Expr) (low high : S.Expression) (i : ℕ) → with_element p w a (S.range low i high) ≡ (number_in p w low >>= λ b. number_in p w high >>= λ c. Keeps (I.Linked a (I.Elements b c)))
  ranged a low high i =
      then_then (expression p w low) (λ x. set_element (place p (expression_first low)) x) (λ b. expression p w high >>= λ y. set_element (place p (expression_first high)) y >>= λ c. Keeps (I.Linked a (I.Elements b c)))
      ∙ alike (number_in p w low) _ _ (λ b. then_then (expression p w high) (λ y. set_element (place p (expression_first high)) y) (λ c. Keeps (I.Linked a (I.Elements b c))))

  pub element_range : (a : I.Expr) (x : Element) (h : ElementHigh) → (out-Element x).high ≡ Some h →
      with_element p w a (plain_element x) ≡ (number_in p w (plain_expression (out-Element x).low) >>= λ b. number_in p w (plain_expression (out-ElementHigh h).expression) >>= λ c. Keeps (I.Linked a (I.Elements b c)))
  element_range a x h e =
      ap (with_element p w a) (element_parts x ∙ ap (plain_maybe_high (plain_expression (out-Element x).low)) e ∙ high_parts (plain_expression (out-Element x).low) h)
      ∙ ranged a (plain_expression (out-Element x).low) (plain_expression (out-ElementHigh h).expression) (out-ElementHigh h).dots

  -- ---- designators

  pub factor_designator : (d : Designator) → factor p w (plain_factor (TheFactor.Designator d)) ≡ (designator p w (plain_designator d) >>= λ x. as_factor p w (place p d.name) x)
  factor_designator d =
      ap (factor p w) (designator_parts d)
      ∙ then_then (named p w d.name) (λ o. selected p w (place p d.name) (Whole o) (plain_each_selector d.selectors.items)) (λ x. as_factor p w (place p d.name) x)

  pub indexed_is : (at : ℕ) (x : Operand) (l : ExpressionList) → indexed p w at x (plain_list l) ≡ (indexed_one p w at x (plain_expression (out-List l).first) >>= λ y. indexed_more p w at y (plain_each_expression (out-List l).more.items))
  indexed_is at x l =
      ap (indexed p w at x) (list_parts l)
      ∙ then_then (expression p w (plain_expression (out-List l).first)) (λ i. element at (place p (expression_first (plain_expression (out-List l).first))) x i) (λ y. indexed_more p w at y (plain_each_expression (out-List l).more.items))

  pub indexed_law : (at : ℕ) (a : Operand) (x : NextExpression) (xs : List NextExpression) →
      indexed_more p w at a (plain_each_expression (x ∷ xs)) ≡ (indexed_one p w at a (plain_expression (out-NextExpression x).expression) >>= λ z. indexed_more p w at z (plain_each_expression xs))
  indexed_law at a x xs =
      ap (indexed_more p w at a) (next_expression_parts x xs)
      ∙ then_then (expression p w (plain_expression (out-NextExpression x).expression)) (λ i. element at (place p (expression_first (plain_expression (out-NextExpression x).expression))) a i) (λ z. indexed_more p w at z (plain_each_expression xs))

  -- ---- arguments

  -- the arguments so far, and those of the rest
  abbrev pub given_with : List J.Given → List NextExpression → Judged (List J.Given)
  given_with so_far rest = next_arguments p w (plain_each_expression rest) >>= λ xs. Keeps (so_far ++ xs)

  -- one argument more
  abbrev pub given_more : List J.Given → NextExpression → Judged (List J.Given)
  given_more so_far x = given_by p w (plain_expression (out-NextExpression x).expression) >>= λ g. Keeps (so_far ++ g ∷ [])

  after_first : (so_far : List J.Given) (g : J.Given) (more : Judged (List J.Given)) →
      ((more >>= λ xs. Keeps (g ∷ xs)) >>= λ xs. Keeps (so_far ++ xs)) ≡ (more >>= λ xs. Keeps ((so_far ++ g ∷ []) ++ xs))
  after_first so_far g (Keeps xs) = ap Keeps (sym (append_assoc so_far (g ∷ []) xs))
  after_first so_far g (Breaks n at) = refl

  given_then : (so_far : List J.Given) (m : Judged Operand) (at : ℕ) (more : Judged (List J.Given)) →
      ((m >>= λ x. more >>= λ xs. Keeps (record { at = at; operand = x } ∷ xs)) >>= λ xs. Keeps (so_far ++ xs))
      ≡ (((m >>= λ x. Keeps (record { at = at; operand = x })) >>= λ g. Keeps (so_far ++ g ∷ [])) >>= λ z. more >>= λ xs. Keeps (z ++ xs))
  given_then so_far (Keeps x) at more = after_first so_far (record { at = at; operand = x }) more
  given_then so_far (Breaks n k) at more = refl

  pub given_law : (so_far : List J.Given) (x : NextExpression) (xs : List NextExpression) → given_with so_far (x ∷ xs) ≡ (given_more so_far x >>= λ z. given_with z xs)
  given_law so_far x xs =
      let e = plain_expression (out-NextExpression x).expression in
      ap (λ m. next_arguments p w m >>= λ ys. Keeps (so_far ++ ys)) (next_expression_parts x xs)
      ∙ given_then so_far (expression p w e) (place p (expression_first e)) (next_arguments p w (plain_each_expression xs))

  -- a list of arguments by its first
  pub arguments_is : (l : ExpressionList) → arguments p w (plain_list l) ≡ (given_by p w (plain_expression (out-List l).first) >>= λ g. arguments_from p w g (plain_each_expression (out-List l).more.items))
  arguments_is l =
      let e = plain_expression (out-List l).first in
      ap (arguments p w) (list_parts l)
      ∙ then_then (expression p w e) (λ x. Keeps (record { at = place p (expression_first e); operand = x })) (λ g. arguments_from p w g (plain_each_expression (out-List l).more.items))

  -- a relation that isn't IS
  pub related_other : (x : Operand) (r : Relation) (right : Simple) → ((i : ℕ) → r ≡ TheRelation.Is i → ⊥) → related_with p w x r right ≡ (simple p w (plain_simple right) >>= λ y. related p w r x y)
  related_other x (TheRelation.Equal i) right h = refl
  related_other x (TheRelation.NotEqual i) right h = refl
  related_other x (TheRelation.Less i) right h = refl
  related_other x (TheRelation.LessEqual i) right h = refl
  related_other x (TheRelation.Greater i) right h = refl
  related_other x (TheRelation.GreaterEqual i) right h = refl
  related_other x (TheRelation.In i) right h = refl
  related_other x (TheRelation.Is i) right h = absurd (h i refl)
