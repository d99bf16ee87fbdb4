-- The syntax of an expression's parts, from the parts that code takes out of them.
use Rattle.std.proofs.Common.{◌≡◌, ℕ, List, [], ◌∷◌, Vec, Global, Box, Option, Some, None, refl, sym, ap, ◌∙◌}
use Rattle.ob_syntax.specs.Syntax as S
use Rattle.ob_syntax.specs.Plain.{plain_expression, plain_compared, plain_simple, plain_factor, plain_element, plain_elements, plain_selector, plain_selectors, plain_each_selector, plain_list, plain_next_expressions, plain_each_expression}
use Rattle.ob_syntax.specs.declared.expressions.Designator.{Designator, Row_of-Selector, end_of-Selector, more_of-Selector, items-the_row-Selector, items_hidden-the_row-Selector-0}
use Rattle.ob_syntax.specs.declared.expressions.Selector.{Selector, back-Selector-Parens-1}
use Rattle.ob_syntax.specs.declared.expressions.Selector.TheVariants as TheSelector
use Rattle.ob_syntax.specs.declared.expressions.List.{List as ExpressionList, out-List, roll-out-List, roll-List, rolls-List', Row_of-NextExpression, end_of-NextExpression, more_of-NextExpression, items-the_row-NextExpression, items_hidden-the_row-NextExpression-2}
use Rattle.ob_syntax.specs.declared.expressions.NextExpression.{NextExpression, NextExpression', out-NextExpression, roll-out-NextExpression, roll-NextExpression, rolls-NextExpression'}
use Rattle.ob_syntax.specs.declared.expressions.Expression.{Expression}
use Rattle.ob_syntax.specs.declared.expressions.Relation.{Relation}
use Rattle.ob_syntax.specs.declared.expressions.Compared.{Compared, out-Compared, roll-out-Compared, roll-Compared, rolls-Compared'}
use Rattle.ob_syntax.specs.declared.expressions.Simple.{Simple}
use Rattle.ob_syntax.specs.declared.expressions.Factor.{Factor}
use Rattle.ob_syntax.specs.declared.expressions.Factor.TheVariants as TheFactor
use Rattle.ob_syntax.specs.declared.expressions.Set.{Set, Set', Set-elements-None', Set-elements-Some', out-Set, roll-out-Set, roll-Set, rolls-Set', back-Set-elements}
use Rattle.ob_syntax.specs.declared.expressions.Elements.{Elements, Elements', out-Elements, roll-out-Elements, roll-Elements, rolls-Elements', Row_of-NextElement, end_of-NextElement, more_of-NextElement, items-the_row-NextElement, items_hidden-the_row-NextElement-1}
use Rattle.ob_syntax.specs.declared.expressions.NextElement.{NextElement, NextElement', out-NextElement, roll-out-NextElement, roll-NextElement, rolls-NextElement'}
use Rattle.ob_syntax.specs.declared.expressions.Element.{Element, out-Element, roll-out-Element, roll-Element, rolls-Element', back-Element-high}
use Rattle.ob_syntax.specs.declared.expressions.ElementHigh.{ElementHigh, ElementHigh', out-ElementHigh, roll-out-ElementHigh, roll-ElementHigh, rolls-ElementHigh'}
use Rattle.ob_syntax.specs.declared.expressions.Factor.TheBlock.{hidden-the_row-Selector-0, hidden-the_row-NextExpression-2, hidden-the_row-NextElement-1}
use Rattle.check_operands.specs.symbols.Parts.{plain_each_element, plain_set, plain_maybe_elements, plain_maybe_high, plain_maybe_list}

-- ---- relations

compared_is : (r : Relation) (y : Simple) (x : S.Simple) → plain_compared (roll-Compared (record { relation = r; right = y })) x ≡ S.compared x r (plain_simple y)
compared_is r y x = ap (λ c. plain_compared c x) (rolls-Compared' (record { relation = r; right = y }))

pub compared_parts : (c : Compared) (x : S.Simple) → plain_compared c x ≡ S.compared x (out-Compared c).relation (plain_simple (out-Compared c).right)
compared_parts c x = ap (λ d. plain_compared d x) (sym (roll-out-Compared c)) ∙ compared_is (out-Compared c).relation (out-Compared c).right x

-- ---- designators

selectors_are : (m : _) (row : Row_of-Selector m) → plain_selectors row ≡ plain_each_selector (items-the_row-Selector m row)
selectors_are m end_of-Selector = refl
selectors_are m (more_of-Selector s rest) = ap (S.selected (plain_selector s)) (selectors_are _ rest)

pub designator_parts : (d : Designator) → plain_factor (TheFactor.Designator d) ≡ S.Designated d.name (plain_each_selector d.selectors.items)
designator_parts d = ap (S.Designated d.name) (selectors_are _ (hidden-the_row-Selector-0 d.selectors) ∙ ap (λ ss. plain_each_selector ss) (items_hidden-the_row-Selector-0 d.selectors))

pub parens_parts : (i : ℕ) (list : Option ExpressionList) (j : ℕ) → plain_selector (TheSelector.Parens i list j) ≡ plain_maybe_list i list j
parens_parts i None j = refl
parens_parts i (Some x) j = refl

-- ---- lists

expressions_are : (m : _) (row : Row_of-NextExpression m) → plain_next_expressions row ≡ plain_each_expression (items-the_row-NextExpression m row)
expressions_are m end_of-NextExpression = refl
expressions_are m (more_of-NextExpression (NextExpression' i x) rest) = ap (S.next_expression i (plain_expression x)) (expressions_are _ rest)

list_is : (first : Expression) (more : Vec NextExpression Global) → plain_list (roll-List (record { first = first; more = more })) ≡ S.expressions (plain_expression first) (plain_each_expression more.items)
list_is first more =
    ap (λ l. plain_list l) (rolls-List' (record { first = first; more = more }))
    ∙ ap (S.expressions (plain_expression first)) (expressions_are _ (hidden-the_row-NextExpression-2 more) ∙ ap (λ xs. plain_each_expression xs) (items_hidden-the_row-NextExpression-2 more))

pub list_parts : (x : ExpressionList) → plain_list x ≡ S.expressions (plain_expression (out-List x).first) (plain_each_expression (out-List x).more.items)
list_parts x = ap (λ l. plain_list l) (sym (roll-out-List x)) ∙ list_is (out-List x).first (out-List x).more

next_expression_is : (i : ℕ) (e : Expression) (xs : List NextExpression) → plain_each_expression (roll-NextExpression (record { comma = i; expression = e }) ∷ xs) ≡ S.next_expression i (plain_expression e) (plain_each_expression xs)
next_expression_is i e xs = ap (λ n. plain_each_expression (n ∷ xs)) (rolls-NextExpression' (record { comma = i; expression = e }))

pub next_expression_parts : (x : NextExpression) (xs : List NextExpression) → plain_each_expression (x ∷ xs) ≡ S.next_expression (out-NextExpression x).comma (plain_expression (out-NextExpression x).expression) (plain_each_expression xs)
next_expression_parts x xs = ap (λ n. plain_each_expression (n ∷ xs)) (sym (roll-out-NextExpression x)) ∙ next_expression_is (out-NextExpression x).comma (out-NextExpression x).expression xs

-- ---- sets

elements_are : (m : _) (row : Row_of-NextElement m) → plain_elements row ≡ plain_each_element (items-the_row-NextElement m row)
elements_are m end_of-NextElement = refl
elements_are m (more_of-NextElement (NextElement' i x) rest) = ap (S.next_element i (plain_element x)) (elements_are _ rest)

elements_is : (i j : ℕ) (first : Element) (more : Vec NextElement Global) →
    plain_maybe_elements i (Some (roll-Elements (record { first = first; more = more }))) j ≡ S.Set i (plain_element first) (plain_each_element more.items) j
elements_is i j first more =
    ap (λ e. plain_maybe_elements i (Some e) j) (rolls-Elements' (record { first = first; more = more }))
    ∙ ap (λ es. S.Set i (plain_element first) es j) (elements_are _ (hidden-the_row-NextElement-1 more) ∙ ap (λ xs. plain_each_element xs) (items_hidden-the_row-NextElement-1 more))

pub elements_parts : (i j : ℕ) (x : Elements) → plain_maybe_elements i (Some x) j ≡ S.Set i (plain_element (out-Elements x).first) (plain_each_element (out-Elements x).more.items) j
elements_parts i j x = ap (λ e. plain_maybe_elements i (Some e) j) (sym (roll-out-Elements x)) ∙ elements_is i j (out-Elements x).first (out-Elements x).more

factor_of_set : (h : _) (x : Set) → plain_factor (TheFactor.Set' h x) ≡ plain_set x
factor_of_set h (Set' i Set-elements-None' j) = refl
factor_of_set h (Set' i (Set-elements-Some' (Elements' first k more)) j) = refl

pub set_is : (b : Box Set Global) → plain_factor (TheFactor.Set b) ≡ plain_set b.value
set_is b = factor_of_set (record { ptr = b.ptr; alloc = b.alloc; value = tt }) b.value

set_held : (i : ℕ) (elements : Option Elements) (j : ℕ) → plain_set (roll-Set (record { left_brace = i; elements = elements; right_brace = j })) ≡ plain_maybe_elements i elements j
set_held i None j = ap (λ s. plain_set s) (rolls-Set' (record { left_brace = i; elements = None; right_brace = j }))
set_held i (Some (Elements' first h more)) j = ap (λ s. plain_set s) (rolls-Set' (record { left_brace = i; elements = Some (Elements' first h more); right_brace = j }))

pub set_parts : (x : Set) → plain_set x ≡ plain_maybe_elements (out-Set x).left_brace (out-Set x).elements (out-Set x).right_brace
set_parts x = ap (λ s. plain_set s) (sym (roll-out-Set x)) ∙ set_held (out-Set x).left_brace (out-Set x).elements (out-Set x).right_brace

next_element_is : (i : ℕ) (e : Element) (xs : List NextElement) → plain_each_element (roll-NextElement (record { comma = i; element = e }) ∷ xs) ≡ S.next_element i (plain_element e) (plain_each_element xs)
next_element_is i e xs = ap (λ n. plain_each_element (n ∷ xs)) (rolls-NextElement' (record { comma = i; element = e }))

pub next_element_parts : (x : NextElement) (xs : List NextElement) → plain_each_element (x ∷ xs) ≡ S.next_element (out-NextElement x).comma (plain_element (out-NextElement x).element) (plain_each_element xs)
next_element_parts x xs = ap (λ n. plain_each_element (n ∷ xs)) (sym (roll-out-NextElement x)) ∙ next_element_is (out-NextElement x).comma (out-NextElement x).element xs

element_is : (low : Expression) (high : Option ElementHigh) → plain_element (roll-Element (record { low = low; high = high })) ≡ plain_maybe_high (plain_expression low) high
element_is low None = ap (λ e. plain_element e) (rolls-Element' (record { low = low; high = None }))
element_is low (Some (ElementHigh' i y)) = ap (λ e. plain_element e) (rolls-Element' (record { low = low; high = Some (ElementHigh' i y) }))

pub element_parts : (x : Element) → plain_element x ≡ plain_maybe_high (plain_expression (out-Element x).low) (out-Element x).high
element_parts x = ap (λ e. plain_element e) (sym (roll-out-Element x)) ∙ element_is (out-Element x).low (out-Element x).high

high_is : (low : S.Expression) (i : ℕ) (e : Expression) → plain_maybe_high low (Some (roll-ElementHigh (record { dots = i; expression = e }))) ≡ S.range low i (plain_expression e)
high_is low i e = ap (λ h. plain_maybe_high low (Some h)) (rolls-ElementHigh' (record { dots = i; expression = e }))

pub high_parts : (low : S.Expression) (h : ElementHigh) → plain_maybe_high low (Some h) ≡ S.range low (out-ElementHigh h).dots (plain_expression (out-ElementHigh h).expression)
high_parts low h = ap (λ z. plain_maybe_high low (Some z)) (sym (roll-out-ElementHigh h)) ∙ high_is low (out-ElementHigh h).dots (out-ElementHigh h).expression
