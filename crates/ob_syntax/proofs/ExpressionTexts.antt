-- What an expression that code makes spells: from the parts that it is made of.
use Rattle.std.proofs.Common.{◌≡◌, ℕ, Vec, Global, Box, Option, Some, None, refl, ap, ◌∙◌}
use Rattle.ob_grammar.specs.Grammar as G
use Rattle.ob_syntax.specs.Leaves.{leaf, boxed, optional, each, ◌⧺◌}
use Rattle.ob_syntax.specs.ExpressionText.{designator_text, selector_text, list_text, next_expression_text, expression_text, compared_text, relation_text, simple_text, sign_text, added_text, add_operator_text, term_text, multiplied_text, mul_operator_text, factor_text, set_text, elements_text, next_element_text, element_text, element_high_text, selector_row, next_expression_row, added_row, multiplied_row, next_element_row, held_list_text, held_elements_text, held_compared_text, held_high_text}
use Rattle.ob_syntax.specs.declared.expressions.Designator.{Designator, Row_of-Selector, end_of-Selector, more_of-Selector, items-the_row-Selector, items_hidden-the_row-Selector-0}
use Rattle.ob_syntax.specs.declared.expressions.Selector.{Selector, back-Selector-Parens-1}
use Rattle.ob_syntax.specs.declared.expressions.Selector.TheVariants as TheSelector
use Rattle.ob_syntax.specs.declared.expressions.List.{List as ExpressionList, roll-List, rolls-List', Row_of-NextExpression, end_of-NextExpression, more_of-NextExpression, items-the_row-NextExpression, items_hidden-the_row-NextExpression-2}
use Rattle.ob_syntax.specs.declared.expressions.NextExpression.{NextExpression, roll-NextExpression, rolls-NextExpression'}
use Rattle.ob_syntax.specs.declared.expressions.Expression.{Expression, roll-Expression, rolls-Expression', back-Expression-compared}
use Rattle.ob_syntax.specs.declared.expressions.Compared.{Compared, roll-Compared, rolls-Compared'}
use Rattle.ob_syntax.specs.declared.expressions.Relation.{Relation}
use Rattle.ob_syntax.specs.declared.expressions.Simple.{Simple, roll-Simple, rolls-Simple', Row_of-Added, end_of-Added, more_of-Added, items-the_row-Added, items_hidden-the_row-Added-3}
use Rattle.ob_syntax.specs.declared.expressions.Sign.{Sign}
use Rattle.ob_syntax.specs.declared.expressions.Added.{Added, roll-Added, rolls-Added'}
use Rattle.ob_syntax.specs.declared.expressions.AddOperator.{AddOperator}
use Rattle.ob_syntax.specs.declared.expressions.Term.{Term, roll-Term, rolls-Term', Row_of-Multiplied, end_of-Multiplied, more_of-Multiplied, items-the_row-Multiplied, items_hidden-the_row-Multiplied-4}
use Rattle.ob_syntax.specs.declared.expressions.Multiplied.{Multiplied}
use Rattle.ob_syntax.specs.declared.expressions.Factor.{Factor}
use Rattle.ob_syntax.specs.declared.expressions.Factor.TheVariants as TheFactor
use Rattle.ob_syntax.specs.declared.expressions.Set.{Set, roll-Set, rolls-Set', back-Set-elements}
use Rattle.ob_syntax.specs.declared.expressions.Elements.{Elements, roll-Elements, rolls-Elements', Row_of-NextElement, end_of-NextElement, more_of-NextElement, items-the_row-NextElement, items_hidden-the_row-NextElement-1}
use Rattle.ob_syntax.specs.declared.expressions.NextElement.{NextElement, roll-NextElement, rolls-NextElement'}
use Rattle.ob_syntax.specs.declared.expressions.Element.{Element, roll-Element, rolls-Element', back-Element-high}
use Rattle.ob_syntax.specs.declared.expressions.ElementHigh.{ElementHigh, roll-ElementHigh, rolls-ElementHigh'}
use Rattle.ob_syntax.specs.declared.expressions.Factor.TheBlock.{hidden-the_row-Selector-0, hidden-the_row-NextExpression-2, hidden-the_row-Added-3, hidden-the_row-Multiplied-4, hidden-the_row-NextElement-1}

selector_row_are : (m : _) (row : Row_of-Selector m) → selector_row row ≡ each selector_text (items-the_row-Selector m row)
selector_row_are m end_of-Selector = refl
selector_row_are m (more_of-Selector x rest) = ap (λ t. selector_text x ⧺ t) (selector_row_are _ rest)

pub selector_row_is : (xs : Vec Selector Global) → selector_row (hidden-the_row-Selector-0 xs) ≡ each selector_text xs.items
selector_row_is xs = selector_row_are _ (hidden-the_row-Selector-0 xs) ∙ ap (each selector_text) (items_hidden-the_row-Selector-0 xs)

pub held_list_is : (x : Option ExpressionList) → held_list_text (back-Selector-Parens-1 x) ≡ optional list_text x
held_list_is None = refl
held_list_is (Some x) = refl

next_expression_row_are : (m : _) (row : Row_of-NextExpression m) → next_expression_row row ≡ each next_expression_text (items-the_row-NextExpression m row)
next_expression_row_are m end_of-NextExpression = refl
next_expression_row_are m (more_of-NextExpression x rest) = ap (λ t. next_expression_text x ⧺ t) (next_expression_row_are _ rest)

pub next_expression_row_is : (xs : Vec NextExpression Global) → next_expression_row (hidden-the_row-NextExpression-2 xs) ≡ each next_expression_text xs.items
next_expression_row_is xs = next_expression_row_are _ (hidden-the_row-NextExpression-2 xs) ∙ ap (each next_expression_text) (items_hidden-the_row-NextExpression-2 xs)

pub held_compared_is : (x : Option (Box Compared Global)) → held_compared_text (back-Expression-compared x) ≡ optional (boxed compared_text) x
held_compared_is None = refl
held_compared_is (Some x) = refl

added_row_are : (m : _) (row : Row_of-Added m) → added_row row ≡ each added_text (items-the_row-Added m row)
added_row_are m end_of-Added = refl
added_row_are m (more_of-Added x rest) = ap (λ t. added_text x ⧺ t) (added_row_are _ rest)

pub added_row_is : (xs : Vec Added Global) → added_row (hidden-the_row-Added-3 xs) ≡ each added_text xs.items
added_row_is xs = added_row_are _ (hidden-the_row-Added-3 xs) ∙ ap (each added_text) (items_hidden-the_row-Added-3 xs)

multiplied_row_are : (m : _) (row : Row_of-Multiplied m) → multiplied_row row ≡ each multiplied_text (items-the_row-Multiplied m row)
multiplied_row_are m end_of-Multiplied = refl
multiplied_row_are m (more_of-Multiplied operator factor rest) = ap (λ t. (mul_operator_text operator ⧺ factor_text factor) ⧺ t) (multiplied_row_are _ rest)

pub multiplied_row_is : (xs : Vec Multiplied Global) → multiplied_row (hidden-the_row-Multiplied-4 xs) ≡ each multiplied_text xs.items
multiplied_row_is xs = multiplied_row_are _ (hidden-the_row-Multiplied-4 xs) ∙ ap (each multiplied_text) (items_hidden-the_row-Multiplied-4 xs)

pub held_elements_is : (x : Option Elements) → held_elements_text (back-Set-elements x) ≡ optional elements_text x
held_elements_is None = refl
held_elements_is (Some x) = refl

next_element_row_are : (m : _) (row : Row_of-NextElement m) → next_element_row row ≡ each next_element_text (items-the_row-NextElement m row)
next_element_row_are m end_of-NextElement = refl
next_element_row_are m (more_of-NextElement x rest) = ap (λ t. next_element_text x ⧺ t) (next_element_row_are _ rest)

pub next_element_row_is : (xs : Vec NextElement Global) → next_element_row (hidden-the_row-NextElement-1 xs) ≡ each next_element_text xs.items
next_element_row_is xs = next_element_row_are _ (hidden-the_row-NextElement-1 xs) ∙ ap (each next_element_text) (items_hidden-the_row-NextElement-1 xs)

pub held_high_is : (x : Option ElementHigh) → held_high_text (back-Element-high x) ≡ optional element_high_text x
held_high_is None = refl
held_high_is (Some x) = refl

pub selector_parens_is : (left_paren : ℕ) (list : Option ExpressionList) (right_paren : ℕ) →
    selector_text (TheSelector.Parens left_paren list right_paren) ≡ leaf G.left_paren left_paren ⧺ optional list_text list ⧺ leaf G.right_paren right_paren
selector_parens_is left_paren list right_paren =
    ap (λ t. leaf G.left_paren left_paren ⧺ t ⧺ leaf G.right_paren right_paren) (held_list_is list)

pub list_is : (first : Expression) (more : Vec NextExpression Global) →
    list_text (roll-List (record { first = first; more = more }))
    ≡ expression_text first ⧺ each next_expression_text more.items
list_is first more =
    ap list_text (rolls-List' (record { first = first; more = more }))
    ∙ ap (λ t. expression_text first ⧺ t) (next_expression_row_is more)

pub next_expression_is : (comma : ℕ) (expression : Expression) →
    next_expression_text (roll-NextExpression (record { comma = comma; expression = expression }))
    ≡ leaf G.comma comma ⧺ expression_text expression
next_expression_is comma expression =
    ap next_expression_text (rolls-NextExpression' (record { comma = comma; expression = expression }))

pub expression_is : (left : Simple) (compared : Option (Box Compared Global)) →
    expression_text (roll-Expression (record { left = left; compared = compared }))
    ≡ simple_text left ⧺ optional (boxed compared_text) compared
expression_is left compared =
    ap expression_text (rolls-Expression' (record { left = left; compared = compared }))
    ∙ ap (λ t. simple_text left ⧺ t) (held_compared_is compared)

pub compared_is : (relation : Relation) (right : Simple) →
    compared_text (roll-Compared (record { relation = relation; right = right }))
    ≡ relation_text relation ⧺ simple_text right
compared_is relation right =
    ap compared_text (rolls-Compared' (record { relation = relation; right = right }))

pub simple_is : (sign : Option Sign) (first : Term) (more : Vec Added Global) →
    simple_text (roll-Simple (record { sign = sign; first = first; more = more }))
    ≡ optional sign_text sign ⧺ term_text first ⧺ each added_text more.items
simple_is sign first more =
    ap simple_text (rolls-Simple' (record { sign = sign; first = first; more = more }))
    ∙ ap (λ t. optional sign_text sign ⧺ term_text first ⧺ t) (added_row_is more)

pub added_is : (operator : AddOperator) (term : Term) →
    added_text (roll-Added (record { operator = operator; term = term }))
    ≡ add_operator_text operator ⧺ term_text term
added_is operator term =
    ap added_text (rolls-Added' (record { operator = operator; term = term }))

pub term_is : (first : Factor) (more : Vec Multiplied Global) →
    term_text (roll-Term (record { first = first; more = more }))
    ≡ factor_text first ⧺ each multiplied_text more.items
term_is first more =
    ap term_text (rolls-Term' (record { first = first; more = more }))
    ∙ ap (λ t. factor_text first ⧺ t) (multiplied_row_is more)

pub factor_set_is : (x : Box Set Global) → factor_text (TheFactor.Set x) ≡ set_text x.value
factor_set_is x = refl

pub factor_designator_is : (x : Designator) → factor_text (TheFactor.Designator x) ≡ designator_text x
factor_designator_is x = ap (λ t. leaf G.ident x.name ⧺ t) (selector_row_is x.selectors)

pub factor_paren_is : (left_paren : ℕ) (expression : Box Expression Global) (right_paren : ℕ) →
    factor_text (TheFactor.Paren left_paren expression right_paren) ≡ leaf G.left_paren left_paren ⧺ expression_text expression.value ⧺ leaf G.right_paren right_paren
factor_paren_is left_paren expression right_paren = refl

pub factor_not_is : (tilde : ℕ) (factor : Box Factor Global) →
    factor_text (TheFactor.Not tilde factor) ≡ leaf G.tilde tilde ⧺ factor_text factor.value
factor_not_is tilde factor = refl

pub set_is : (left_brace : ℕ) (elements : Option Elements) (right_brace : ℕ) →
    set_text (roll-Set (record { left_brace = left_brace; elements = elements; right_brace = right_brace }))
    ≡ leaf G.left_brace left_brace ⧺ optional elements_text elements ⧺ leaf G.right_brace right_brace
set_is left_brace elements right_brace =
    ap set_text (rolls-Set' (record { left_brace = left_brace; elements = elements; right_brace = right_brace }))
    ∙ ap (λ t. leaf G.left_brace left_brace ⧺ t ⧺ leaf G.right_brace right_brace) (held_elements_is elements)

pub elements_is : (first : Element) (more : Vec NextElement Global) →
    elements_text (roll-Elements (record { first = first; more = more }))
    ≡ element_text first ⧺ each next_element_text more.items
elements_is first more =
    ap elements_text (rolls-Elements' (record { first = first; more = more }))
    ∙ ap (λ t. element_text first ⧺ t) (next_element_row_is more)

pub next_element_is : (comma : ℕ) (element : Element) →
    next_element_text (roll-NextElement (record { comma = comma; element = element }))
    ≡ leaf G.comma comma ⧺ element_text element
next_element_is comma element =
    ap next_element_text (rolls-NextElement' (record { comma = comma; element = element }))

pub element_is : (low : Expression) (high : Option ElementHigh) →
    element_text (roll-Element (record { low = low; high = high }))
    ≡ expression_text low ⧺ optional element_high_text high
element_is low high =
    ap element_text (rolls-Element' (record { low = low; high = high }))
    ∙ ap (λ t. expression_text low ⧺ t) (held_high_is high)

pub element_high_is : (dots : ℕ) (expression : Expression) →
    element_high_text (roll-ElementHigh (record { dots = dots; expression = expression }))
    ≡ leaf G.dots dots ⧺ expression_text expression
element_high_is dots expression =
    ap element_high_text (rolls-ElementHigh' (record { dots = dots; expression = expression }))
