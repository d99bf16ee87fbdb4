-- What expressions and designators spell, by their fields.
use Rattle.std.proofs.Common.{◌≡◌, sym, ap, ◌∙◌}
use Rattle.ob_grammar.specs.Grammar as G
use Rattle.ob_syntax.specs.Leaves.{leaf, boxed, optional, each, ◌⧺◌}
use Rattle.ob_syntax.specs.ExpressionText.{list_text, next_expression_text, expression_text, compared_text, relation_text, simple_text, sign_text, added_text, add_operator_text, term_text, multiplied_text, factor_text, set_text, elements_text, next_element_text, element_text, element_high_text}
use Rattle.ob_syntax.specs.declared.expressions.List.{List as ExpressionList, out-List, roll-out-List}
use Rattle.ob_syntax.specs.declared.expressions.NextExpression.{NextExpression, out-NextExpression, roll-out-NextExpression}
use Rattle.ob_syntax.specs.declared.expressions.Expression.{Expression, out-Expression, roll-out-Expression}
use Rattle.ob_syntax.specs.declared.expressions.Compared.{Compared, out-Compared, roll-out-Compared}
use Rattle.ob_syntax.specs.declared.expressions.Simple.{Simple, out-Simple, roll-out-Simple}
use Rattle.ob_syntax.specs.declared.expressions.Added.{Added, out-Added, roll-out-Added}
use Rattle.ob_syntax.specs.declared.expressions.Term.{Term, out-Term, roll-out-Term}
use Rattle.ob_syntax.specs.declared.expressions.Set.{Set, out-Set, roll-out-Set}
use Rattle.ob_syntax.specs.declared.expressions.Elements.{Elements, out-Elements, roll-out-Elements}
use Rattle.ob_syntax.specs.declared.expressions.NextElement.{NextElement, out-NextElement, roll-out-NextElement}
use Rattle.ob_syntax.specs.declared.expressions.Element.{Element, out-Element, roll-out-Element}
use Rattle.ob_syntax.specs.declared.expressions.ElementHigh.{ElementHigh, out-ElementHigh, roll-out-ElementHigh}
use Rattle.ob_syntax.proofs.ExpressionTexts.{list_is, next_expression_is, expression_is, compared_is, simple_is, added_is, term_is, set_is, elements_is, next_element_is, element_is, element_high_is}

pub list_parts : (x : ExpressionList) →
    list_text x
    ≡ expression_text (out-List x).first ⧺ each next_expression_text (out-List x).more.items
list_parts x =
    ap list_text (sym (roll-out-List x))
    ∙ list_is (out-List x).first (out-List x).more

pub next_expression_parts : (x : NextExpression) →
    next_expression_text x
    ≡ leaf G.comma (out-NextExpression x).comma ⧺ expression_text (out-NextExpression x).expression
next_expression_parts x =
    ap next_expression_text (sym (roll-out-NextExpression x))
    ∙ next_expression_is (out-NextExpression x).comma (out-NextExpression x).expression

pub expression_parts : (x : Expression) →
    expression_text x
    ≡ simple_text (out-Expression x).left ⧺ optional (boxed compared_text) (out-Expression x).compared
expression_parts x =
    ap expression_text (sym (roll-out-Expression x))
    ∙ expression_is (out-Expression x).left (out-Expression x).compared

pub compared_parts : (x : Compared) →
    compared_text x
    ≡ relation_text (out-Compared x).relation ⧺ simple_text (out-Compared x).right
compared_parts x =
    ap compared_text (sym (roll-out-Compared x))
    ∙ compared_is (out-Compared x).relation (out-Compared x).right

pub simple_parts : (x : Simple) →
    simple_text x
    ≡ optional sign_text (out-Simple x).sign ⧺ term_text (out-Simple x).first ⧺ each added_text (out-Simple x).more.items
simple_parts x =
    ap simple_text (sym (roll-out-Simple x))
    ∙ simple_is (out-Simple x).sign (out-Simple x).first (out-Simple x).more

pub added_parts : (x : Added) →
    added_text x
    ≡ add_operator_text (out-Added x).operator ⧺ term_text (out-Added x).term
added_parts x =
    ap added_text (sym (roll-out-Added x))
    ∙ added_is (out-Added x).operator (out-Added x).term

pub term_parts : (x : Term) →
    term_text x
    ≡ factor_text (out-Term x).first ⧺ each multiplied_text (out-Term x).more.items
term_parts x =
    ap term_text (sym (roll-out-Term x))
    ∙ term_is (out-Term x).first (out-Term x).more

pub set_parts : (x : Set) →
    set_text x
    ≡ leaf G.left_brace (out-Set x).left_brace ⧺ optional elements_text (out-Set x).elements
    ⧺ leaf G.right_brace (out-Set x).right_brace
set_parts x =
    ap set_text (sym (roll-out-Set x))
    ∙ set_is (out-Set x).left_brace (out-Set x).elements (out-Set x).right_brace

pub elements_parts : (x : Elements) →
    elements_text x
    ≡ element_text (out-Elements x).first ⧺ each next_element_text (out-Elements x).more.items
elements_parts x =
    ap elements_text (sym (roll-out-Elements x))
    ∙ elements_is (out-Elements x).first (out-Elements x).more

pub next_element_parts : (x : NextElement) →
    next_element_text x
    ≡ leaf G.comma (out-NextElement x).comma ⧺ element_text (out-NextElement x).element
next_element_parts x =
    ap next_element_text (sym (roll-out-NextElement x))
    ∙ next_element_is (out-NextElement x).comma (out-NextElement x).element

pub element_parts : (x : Element) →
    element_text x
    ≡ expression_text (out-Element x).low ⧺ optional element_high_text (out-Element x).high
element_parts x =
    ap element_text (sym (roll-out-Element x))
    ∙ element_is (out-Element x).low (out-Element x).high

pub element_high_parts : (x : ElementHigh) →
    element_high_text x
    ≡ leaf G.dots (out-ElementHigh x).dots ⧺ expression_text (out-ElementHigh x).expression
element_high_parts x =
    ap element_high_text (sym (roll-out-ElementHigh x))
    ∙ element_high_is (out-ElementHigh x).dots (out-ElementHigh x).expression
