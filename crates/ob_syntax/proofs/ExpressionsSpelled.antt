-- Expressions are spelled by trees of the grammar.
use Rattle.ob_grammar.specs.Grammar as G
use Rattle.ob_grammar.specs.Grammar.{Phrase, part, ◌·◌, ◌∣◌, opt, many}
use Rattle.ob_syntax.specs.ExpressionText.{designator_text, selector_text, list_text, next_expression_text, expression_text, compared_text, relation_text, simple_text, sign_text, added_text, add_operator_text, term_text, mul_operator_text, factor_text, set_text, elements_text, next_element_text, element_text, element_high_text, selector_row, next_expression_row, added_row, multiplied_row, next_element_row, held_list_text, held_elements_text, held_compared_text, held_high_text}
use Rattle.ob_syntax.specs.declared.expressions.Designator.{Designator, Row_of-Selector, end_of-Selector, more_of-Selector}
use Rattle.ob_syntax.specs.declared.expressions.Selector.{Selector, Held-Selector-Parens-1, Selector-Parens-1-None', Selector-Parens-1-Some'}
use Rattle.ob_syntax.specs.declared.expressions.Selector.TheVariants as TheSelector
use Rattle.ob_syntax.specs.declared.expressions.List.{List as ExpressionList, List', Row_of-NextExpression, end_of-NextExpression, more_of-NextExpression}
use Rattle.ob_syntax.specs.declared.expressions.NextExpression.{NextExpression, NextExpression'}
use Rattle.ob_syntax.specs.declared.expressions.Expression.{Expression, Expression', Held-Expression-compared, Expression-compared-None', Expression-compared-Some'}
use Rattle.ob_syntax.specs.declared.expressions.Compared.{Compared, Compared'}
use Rattle.ob_syntax.specs.declared.expressions.Relation.{Relation}
use Rattle.ob_syntax.specs.declared.expressions.Relation.TheVariants as TheRelation
use Rattle.ob_syntax.specs.declared.expressions.Simple.{Simple, Simple', Row_of-Added, end_of-Added, more_of-Added}
use Rattle.ob_syntax.specs.declared.expressions.Sign.{Sign}
use Rattle.ob_syntax.specs.declared.expressions.Sign.TheVariants as TheSign
use Rattle.ob_syntax.specs.declared.expressions.Added.{Added, Added'}
use Rattle.ob_syntax.specs.declared.expressions.AddOperator.{AddOperator}
use Rattle.ob_syntax.specs.declared.expressions.AddOperator.TheVariants as TheAddOperator
use Rattle.ob_syntax.specs.declared.expressions.Term.{Term, Term', Row_of-Multiplied, end_of-Multiplied, more_of-Multiplied}
use Rattle.ob_syntax.specs.declared.expressions.MulOperator.{MulOperator}
use Rattle.ob_syntax.specs.declared.expressions.MulOperator.TheVariants as TheMulOperator
use Rattle.ob_syntax.specs.declared.expressions.Factor.{Factor}
use Rattle.ob_syntax.specs.declared.expressions.Factor.TheVariants as TheFactor
use Rattle.ob_syntax.specs.declared.expressions.Set.{Set, Set', Held-Set-elements, Set-elements-None', Set-elements-Some'}
use Rattle.ob_syntax.specs.declared.expressions.Elements.{Elements, Elements', Row_of-NextElement, end_of-NextElement, more_of-NextElement}
use Rattle.ob_syntax.specs.declared.expressions.NextElement.{NextElement, NextElement'}
use Rattle.ob_syntax.specs.declared.expressions.Element.{Element, Element', Held-Element-high, Element-high-None', Element-high-Some'}
use Rattle.ob_syntax.specs.declared.expressions.ElementHigh.{ElementHigh, ElementHigh'}
use Rattle.ob_syntax.proofs.Spelled.{Spelled, symbol, ◌then◌, left, right, there, absent, again, done, named, within, if_there, all}

abbrev pub relations : Phrase
relations = G.equal ∣ G.not_equal ∣ G.less ∣ G.less_equal ∣ G.greater ∣ G.greater_equal ∣ G.IN ∣ G.IS

abbrev pub relation : (x : Relation) → Spelled relations (relation_text x)
relation (TheRelation.Equal i) = left (symbol i)
relation (TheRelation.NotEqual i) = right (left (symbol i))
relation (TheRelation.Less i) = right (right (left (symbol i)))
relation (TheRelation.LessEqual i) = right (right (right (left (symbol i))))
relation (TheRelation.Greater i) = right (right (right (right (left (symbol i)))))
relation (TheRelation.GreaterEqual i) = right (right (right (right (right (left (symbol i))))))
relation (TheRelation.In i) = right (right (right (right (right (right (left (symbol i)))))))
relation (TheRelation.Is i) = right (right (right (right (right (right (right (symbol i)))))))

abbrev pub sign : (x : Sign) → Spelled (G.plus ∣ G.minus) (sign_text x)
sign (TheSign.Plus i) = left (symbol i)
sign (TheSign.Minus i) = right (symbol i)

abbrev pub add_operators : Phrase
add_operators = G.plus ∣ G.minus ∣ G.OR

abbrev pub add_operator : (x : AddOperator) → Spelled add_operators (add_operator_text x)
add_operator (TheAddOperator.Plus i) = left (symbol i)
add_operator (TheAddOperator.Minus i) = right (left (symbol i))
add_operator (TheAddOperator.Or i) = right (right (symbol i))

abbrev pub mul_operators : Phrase
mul_operators = G.times ∣ G.slash ∣ G.DIV ∣ G.MOD ∣ G.ampersand

abbrev pub mul_operator : (x : MulOperator) → Spelled mul_operators (mul_operator_text x)
mul_operator (TheMulOperator.Times i) = left (symbol i)
mul_operator (TheMulOperator.Slash i) = right (left (symbol i))
mul_operator (TheMulOperator.Div i) = right (right (left (symbol i)))
mul_operator (TheMulOperator.Mod i) = right (right (right (left (symbol i))))
mul_operator (TheMulOperator.And i) = right (right (right (right (symbol i))))

abbrev pub selectors : Phrase
selectors = G.period · G.ident ∣ G.opening G.left_bracket (part G.list · G.right_bracket) ∣ G.arrow
    ∣ G.opening G.left_paren (opt (part G.list) · G.right_paren)

abbrev mutual
  pub selector : (x : Selector) → Spelled selectors (selector_text x)
  selector (TheSelector.Field i j) = left (symbol i then symbol j)
  selector (TheSelector.Index i x j) = right (left (within i (list x then symbol j)))
  selector (TheSelector.Arrow i) = right (right (left (symbol i)))
  selector (TheSelector.Parens' i x j) = right (right (right (within i (held_list x then symbol j))))

  pub selector_all : {m : _} (x : Row_of-Selector m) → Spelled (many selectors) (selector_row x)
  selector_all end_of-Selector = done
  selector_all (more_of-Selector x rest) = again (selector x) (selector_all rest)

  pub held_list : (x : Held-Selector-Parens-1) → Spelled (opt (part G.list)) (held_list_text x)
  held_list Selector-Parens-1-None' = absent
  held_list (Selector-Parens-1-Some' x) = there (list x)

  pub list : (x : ExpressionList) → Spelled (part G.list) (list_text x)
  list (List' first _ more) = named (expression first then next_expression_all more)

  pub next_expression_all : {m : _} (x : Row_of-NextExpression m) → Spelled (many (G.comma
      · part G.expression)) (next_expression_row x)
  next_expression_all end_of-NextExpression = done
  next_expression_all (more_of-NextExpression x rest) = again (next_expression x) (next_expression_all rest)

  pub next_expression : (x : NextExpression) → Spelled (G.comma · part G.expression) (next_expression_text x)
  next_expression (NextExpression' i x) = symbol i then expression x

  pub expression : (x : Expression) → Spelled (part G.expression) (expression_text x)
  expression (Expression' x y) = named (simple x then held_compared y)

  pub held_compared : (x : Held-Expression-compared) → Spelled (opt (relations
      · part G.simple)) (held_compared_text x)
  held_compared Expression-compared-None' = absent
  held_compared (Expression-compared-Some' _ x) = there (compared x)

  pub compared : (x : Compared) → Spelled (relations · part G.simple) (compared_text x)
  compared (Compared' x y) = relation x then simple y

  pub simple : (x : Simple) → Spelled (part G.simple) (simple_text x)
  simple (Simple' s first _ more) = named (if_there sign_text (sign) s then term first then added_all more)

  pub added_all : {m : _} (x : Row_of-Added m) → Spelled (many (add_operators · part G.term)) (added_row x)
  added_all end_of-Added = done
  added_all (more_of-Added x rest) = again (added x) (added_all rest)

  pub added : (x : Added) → Spelled (add_operators · part G.term) (added_text x)
  added (Added' o x) = add_operator o then term x

  pub term : (x : Term) → Spelled (part G.term) (term_text x)
  term (Term' first _ more) = named (factor first then multiplied_all more)

  pub multiplied_all : {m : _} (x : Row_of-Multiplied m) → Spelled (many (mul_operators
      · part G.factor)) (multiplied_row x)
  multiplied_all end_of-Multiplied = done
  multiplied_all (more_of-Multiplied o x rest) = again (mul_operator o then factor x) (multiplied_all rest)

  pub factor : (x : Factor) → Spelled (part G.factor) (factor_text x)
  factor (TheFactor.Int i) = named (left (symbol i))
  factor (TheFactor.Text i) = named (right (left (symbol i)))
  factor (TheFactor.Char i) = named (right (right (left (symbol i))))
  factor (TheFactor.Nil i) = named (right (right (right (left (symbol i)))))
  factor (TheFactor.True i) = named (right (right (right (right (left (symbol i))))))
  factor (TheFactor.False i) = named (right (right (right (right (right (left (symbol i)))))))
  factor (TheFactor.Set' _ x) = named (right (right (right (right (right (right (left (set x))))))))
  factor (TheFactor.Designator' i _ more) = named (right (right (right (right (right (right (right (left (named (symbol i
      then selector_all more))))))))))
  factor (TheFactor.Paren' i _ x j) = named (right (right (right (right (right (right (right (right (left (within i (expression x
      then symbol j)))))))))))
  factor (TheFactor.Not' i _ x) = named (right (right (right (right (right (right (right (right (right (within i (factor x)))))))))))

  pub set : (x : Set) → Spelled (part G.set) (set_text x)
  set (Set' i x j) = named (within i (held_elements x then symbol j))

  pub held_elements : (x : Held-Set-elements) → Spelled (opt (part G.element · many (G.comma
      · part G.element))) (held_elements_text x)
  held_elements Set-elements-None' = absent
  held_elements (Set-elements-Some' x) = there (elements x)

  pub elements : (x : Elements) → Spelled (part G.element · many (G.comma · part G.element)) (elements_text x)
  elements (Elements' first _ more) = element first then next_element_all more

  pub next_element_all : {m : _} (x : Row_of-NextElement m) → Spelled (many (G.comma
      · part G.element)) (next_element_row x)
  next_element_all end_of-NextElement = done
  next_element_all (more_of-NextElement x rest) = again (next_element x) (next_element_all rest)

  pub next_element : (x : NextElement) → Spelled (G.comma · part G.element) (next_element_text x)
  next_element (NextElement' i x) = symbol i then element x

  pub element : (x : Element) → Spelled (part G.element) (element_text x)
  element (Element' x y) = named (expression x then held_high y)

  pub held_high : (x : Held-Element-high) → Spelled (opt (G.dots · part G.expression)) (held_high_text x)
  held_high Element-high-None' = absent
  held_high (Element-high-Some' x) = there (element_high x)

  pub element_high : (x : ElementHigh) → Spelled (G.dots · part G.expression) (element_high_text x)
  element_high (ElementHigh' i x) = symbol i then expression x

abbrev pub designator : (x : Designator) → Spelled (part G.designator) (designator_text x)
designator x = named (symbol x.name then all selector_text (selector) x.selectors.items)
