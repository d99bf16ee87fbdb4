-- What expressions spell, by cases on the tree. Rows and holders are how a type holds a list or an option of its own kind.
use Rattle.std.specs.Prelude.{List, []}
use Rattle.ob_grammar.specs.Grammar as G
use Rattle.ob_syntax.specs.Leaves.{Leaf, leaf, optional, each, ◌⧺◌}
use Rattle.ob_syntax.specs.declared.expressions.Designator.{Designator, Row_of-Selector, end_of-Selector, more_of-Selector}
use Rattle.ob_syntax.specs.declared.expressions.Selector.{Selector, Held-Selector-Parens-1, Selector-Parens-1-None', Selector-Parens-1-Some'}
use Rattle.ob_syntax.specs.declared.expressions.Selector.TheVariants as TheSelector
use Rattle.ob_syntax.specs.declared.expressions.List.{List as ExpressionList, List', Row_of-NextExpression, end_of-NextExpression, more_of-NextExpression}
use Rattle.ob_syntax.specs.declared.expressions.NextExpression.{NextExpression, NextExpression'}
use Rattle.ob_syntax.specs.declared.expressions.Expression.{Expression, Expression', Held-Expression-compared, Expression-compared-None', Expression-compared-Some'}
use Rattle.ob_syntax.specs.declared.expressions.Compared.{Compared, Compared'}
use Rattle.ob_syntax.specs.declared.expressions.Relation.{Relation}
use Rattle.ob_syntax.specs.declared.expressions.Relation.TheVariants as TheRelation
use Rattle.ob_syntax.specs.declared.expressions.Simple.{Simple, Simple', Row_of-Added, end_of-Added, more_of-Added}
use Rattle.ob_syntax.specs.declared.expressions.Sign.{Sign}
use Rattle.ob_syntax.specs.declared.expressions.Sign.TheVariants as TheSign
use Rattle.ob_syntax.specs.declared.expressions.Added.{Added, Added'}
use Rattle.ob_syntax.specs.declared.expressions.AddOperator.{AddOperator}
use Rattle.ob_syntax.specs.declared.expressions.AddOperator.TheVariants as TheAddOperator
use Rattle.ob_syntax.specs.declared.expressions.Term.{Term, Term', Row_of-Multiplied, end_of-Multiplied, more_of-Multiplied}
use Rattle.ob_syntax.specs.declared.expressions.Multiplied.{Multiplied}
use Rattle.ob_syntax.specs.declared.expressions.MulOperator.{MulOperator}
use Rattle.ob_syntax.specs.declared.expressions.MulOperator.TheVariants as TheMulOperator
use Rattle.ob_syntax.specs.declared.expressions.Factor.{Factor}
use Rattle.ob_syntax.specs.declared.expressions.Factor.TheVariants as TheFactor
use Rattle.ob_syntax.specs.declared.expressions.Set.{Set, Set', Held-Set-elements, Set-elements-None', Set-elements-Some'}
use Rattle.ob_syntax.specs.declared.expressions.Elements.{Elements, Elements', Row_of-NextElement, end_of-NextElement, more_of-NextElement}
use Rattle.ob_syntax.specs.declared.expressions.NextElement.{NextElement, NextElement'}
use Rattle.ob_syntax.specs.declared.expressions.Element.{Element, Element', Held-Element-high, Element-high-None', Element-high-Some'}
use Rattle.ob_syntax.specs.declared.expressions.ElementHigh.{ElementHigh, ElementHigh'}

-- `"=" | "#" | "<" | "<=" | ">" | ">=" | IN | IS`
abbrev pub relation_text : Relation → List Leaf
relation_text (TheRelation.Equal i) = leaf G.equal i
relation_text (TheRelation.NotEqual i) = leaf G.not_equal i
relation_text (TheRelation.Less i) = leaf G.less i
relation_text (TheRelation.LessEqual i) = leaf G.less_equal i
relation_text (TheRelation.Greater i) = leaf G.greater i
relation_text (TheRelation.GreaterEqual i) = leaf G.greater_equal i
relation_text (TheRelation.In i) = leaf G.IN i
relation_text (TheRelation.Is i) = leaf G.IS i

-- `"+" | "-"`
abbrev pub sign_text : Sign → List Leaf
sign_text (TheSign.Plus i) = leaf G.plus i
sign_text (TheSign.Minus i) = leaf G.minus i

-- `"+" | "-" | OR`
abbrev pub add_operator_text : AddOperator → List Leaf
add_operator_text (TheAddOperator.Plus i) = leaf G.plus i
add_operator_text (TheAddOperator.Minus i) = leaf G.minus i
add_operator_text (TheAddOperator.Or i) = leaf G.OR i

-- `"*" | "/" | DIV | MOD | "&"`
abbrev pub mul_operator_text : MulOperator → List Leaf
mul_operator_text (TheMulOperator.Times i) = leaf G.times i
mul_operator_text (TheMulOperator.Slash i) = leaf G.slash i
mul_operator_text (TheMulOperator.Div i) = leaf G.DIV i
mul_operator_text (TheMulOperator.Mod i) = leaf G.MOD i
mul_operator_text (TheMulOperator.And i) = leaf G.ampersand i

abbrev mutual
  pub selector_text : Selector → List Leaf
  selector_text (TheSelector.Field period name) = leaf G.period period ⧺ leaf G.ident name
  selector_text (TheSelector.Index left_bracket list right_bracket) = leaf G.left_bracket left_bracket ⧺ list_text list
      ⧺ leaf G.right_bracket right_bracket
  selector_text (TheSelector.Arrow i) = leaf G.arrow i
  selector_text (TheSelector.Parens' left_paren list right_paren) = leaf G.left_paren left_paren ⧺ held_list_text list
      ⧺ leaf G.right_paren right_paren

  pub list_text : ExpressionList → List Leaf
  list_text (List' first _ more) = expression_text first ⧺ next_expression_row more

  pub next_expression_text : NextExpression → List Leaf
  next_expression_text (NextExpression' comma expression) = leaf G.comma comma ⧺ expression_text expression

  pub expression_text : Expression → List Leaf
  expression_text (Expression' left compared) = simple_text left ⧺ held_compared_text compared

  pub compared_text : Compared → List Leaf
  compared_text (Compared' relation right) = relation_text relation ⧺ simple_text right

  pub simple_text : Simple → List Leaf
  simple_text (Simple' sign first _ more) = optional sign_text sign ⧺ term_text first ⧺ added_row more

  pub added_text : Added → List Leaf
  added_text (Added' operator term) = add_operator_text operator ⧺ term_text term

  pub term_text : Term → List Leaf
  term_text (Term' first _ more) = factor_text first ⧺ multiplied_row more

  pub factor_text : Factor → List Leaf
  factor_text (TheFactor.Int i) = leaf G.integer i
  factor_text (TheFactor.Text i) = leaf G.string i
  factor_text (TheFactor.Char i) = leaf G.char i
  factor_text (TheFactor.Nil i) = leaf G.NIL i
  factor_text (TheFactor.True i) = leaf G.TRUE i
  factor_text (TheFactor.False i) = leaf G.FALSE i
  factor_text (TheFactor.Set' _ x) = set_text x
  factor_text (TheFactor.Designator' name _ selectors) = leaf G.ident name ⧺ selector_row selectors
  factor_text (TheFactor.Paren' left_paren _ expression right_paren) = leaf G.left_paren left_paren
      ⧺ expression_text expression ⧺ leaf G.right_paren right_paren
  factor_text (TheFactor.Not' tilde _ factor) = leaf G.tilde tilde ⧺ factor_text factor

  pub set_text : Set → List Leaf
  set_text (Set' left_brace elements right_brace) = leaf G.left_brace left_brace ⧺ held_elements_text elements
      ⧺ leaf G.right_brace right_brace

  pub elements_text : Elements → List Leaf
  elements_text (Elements' first _ more) = element_text first ⧺ next_element_row more

  pub next_element_text : NextElement → List Leaf
  next_element_text (NextElement' comma element) = leaf G.comma comma ⧺ element_text element

  pub element_text : Element → List Leaf
  element_text (Element' low high) = expression_text low ⧺ held_high_text high

  pub element_high_text : ElementHigh → List Leaf
  element_high_text (ElementHigh' dots expression) = leaf G.dots dots ⧺ expression_text expression

  pub selector_row : {m : _} → Row_of-Selector m → List Leaf
  selector_row end_of-Selector = []
  selector_row (more_of-Selector x rest) = selector_text x ⧺ selector_row rest

  pub held_list_text : Held-Selector-Parens-1 → List Leaf
  held_list_text Selector-Parens-1-None' = []
  held_list_text (Selector-Parens-1-Some' x) = list_text x

  pub next_expression_row : {m : _} → Row_of-NextExpression m → List Leaf
  next_expression_row end_of-NextExpression = []
  next_expression_row (more_of-NextExpression x rest) = next_expression_text x ⧺ next_expression_row rest

  pub held_compared_text : Held-Expression-compared → List Leaf
  held_compared_text Expression-compared-None' = []
  held_compared_text (Expression-compared-Some' _ x) = compared_text x

  pub added_row : {m : _} → Row_of-Added m → List Leaf
  added_row end_of-Added = []
  added_row (more_of-Added x rest) = added_text x ⧺ added_row rest

  pub multiplied_row : {m : _} → Row_of-Multiplied m → List Leaf
  multiplied_row end_of-Multiplied = []
  multiplied_row (more_of-Multiplied operator factor rest) = (mul_operator_text operator ⧺ factor_text factor)
      ⧺ multiplied_row rest

  pub held_elements_text : Held-Set-elements → List Leaf
  held_elements_text Set-elements-None' = []
  held_elements_text (Set-elements-Some' x) = elements_text x

  pub next_element_row : {m : _} → Row_of-NextElement m → List Leaf
  next_element_row end_of-NextElement = []
  next_element_row (more_of-NextElement x rest) = next_element_text x ⧺ next_element_row rest

  pub held_high_text : Held-Element-high → List Leaf
  held_high_text Element-high-None' = []
  held_high_text (Element-high-Some' x) = element_high_text x

-- `ident {"." ident | "[" list "]" | "^" | "(" [list] ")"}`
abbrev pub designator_text : Designator → List Leaf
designator_text x = leaf G.ident x.name ⧺ each selector_text x.selectors.items

-- `("*" | "/" | DIV | MOD | "&") factor`
abbrev pub multiplied_text : Multiplied → List Leaf
multiplied_text x = mul_operator_text x.operator ⧺ factor_text x.factor
