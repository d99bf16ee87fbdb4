-- What a tree of an expression shows at once: its operators, its first symbol, and whether it is one qualident.
use Rattle.std.specs.Prelude.{ℕ, Option, Some, None}
use Rattle.ob_syntax.specs.Syntax as S
use Rattle.ob_syntax.specs.declared.expressions.Sign.{Sign}
use Rattle.ob_syntax.specs.declared.expressions.Sign.TheVariants as TheSign
use Rattle.ob_syntax.specs.declared.expressions.AddOperator.{AddOperator}
use Rattle.ob_syntax.specs.declared.expressions.AddOperator.TheVariants as TheAddOperator
use Rattle.ob_syntax.specs.declared.expressions.MulOperator.{MulOperator}
use Rattle.ob_syntax.specs.declared.expressions.MulOperator.TheVariants as TheMulOperator
use Rattle.ob_judge.specs.Operators.{Operator, Plus, Minus, Times, Slash, Div, Mod, And, Or}

-- ---- operators and their places

abbrev pub add_operator : AddOperator → Operator
add_operator (TheAddOperator.Plus i) = Plus
add_operator (TheAddOperator.Minus i) = Minus
add_operator (TheAddOperator.Or i) = Or

abbrev pub add_symbol : AddOperator → ℕ
add_symbol (TheAddOperator.Plus i) = i
add_symbol (TheAddOperator.Minus i) = i
add_symbol (TheAddOperator.Or i) = i

abbrev pub mul_operator : MulOperator → Operator
mul_operator (TheMulOperator.Times i) = Times
mul_operator (TheMulOperator.Slash i) = Slash
mul_operator (TheMulOperator.Div i) = Div
mul_operator (TheMulOperator.Mod i) = Mod
mul_operator (TheMulOperator.And i) = And

abbrev pub mul_symbol : MulOperator → ℕ
mul_symbol (TheMulOperator.Times i) = i
mul_symbol (TheMulOperator.Slash i) = i
mul_symbol (TheMulOperator.Div i) = i
mul_symbol (TheMulOperator.Mod i) = i
mul_symbol (TheMulOperator.And i) = i

-- ---- the first symbol of an expression

abbrev pub sign_symbol : Option Sign → ℕ → ℕ
sign_symbol None i = i
sign_symbol (Some (TheSign.Plus i)) j = i
sign_symbol (Some (TheSign.Minus i)) j = i

abbrev pub factor_first : S.Factor → ℕ
factor_first (S.Int i) = i
factor_first (S.Text i) = i
factor_first (S.Char i) = i
factor_first (S.Nil i) = i
factor_first (S.True i) = i
factor_first (S.False i) = i
factor_first (S.EmptySet i j) = i
factor_first (S.Set i first more j) = i
factor_first (S.Designated name selectors) = name
factor_first (S.Paren i x j) = i
factor_first (S.Not i x) = i

abbrev pub term_first : S.Term → ℕ
term_first (S.term first more) = factor_first first

abbrev pub simple_first : S.Simple → ℕ
simple_first (S.simple sign first more) = sign_symbol sign (term_first first)

abbrev pub expression_first : S.Expression → ℕ
expression_first (S.only left) = simple_first left
expression_first (S.compared left relation right) = simple_first left

-- ---- an expression that is one qualident: its name and its member

abbrev pub bare_factor : S.Factor → Option (ℕ × Option ℕ)
bare_factor (S.Designated name S.no_selector) = Some (name, None)
bare_factor (S.Designated name (S.selected (S.Field period i) S.no_selector)) = Some (name, Some i)
bare_factor x = None

abbrev pub bare_term : S.Term → Option (ℕ × Option ℕ)
bare_term (S.term first S.no_factor) = bare_factor first
bare_term x = None

abbrev pub bare_simple : S.Simple → Option (ℕ × Option ℕ)
bare_simple (S.simple None first S.no_term) = bare_term first
bare_simple x = None

abbrev pub bare : S.Expression → Option (ℕ × Option ℕ)
bare (S.only left) = bare_simple left
bare x = None

-- of a list of arguments
abbrev pub bare_list : S.Expressions → Option (ℕ × Option ℕ)
bare_list (S.expressions first S.no_expression) = bare first
bare_list x = None
