-- The syntax of the parts of an expression that hold lists and options, and a name with its member.
use Rattle.std.specs.Prelude.{ℕ, List, [], ◌∷◌, Option, Some, None}
use Rattle.ob_syntax.specs.Syntax as S
use Rattle.ob_syntax.specs.declared.expressions.List.{List as ExpressionList}
use Rattle.ob_syntax.specs.declared.expressions.Set.{Set, Set', Set-elements-None', Set-elements-Some'}
use Rattle.ob_syntax.specs.declared.expressions.Elements.{Elements, Elements'}
use Rattle.ob_syntax.specs.declared.expressions.NextElement.{NextElement, NextElement'}
use Rattle.ob_syntax.specs.declared.expressions.ElementHigh.{ElementHigh, ElementHigh'}
use Rattle.ob_syntax.specs.Plain.{plain_expression, plain_element, plain_elements, plain_list}
use Rattle.check_operands.specs.declared.symbols.bare.BareName.{BareName}

abbrev pub name_and_member : BareName → ℕ × Option ℕ
name_and_member b = (b.name, b.member)

-- further elements of a set
abbrev pub plain_each_element : List NextElement → S.NextElements
plain_each_element [] = S.no_element
plain_each_element (NextElement' i x ∷ xs) = S.next_element i (plain_element x) (plain_each_element xs)

-- a set, with or without elements
abbrev pub plain_maybe_elements : (left_brace : ℕ) → Option Elements → (right_brace : ℕ) → S.Factor
plain_maybe_elements i None j = S.EmptySet i j
plain_maybe_elements i (Some (Elements' first _ more)) j = S.Set i (plain_element first) (plain_elements more) j

-- a set
abbrev pub plain_set : Set → S.Factor
plain_set (Set' i Set-elements-None' j) = S.EmptySet i j
plain_set (Set' i (Set-elements-Some' (Elements' first _ more)) j) = S.Set i (plain_element first) (plain_elements more) j

-- an element, or all from one to another
abbrev pub plain_maybe_high : (low : S.Expression) → Option ElementHigh → S.Element
plain_maybe_high low None = S.one low
plain_maybe_high low (Some (ElementHigh' i high)) = S.range low i (plain_expression high)

-- a list in parentheses, which may be empty
abbrev pub plain_maybe_list : (left_paren : ℕ) → Option ExpressionList → (right_paren : ℕ) → S.Selector
plain_maybe_list i None j = S.EmptyParens i j
plain_maybe_list i (Some x) j = S.Parens i (plain_list x) j
