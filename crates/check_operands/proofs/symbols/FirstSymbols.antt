-- The first symbol of an expression, by the parts that code takes out of it.
use Rattle.std.proofs.Common.{◌≡◌, ℕ, Box, Global, Option, Some, None, refl, ap, ◌∙◌}
use Rattle.ob_syntax.specs.Syntax as S
use Rattle.ob_syntax.specs.Plain.{plain_expression, plain_maybe_compared, plain_simple, plain_term, plain_factor}
use Rattle.ob_syntax.specs.declared.expressions.Expression.{Expression, out-Expression}
use Rattle.ob_syntax.specs.declared.expressions.Compared.{Compared}
use Rattle.ob_syntax.specs.declared.expressions.Simple.{Simple, out-Simple}
use Rattle.ob_syntax.specs.declared.expressions.Sign.{Sign}
use Rattle.ob_syntax.specs.declared.expressions.Term.{Term, out-Term}
use Rattle.ob_syntax.specs.declared.expressions.Set.{Set, out-Set}
use Rattle.ob_syntax.specs.declared.expressions.Elements.{Elements, Elements'}
use Rattle.ob_syntax.specs.declared.expressions.Factor.TheVariants as TheFactor
use Rattle.ob_syntax.proofs.PlainParts.{expression_parts, simple_parts, term_parts}
use Rattle.check_operands.specs.symbols.Parts.{plain_maybe_elements}
use Rattle.check_operands.proofs.symbols.Parts.{compared_parts, set_is, set_parts}
use Rattle.ob_judge.specs.Symbols.{sign_symbol, factor_first, term_first, simple_first, expression_first}

elements_first : (i : ℕ) (elements : Option Elements) (j : ℕ) → factor_first (plain_maybe_elements i elements j) ≡ i
elements_first i None j = refl
elements_first i (Some (Elements' first h more)) j = refl

pub set_first : (b : Box Set Global) → factor_first (plain_factor (TheFactor.Set b)) ≡ (out-Set b.value).left_brace
set_first b =
    let x = out-Set b.value in
    ap factor_first (set_is b ∙ set_parts b.value) ∙ elements_first x.left_brace x.elements x.right_brace

compared_first : (x : S.Simple) (y : Option (Box Compared Global)) → expression_first (plain_maybe_compared x y) ≡ simple_first x
compared_first x None = refl
compared_first x (Some y) = ap expression_first (compared_parts y.value x)

first_of_term : (x : Term) → term_first (plain_term x) ≡ factor_first (plain_factor (out-Term x).first)
first_of_term x = ap term_first (term_parts x)

first_of_simple : (x : Simple) → simple_first (plain_simple x) ≡ sign_symbol (out-Simple x).sign (factor_first (plain_factor (out-Term (out-Simple x).first).first))
first_of_simple x = ap simple_first (simple_parts x) ∙ ap (sign_symbol (out-Simple x).sign) (first_of_term (out-Simple x).first)

first_of_expression : (x : Expression) →
    expression_first (plain_expression x) ≡ sign_symbol (out-Simple (out-Expression x).left).sign (factor_first (plain_factor (out-Term (out-Simple (out-Expression x).left).first).first))
first_of_expression x =
    let y = out-Expression x in
    ap expression_first (expression_parts x) ∙ compared_first (plain_simple y.left) y.compared ∙ first_of_simple y.left

-- what its sign tells of it
pub first_by_sign : (x : Expression) (sign : Option Sign) → (out-Simple (out-Expression x).left).sign ≡ sign →
    expression_first (plain_expression x) ≡ sign_symbol sign (factor_first (plain_factor (out-Term (out-Simple (out-Expression x).left).first).first))
first_by_sign x sign h = first_of_expression x ∙ ap (λ s. sign_symbol s (factor_first (plain_factor (out-Term (out-Simple (out-Expression x).left).first).first))) h
