-- Expressions that are one qualident, by the parts that code takes out of them.
use Rattle.std.proofs.Common.{◌≡◌, ℕ, ◌≤◌, List, [], ◌∷◌, length, Bool, true, false, nat_eq, Option, Some, None, refl, sym, ap, ◌∙◌, arith}
use Rattle.std.proofs.lemmas.Bool.{eqb-true}
use Rattle.std.proofs.lemmas.List.{nil_from_length}
use Rattle.ob_syntax.specs.Syntax as S
use Rattle.ob_syntax.specs.Plain.{plain_expression, plain_maybe_compared, plain_simple, plain_each_added, plain_term, plain_each_multiplied, plain_factor, plain_selector, plain_each_selector, plain_list, plain_each_expression}
use Rattle.ob_syntax.specs.declared.expressions.Expression.{Expression, out-Expression}
use Rattle.ob_syntax.specs.declared.expressions.Simple.{Simple, out-Simple}
use Rattle.ob_syntax.specs.declared.expressions.Term.{Term, out-Term}
use Rattle.ob_syntax.specs.declared.expressions.Added.{Added, out-Added}
use Rattle.ob_syntax.specs.declared.expressions.List.{List as ExpressionList, out-List}
use Rattle.ob_syntax.specs.declared.expressions.NextExpression.{NextExpression}
use Rattle.ob_syntax.specs.declared.expressions.Multiplied.{Multiplied}
use Rattle.ob_syntax.specs.declared.expressions.Sign.{Sign}
use Rattle.ob_syntax.specs.declared.expressions.Selector.{Selector}
use Rattle.ob_syntax.proofs.PlainParts.{expression_parts, simple_parts, added_parts, term_parts}
use Rattle.check_operands.proofs.symbols.Parts.{list_parts, next_expression_parts}
use Rattle.ob_judge.specs.Symbols.{bare_factor, bare_term, bare_simple, bare, bare_list}

pub nil_of : {X : Type 0} (xs : List X) (b : Bool) → b ≡ nat_eq (length xs) 0 → b ≡ true → xs ≡ []
nil_of xs b e t = nil_from_length xs (eqb-true (length xs) 0 (sym e ∙ t))

two_selectors : (name : ℕ) (s t : S.Selector) (rest : S.Selectors) → None ≡ bare_factor (S.Designated name (S.selected s (S.selected t rest)))
two_selectors name (S.Field i j) t rest = refl
two_selectors name (S.Index i l j) t rest = refl
two_selectors name (S.Arrow i) t rest = refl
two_selectors name (S.EmptyParens i j) t rest = refl
two_selectors name (S.Parens i l j) t rest = refl

pub many_selectors : (name : ℕ) (xs : List Selector) → 2 ≤ length xs → None ≡ bare_factor (S.Designated name (plain_each_selector xs))
many_selectors name [] h = absurd (omega (arith, h))
many_selectors name (x ∷ []) h = absurd (omega (arith, h))
many_selectors name (x ∷ y ∷ xs) h = two_selectors name (plain_selector x) (plain_selector y) (plain_each_selector xs)

pub term_only : (x : Term) → (out-Term x).more.items ≡ [] → bare_term (plain_term x) ≡ bare_factor (plain_factor (out-Term x).first)
term_only x h = ap bare_term (term_parts x ∙ ap (λ ms. S.term (plain_factor (out-Term x).first) (plain_each_multiplied ms)) h)

more_factors : (f : S.Factor) (ms : List Multiplied) (b : Bool) → b ≡ nat_eq (length ms) 0 → b ≡ false → None ≡ bare_term (S.term f (plain_each_multiplied ms))
more_factors f [] b e h = cc
more_factors f (m ∷ ms) b e h = refl

pub term_more : (x : Term) (b : Bool) → b ≡ nat_eq (length (out-Term x).more.items) 0 → b ≡ false → None ≡ bare_term (plain_term x)
term_more x b e h = more_factors (plain_factor (out-Term x).first) (out-Term x).more.items b e h ∙ ap bare_term (sym (term_parts x))

pub sum_only : (t : S.Term) (ms : List Added) → ms ≡ [] → bare_simple (S.simple None t (plain_each_added ms)) ≡ bare_term t
sum_only t ms h = ap (λ xs. bare_simple (S.simple None t (plain_each_added xs))) h

pub sum_more : (t : S.Term) (ms : List Added) (b : Bool) → b ≡ nat_eq (length ms) 0 → b ≡ false → None ≡ bare_simple (S.simple None t (plain_each_added ms))
sum_more t [] b e h = cc
sum_more t (m ∷ ms) b e h = ap (λ xs. bare_simple (S.simple None t xs)) (sym (added_parts m ms))

pub simple_unsigned : (x : Simple) → (out-Simple x).sign ≡ None → bare_simple (plain_simple x) ≡ bare_simple (S.simple None (plain_term (out-Simple x).first) (plain_each_added (out-Simple x).more.items))
simple_unsigned x h = ap bare_simple (simple_parts x ∙ ap (λ s. S.simple s (plain_term (out-Simple x).first) (plain_each_added (out-Simple x).more.items)) h)

pub simple_signed : (x : Simple) (s : Sign) → (out-Simple x).sign ≡ Some s → None ≡ bare_simple (plain_simple x)
simple_signed x s h = sym (ap bare_simple (simple_parts x ∙ ap (λ o. S.simple o (plain_term (out-Simple x).first) (plain_each_added (out-Simple x).more.items)) h))

pub list_only : (x : ExpressionList) → (out-List x).more.items ≡ [] → bare_list (plain_list x) ≡ bare (plain_expression (out-List x).first)
list_only x h = ap bare_list (list_parts x ∙ ap (λ es. S.expressions (plain_expression (out-List x).first) (plain_each_expression es)) h)

more_expressions : (e : S.Expression) (xs : List NextExpression) (b : Bool) → b ≡ nat_eq (length xs) 0 → b ≡ false → None ≡ bare_list (S.expressions e (plain_each_expression xs))
more_expressions e [] b h k = cc
more_expressions e (x ∷ xs) b h k = ap (λ more. bare_list (S.expressions e more)) (sym (next_expression_parts x xs))

pub list_more : (x : ExpressionList) (b : Bool) → b ≡ nat_eq (length (out-List x).more.items) 0 → b ≡ false → None ≡ bare_list (plain_list x)
list_more x b e h = more_expressions (plain_expression (out-List x).first) (out-List x).more.items b e h ∙ ap bare_list (sym (list_parts x))
