-- The syntax of a tree from the parts that code takes out of it.
use Rattle.std.proofs.Common.{◌≡◌, List, ◌∷◌, Vec, Global, Box, Option, Some, None, refl, sym, ap, ◌∙◌}
use Rattle.ob_syntax.specs.Syntax as S
use Rattle.ob_syntax.specs.Plain.{plain_expression, plain_maybe_compared, plain_simple, plain_added, plain_each_added, plain_term, plain_multiplied, plain_each_multiplied, plain_factor}
use Rattle.ob_syntax.specs.declared.expressions.Expression.{Expression, out-Expression, roll-out-Expression, roll-Expression, rolls-Expression'}
use Rattle.ob_syntax.specs.declared.expressions.Compared.{Compared}
use Rattle.ob_syntax.specs.declared.expressions.Simple.{Simple, out-Simple, roll-out-Simple, roll-Simple, rolls-Simple', Row_of-Added, end_of-Added, more_of-Added, items-the_row-Added, items_hidden-the_row-Added-3}
use Rattle.ob_syntax.specs.declared.expressions.Sign.{Sign}
use Rattle.ob_syntax.specs.declared.expressions.AddOperator.{AddOperator}
use Rattle.ob_syntax.specs.declared.expressions.Added.{Added, Added', out-Added, roll-out-Added, roll-Added, rolls-Added'}
use Rattle.ob_syntax.specs.declared.expressions.Term.{Term, out-Term, roll-out-Term, roll-Term, rolls-Term', Row_of-Multiplied, end_of-Multiplied, more_of-Multiplied, items-the_row-Multiplied, items_hidden-the_row-Multiplied-4}
use Rattle.ob_syntax.specs.declared.expressions.Multiplied.{Multiplied}
use Rattle.ob_syntax.specs.declared.expressions.Factor.{Factor}
use Rattle.ob_syntax.specs.declared.expressions.Factor.TheBlock.{hidden-the_row-Added-3, hidden-the_row-Multiplied-4}

added_are : (m : _) (row : Row_of-Added m) → plain_added row ≡ plain_each_added (items-the_row-Added m row)
added_are m end_of-Added = refl
added_are m (more_of-Added (Added' o x) rest) = ap (S.added o (plain_term x)) (added_are _ rest)

added_is : (xs : Vec Added Global) → plain_added (hidden-the_row-Added-3 xs) ≡ plain_each_added xs.items
added_is xs = added_are _ (hidden-the_row-Added-3 xs) ∙ ap (λ v. plain_each_added v) (items_hidden-the_row-Added-3 xs)

multiplied_are : (m : _) (row : Row_of-Multiplied m) → plain_multiplied row ≡ plain_each_multiplied (items-the_row-Multiplied m row)
multiplied_are m end_of-Multiplied = refl
multiplied_are m (more_of-Multiplied o x rest) = ap (S.multiplied o (plain_factor x)) (multiplied_are _ rest)

multiplied_is : (xs : Vec Multiplied Global) → plain_multiplied (hidden-the_row-Multiplied-4 xs) ≡ plain_each_multiplied xs.items
multiplied_is xs = multiplied_are _ (hidden-the_row-Multiplied-4 xs) ∙ ap (λ v. plain_each_multiplied v) (items_hidden-the_row-Multiplied-4 xs)

compared_is : (x : Simple) (y : Option (Box Compared Global)) → plain_expression (roll-Expression (record { left = x; compared = y })) ≡ plain_maybe_compared (plain_simple x) y
compared_is x None = ap (λ e. plain_expression e) (rolls-Expression' (record { left = x; compared = None }))
compared_is x (Some y) = ap (λ e. plain_expression e) (rolls-Expression' (record { left = x; compared = Some y }))

pub expression_parts : (x : Expression) → plain_expression x ≡ plain_maybe_compared (plain_simple (out-Expression x).left) (out-Expression x).compared
expression_parts x = ap (λ e. plain_expression e) (sym (roll-out-Expression x)) ∙ compared_is (out-Expression x).left (out-Expression x).compared

simple_is : (s : Option Sign) (first : Term) (more : Vec Added Global) → plain_simple (roll-Simple (record { sign = s; first = first; more = more })) ≡ S.simple s (plain_term first) (plain_each_added more.items)
simple_is s first more = ap (λ e. plain_simple e) (rolls-Simple' (record { sign = s; first = first; more = more })) ∙ ap (S.simple s (plain_term first)) (added_is more)

pub simple_parts : (x : Simple) → plain_simple x ≡ S.simple (out-Simple x).sign (plain_term (out-Simple x).first) (plain_each_added (out-Simple x).more.items)
simple_parts x = ap (λ e. plain_simple e) (sym (roll-out-Simple x)) ∙ simple_is (out-Simple x).sign (out-Simple x).first (out-Simple x).more

added_one_is : (o : AddOperator) (t : Term) (xs : List Added) → plain_each_added (roll-Added (record { operator = o; term = t }) ∷ xs) ≡ S.added o (plain_term t) (plain_each_added xs)
added_one_is o t xs = ap (λ a. plain_each_added (a ∷ xs)) (rolls-Added' (record { operator = o; term = t }))

pub added_parts : (x : Added) (xs : List Added) → plain_each_added (x ∷ xs) ≡ S.added (out-Added x).operator (plain_term (out-Added x).term) (plain_each_added xs)
added_parts x xs = ap (λ a. plain_each_added (a ∷ xs)) (sym (roll-out-Added x)) ∙ added_one_is (out-Added x).operator (out-Added x).term xs

term_is : (first : Factor) (more : Vec Multiplied Global) → plain_term (roll-Term (record { first = first; more = more })) ≡ S.term (plain_factor first) (plain_each_multiplied more.items)
term_is first more = ap (λ e. plain_term e) (rolls-Term' (record { first = first; more = more })) ∙ ap (S.term (plain_factor first)) (multiplied_is more)

pub term_parts : (x : Term) → plain_term x ≡ S.term (plain_factor (out-Term x).first) (plain_each_multiplied (out-Term x).more.items)
term_parts x = ap (λ e. plain_term e) (sym (roll-out-Term x)) ∙ term_is (out-Term x).first (out-Term x).more
