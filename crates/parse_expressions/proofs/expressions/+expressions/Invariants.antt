-- Each call is of a part that stands lower in the grammar, or has fewer symbols ahead.
use Rattle.std.proofs.Common.{ℕ, ◌+◌, ◌*◌, length}
use Rattle.ob_grammar.specs.Grammar.{opening, part, opt, ◌·◌, ◌∣◌, DIV, MOD, OR, ampersand, arrow, comma, element, expression, factor, ident, left_bracket, left_paren, list, minus, period, plus, right_bracket, right_paren, slash, term, times}
use Rattle.ob_syntax.specs.Leaves.{each}
use Rattle.ob_syntax.specs.ExpressionText.{added_text, multiplied_text, next_element_text, next_expression_text, selector_text}
use Rattle.parse_steps.specs.Parsing.{State, Repeated}
use Rattle.parse_expressions.proofs.expressions.+expressions.Given as goal

abbrev rank : State → ℕ → ℕ
rank a n = 23 * length a.rest + n

abbrev pub decreases-maybe_list : goal.decreases-maybe_list
decreases-maybe_list l = rank l.parser.now 22

abbrev pub decreases-list : goal.decreases-list
decreases-list l = rank l.parser.now 21

abbrev pub decreases-elements : goal.decreases-elements
decreases-elements l = rank l.parser.now 20

abbrev pub decreases-element : goal.decreases-element
decreases-element l = rank l.parser.now 19

abbrev pub decreases-element_high : goal.decreases-element_high
decreases-element_high l = rank l.parser.now 18

abbrev pub decreases-expression : goal.decreases-expression
decreases-expression l = rank l.parser.now 17

abbrev pub decreases-compared : goal.decreases-compared
decreases-compared l = rank l.parser.now 16

abbrev pub decreases-simple : goal.decreases-simple
decreases-simple l = rank l.parser.now 15

abbrev pub decreases-more_terms : goal.decreases-more_terms
decreases-more_terms l = rank l.parser.now 14

abbrev pub decreases-term : goal.decreases-term
decreases-term l = rank l.parser.now 13

abbrev pub decreases-more_factors : goal.decreases-more_factors
decreases-more_factors l = rank l.parser.now 12

abbrev pub decreases-factor : goal.decreases-factor
decreases-factor l = rank l.parser.now 11

abbrev pub decreases-other_factor : goal.decreases-other_factor
decreases-other_factor l = rank l.parser.now 10

abbrev pub decreases-paren : goal.decreases-paren
decreases-paren l = rank l.parser.now 9

abbrev pub decreases-negation : goal.decreases-negation
decreases-negation l = rank l.parser.now 8

abbrev pub decreases-set_factor : goal.decreases-set_factor
decreases-set_factor l = rank l.parser.now 8

abbrev pub decreases-set : goal.decreases-set
decreases-set l = rank l.parser.now 7

abbrev pub decreases-designator : goal.decreases-designator
decreases-designator l = rank l.parser.now 6

abbrev pub decreases-selector : goal.decreases-selector
decreases-selector l = rank l.parser.now 5

abbrev pub decreases-index : goal.decreases-index
decreases-index l = rank l.parser.now 4

abbrev pub decreases-parens : goal.decreases-parens
decreases-parens l = rank l.parser.now 3

abbrev pub decreases-more_expressions : goal.decreases-more_expressions
decreases-more_expressions l = rank l.parser.now 2

abbrev pub decreases-more_elements : goal.decreases-more_elements
decreases-more_elements l = rank l.parser.now 1

abbrev pub invariant-more_terms-rounds : goal.invariant-more_terms-rounds
invariant-more_terms-rounds l = Repeated ((plus ∣ minus ∣ OR) · part term) l.initial.parser l.parser (each added_text l.more.items)

abbrev pub decreases-more_terms-rounds : goal.decreases-more_terms-rounds
decreases-more_terms-rounds l = length l.parser.rest

abbrev pub invariant-more_factors-rounds : goal.invariant-more_factors-rounds
invariant-more_factors-rounds l = Repeated ((times ∣ slash ∣ DIV ∣ MOD ∣ ampersand) · part factor) l.initial.parser l.parser (each multiplied_text l.more.items)

abbrev pub decreases-more_factors-rounds : goal.decreases-more_factors-rounds
decreases-more_factors-rounds l = length l.parser.rest

abbrev pub invariant-more_expressions-rounds : goal.invariant-more_expressions-rounds
invariant-more_expressions-rounds l = Repeated (comma · part expression) l.initial.parser l.parser (each next_expression_text l.more.items)

abbrev pub decreases-more_expressions-rounds : goal.decreases-more_expressions-rounds
decreases-more_expressions-rounds l = length l.parser.rest

abbrev pub invariant-more_elements-rounds : goal.invariant-more_elements-rounds
invariant-more_elements-rounds l = Repeated (comma · part element) l.initial.parser l.parser (each next_element_text l.more.items)

abbrev pub decreases-more_elements-rounds : goal.decreases-more_elements-rounds
decreases-more_elements-rounds l = length l.parser.rest

abbrev pub invariant-designator-rounds : goal.invariant-designator-rounds
invariant-designator-rounds l = Repeated (period · ident ∣ opening left_bracket (part list · right_bracket) ∣ arrow ∣ opening left_paren (opt (part list) · right_paren)) l.initial.parser l.parser (each selector_text l.selectors.items)

abbrev pub decreases-designator-rounds : goal.decreases-designator-rounds
decreases-designator-rounds l = length l.parser.rest
