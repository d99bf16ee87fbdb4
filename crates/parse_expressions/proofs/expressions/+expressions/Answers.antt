-- Each right side, put together from its parts.
use Rattle.std.proofs.Common.{ap, ◌++◌, ◌∙◌}
use Rattle.ob_grammar.specs.Grammar.{left_paren, right_paren, tilde}
use Rattle.ob_syntax.specs.Leaves.{leaf}
use Rattle.ob_syntax.specs.ExpressionText.{added_text, multiplied_text, next_element_text, next_expression_text, selector_text, set_text, expression_text, factor_text, compared_text}
use Rattle.ob_syntax.proofs.ExpressionTexts.{expression_is, compared_is, simple_is, added_is, term_is, factor_designator_is, set_is, list_is, next_expression_is, elements_is, next_element_is, element_is, element_high_is, selector_parens_is}
use Rattle.parse_steps.proofs.Steps.{as_text, reads_part, reads_then, reads_left, reads_right, reads_some, reads_none, fails_part, fails_first, fails_then, fails_left, fails_right, fails_some, fails_inside, reads_inside, one_more, end_rounds, fails_round, rounds_over, gives_err, left_out, maybe_taken, took}
use Rattle.parse_expressions.proofs.Choosing.{reads_designator, fails_designator, gives_part, gives_left, gives_right}
use Rattle.parse_expressions.proofs.expressions.+expressions.Goals as goal

pub expression-returns-in_err-left : goal.expression-returns-in_err-left
expression-returns-in_err-left t c = gives_err _ c.from_residual.result c.from_residual.ensures.1 (fails_part (fails_first c.in_err-left.ensures))

pub expression-returns-in_err-compared : goal.expression-returns-in_err-compared
expression-returns-in_err-compared t c = gives_err _ c.from_residual-in_err-compared.result c.from_residual-in_err-compared.ensures.1 (fails_part (fails_then c.in_ok-left.ensures c.in_err-compared.ensures))

pub expression-returns : goal.expression-returns
expression-returns t c = as_text (expression_is _ _) (reads_part (reads_then c.in_ok-left.ensures c.in_ok-compared.ensures))

pub compared-returns-in_err-right-in-Some : goal.compared-returns-in_err-right-in-Some
compared-returns-in_err-right-in-Some t c = gives_err _ c.from_residual.result c.from_residual.ensures.1 (fails_some c.in-Some.ensures.here (fails_then c.in-Some.ensures.read c.in_err-right-in-Some.ensures))

pub compared-returns-in-None : goal.compared-returns-in-None
compared-returns-in-None t c = left_out c.in-None.ensures.none c.in-None.ensures

pub compared-returns-in_ok-held-in-Some : goal.compared-returns-in_ok-held-in-Some
compared-returns-in_ok-held-in-Some t c = as_text (ap compared_text c.in_ok-held-in-Some.ensures.ok ∙ compared_is _ _) (reads_some c.in-Some.ensures.here (reads_then c.in-Some.ensures.read c.in_ok-right-in-Some.ensures))

pub simple-returns-in_err-first : goal.simple-returns-in_err-first
simple-returns-in_err-first t c = gives_err _ c.from_residual.result c.from_residual.ensures.1 (fails_part (fails_then (maybe_taken _ _ c.sign-sign.ensures) (fails_first c.in_err-first.ensures)))

pub simple-returns-in_err-more : goal.simple-returns-in_err-more
simple-returns-in_err-more t c = gives_err _ c.from_residual-in_err-more.result c.from_residual-in_err-more.ensures.1 (fails_part (fails_then (maybe_taken _ _ c.sign-sign.ensures) (fails_then c.in_ok-first.ensures c.in_err-more.ensures)))

pub simple-returns : goal.simple-returns
simple-returns t c = as_text (simple_is _ _ _) (reads_part (reads_then (maybe_taken _ _ c.sign-sign.ensures) (reads_then c.in_ok-first.ensures c.in_ok-more.ensures)))

pub more_terms-returns-in_err-next : goal.more_terms-returns-in_err-next
more_terms-returns-in_err-next t c = gives_err _ c.from_residual.result c.from_residual.ensures.1 (fails_round c.rounds.invariant c.in-Some.ensures.here (fails_then c.in-Some.ensures.read c.in_err-next.ensures))

pub more_terms-rounds-preserved : goal.more_terms-rounds-preserved
more_terms-rounds-preserved t c = one_more added_text _ _ _ c.in_ok-add.ensures c.rounds.invariant c.in-Some.ensures.here (as_text (added_is _ _) (reads_then c.in-Some.ensures.read c.in_ok-next.ensures))

pub more_terms-returns : goal.more_terms-returns
more_terms-returns t c = rounds_over c.rounds.invariant c.in_default.ensures.none c.in_default.ensures

pub term-returns-in_err-first : goal.term-returns-in_err-first
term-returns-in_err-first t c = gives_err _ c.from_residual.result c.from_residual.ensures.1 (fails_part (fails_first c.in_err-first.ensures))

pub term-returns-in_err-more : goal.term-returns-in_err-more
term-returns-in_err-more t c = gives_err _ c.from_residual-in_err-more.result c.from_residual-in_err-more.ensures.1 (fails_part (fails_then c.in_ok-first.ensures c.in_err-more.ensures))

pub term-returns : goal.term-returns
term-returns t c = as_text (term_is _ _) (reads_part (reads_then c.in_ok-first.ensures c.in_ok-more.ensures))

pub more_factors-returns-in_err-next : goal.more_factors-returns-in_err-next
more_factors-returns-in_err-next t c = gives_err _ c.from_residual.result c.from_residual.ensures.1 (fails_round c.rounds.invariant c.in-Some.ensures.here (fails_then c.in-Some.ensures.read c.in_err-next.ensures))

pub more_factors-rounds-preserved : goal.more_factors-rounds-preserved
more_factors-rounds-preserved t c = one_more multiplied_text _ _ _ c.in_ok-add.ensures c.rounds.invariant c.in-Some.ensures.here (reads_then c.in-Some.ensures.read c.in_ok-next.ensures)

pub more_factors-returns : goal.more_factors-returns
more_factors-returns t c = rounds_over c.rounds.invariant c.in_default.ensures.none c.in_default.ensures

pub factor-returns-in_err-designator : goal.factor-returns-in_err-designator
factor-returns-in_err-designator t c = gives_err _ c.from_residual.result c.from_residual.ensures.1 (fails_designator _ _ c.if-is_at.ensures.tells c.in_err-designator.ensures)

pub factor-returns-in_ok-designator : goal.factor-returns-in_ok-designator
factor-returns-in_ok-designator t c = as_text (factor_designator_is _) (reads_designator _ _ c.if-is_at.ensures.tells c.in_ok-designator.ensures)

pub factor-returns-then-is_at-2 : goal.factor-returns-then-is_at-2
factor-returns-then-is_at-2 t c = reads_part (reads_left c.if-is_at-2.ensures.tells (took _ _ _ _ c.if-is_at-2.ensures.tells c.advance-at.ensures.rest c.advance-at.ensures.at).read)

pub factor-returns-else-is_at-2 : goal.factor-returns-else-is_at-2
factor-returns-else-is_at-2 t c = gives_part _ _ _ _ c.other_factor.result (gives_right _ _ _ _ _ c.other_factor.result c.if-is_at-2.ensures.tells c.other_factor.ensures)

pub other_factor-returns-then-is_at : goal.other_factor-returns-then-is_at
other_factor-returns-then-is_at t c = reads_left c.if-is_at.ensures.tells (took _ _ _ _ c.if-is_at.ensures.tells c.advance-at.ensures.rest c.advance-at.ensures.at).read

pub other_factor-returns-then-is_at-2 : goal.other_factor-returns-then-is_at-2
other_factor-returns-then-is_at-2 t c = reads_right c.if-is_at.ensures.tells (reads_left c.if-is_at-2.ensures.tells (took _ _ _ _ c.if-is_at-2.ensures.tells c.advance-at-then-is_at-2.ensures.rest c.advance-at-then-is_at-2.ensures.at).read)

pub other_factor-returns-then-is_at-3 : goal.other_factor-returns-then-is_at-3
other_factor-returns-then-is_at-3 t c = reads_right c.if-is_at.ensures.tells (reads_right c.if-is_at-2.ensures.tells (reads_left c.if-is_at-3.ensures.tells (took _ _ _ _ c.if-is_at-3.ensures.tells c.advance-at-then-is_at-3.ensures.rest c.advance-at-then-is_at-3.ensures.at).read))

pub other_factor-returns-then-is_at-4 : goal.other_factor-returns-then-is_at-4
other_factor-returns-then-is_at-4 t c = reads_right c.if-is_at.ensures.tells (reads_right c.if-is_at-2.ensures.tells (reads_right c.if-is_at-3.ensures.tells (reads_left c.if-is_at-4.ensures.tells (took _ _ _ _ c.if-is_at-4.ensures.tells c.advance-at-then-is_at-4.ensures.rest c.advance-at-then-is_at-4.ensures.at).read)))

pub other_factor-returns-then-is_at-5 : goal.other_factor-returns-then-is_at-5
other_factor-returns-then-is_at-5 t c = reads_right c.if-is_at.ensures.tells (reads_right c.if-is_at-2.ensures.tells (reads_right c.if-is_at-3.ensures.tells (reads_right c.if-is_at-4.ensures.tells (reads_left c.if-is_at-5.ensures.tells (took _ _ _ _ c.if-is_at-5.ensures.tells c.advance-at-then-is_at-5.ensures.rest c.advance-at-then-is_at-5.ensures.at).read))))

pub other_factor-returns-then-is_at-6 : goal.other_factor-returns-then-is_at-6
other_factor-returns-then-is_at-6 t c = gives_right _ _ _ _ _ c.set_factor.result c.if-is_at.ensures.tells (gives_right _ _ _ _ _ c.set_factor.result c.if-is_at-2.ensures.tells (gives_right _ _ _ _ _ c.set_factor.result c.if-is_at-3.ensures.tells (gives_right _ _ _ _ _ c.set_factor.result c.if-is_at-4.ensures.tells (gives_right _ _ _ _ _ c.set_factor.result c.if-is_at-5.ensures.tells (gives_left _ _ _ _ _ c.set_factor.result c.if-is_at-6.ensures.tells c.set_factor.ensures)))))

pub other_factor-returns-then-is_at-7 : goal.other_factor-returns-then-is_at-7
other_factor-returns-then-is_at-7 t c = gives_right _ _ _ _ _ c.paren.result c.if-is_at.ensures.tells (gives_right _ _ _ _ _ c.paren.result c.if-is_at-2.ensures.tells (gives_right _ _ _ _ _ c.paren.result c.if-is_at-3.ensures.tells (gives_right _ _ _ _ _ c.paren.result c.if-is_at-4.ensures.tells (gives_right _ _ _ _ _ c.paren.result c.if-is_at-5.ensures.tells (gives_right _ _ _ _ _ c.paren.result c.if-is_at-6.ensures.tells (gives_right _ _ _ _ _ c.paren.result c.requires (gives_left _ _ _ _ _ c.paren.result c.if-is_at-7.ensures.tells c.paren.ensures)))))))

pub other_factor-returns-else-is_at-7 : goal.other_factor-returns-else-is_at-7
other_factor-returns-else-is_at-7 t c = gives_right _ _ _ _ _ c.negation.result c.if-is_at.ensures.tells (gives_right _ _ _ _ _ c.negation.result c.if-is_at-2.ensures.tells (gives_right _ _ _ _ _ c.negation.result c.if-is_at-3.ensures.tells (gives_right _ _ _ _ _ c.negation.result c.if-is_at-4.ensures.tells (gives_right _ _ _ _ _ c.negation.result c.if-is_at-5.ensures.tells (gives_right _ _ _ _ _ c.negation.result c.if-is_at-6.ensures.tells (gives_right _ _ _ _ _ c.negation.result c.requires (gives_right _ _ _ _ _ c.negation.result c.if-is_at-7.ensures.tells c.negation.ensures)))))))

pub set_factor-returns-in_err-set : goal.set_factor-returns-in_err-set
set_factor-returns-in_err-set t c = gives_err _ c.from_residual.result c.from_residual.ensures.1 c.in_err-set.ensures

pub set_factor-returns : goal.set_factor-returns
set_factor-returns t c = as_text (ap set_text c.in_ok-held.ensures.ok) c.in_ok-set.ensures

pub paren-returns-in_err-left_paren : goal.paren-returns-in_err-left_paren
paren-returns-in_err-left_paren t c = gives_err _ c.from_residual.result c.from_residual.ensures.1 (c.in_err-left_paren.ensures _)

pub paren-returns-in_err-inner : goal.paren-returns-in_err-inner
paren-returns-in_err-inner t c = gives_err _ c.from_residual-in_err-inner.result c.from_residual-in_err-inner.ensures.1 (fails_inside c.in_ok-left_paren.ensures (fails_first c.in_err-inner.ensures))

pub paren-returns-in_err-right_paren : goal.paren-returns-in_err-right_paren
paren-returns-in_err-right_paren t c = gives_err _ c.from_residual-in_err-right_paren.result c.from_residual-in_err-right_paren.ensures.1 (fails_inside c.in_ok-left_paren.ensures (fails_then c.in_ok-inner.ensures c.in_err-right_paren.ensures.gives))

pub paren-returns : goal.paren-returns
paren-returns t c = as_text (ap (λ e. leaf left_paren c.in_ok-left_paren.left_paren ++ (expression_text e ++ leaf right_paren c.in_ok-right_paren.right_paren)) c.in_ok-held.ensures.ok) (reads_inside _ c.in_ok-left_paren.ensures (reads_then c.in_ok-inner.ensures c.in_ok-right_paren.ensures.gives) c.leave.ensures)

pub negation-returns-in_err-tilde : goal.negation-returns-in_err-tilde
negation-returns-in_err-tilde t c = gives_err _ c.from_residual.result c.from_residual.ensures.1 (c.in_err-tilde.ensures _)

pub negation-returns-in_err-inner : goal.negation-returns-in_err-inner
negation-returns-in_err-inner t c = gives_err _ c.from_residual-in_err-inner.result c.from_residual-in_err-inner.ensures.1 (fails_inside c.in_ok-tilde.ensures c.in_err-inner.ensures)

pub negation-returns : goal.negation-returns
negation-returns t c = as_text (ap (λ e. leaf tilde c.in_ok-tilde.tilde ++ factor_text e) c.in_ok-held.ensures.ok) (reads_inside _ c.in_ok-tilde.ensures c.in_ok-inner.ensures c.leave.ensures)

pub list-returns-in_err-first : goal.list-returns-in_err-first
list-returns-in_err-first t c = gives_err _ c.from_residual.result c.from_residual.ensures.1 (fails_part (fails_first c.in_err-first.ensures))

pub list-returns-in_err-more : goal.list-returns-in_err-more
list-returns-in_err-more t c = gives_err _ c.from_residual-in_err-more.result c.from_residual-in_err-more.ensures.1 (fails_part (fails_then c.in_ok-first.ensures c.in_err-more.ensures))

pub list-returns : goal.list-returns
list-returns t c = as_text (list_is _ _) (reads_part (reads_then c.in_ok-first.ensures c.in_ok-more.ensures))

pub more_expressions-returns-in_err-next : goal.more_expressions-returns-in_err-next
more_expressions-returns-in_err-next t c = gives_err _ c.from_residual.result c.from_residual.ensures.1 (fails_round c.rounds.invariant c.in-Some.ensures.here (fails_then c.in-Some.ensures.read c.in_err-next.ensures))

pub more_expressions-rounds-preserved : goal.more_expressions-rounds-preserved
more_expressions-rounds-preserved t c = one_more next_expression_text _ _ _ c.in_ok-add.ensures c.rounds.invariant c.in-Some.ensures.here (as_text (next_expression_is _ _) (reads_then c.in-Some.ensures.read c.in_ok-next.ensures))

pub more_expressions-returns : goal.more_expressions-returns
more_expressions-returns t c = rounds_over c.rounds.invariant c.in_default.ensures.none c.in_default.ensures

pub designator-returns-in_err-name : goal.designator-returns-in_err-name
designator-returns-in_err-name t c = gives_err _ c.from_residual.result c.from_residual.ensures.1 (fails_part (fails_first c.in_err-name.ensures.gives))

pub designator-returns-in_err-next : goal.designator-returns-in_err-next
designator-returns-in_err-next t c = gives_err _ c.from_residual-in_err-next.result c.from_residual-in_err-next.ensures.1 (fails_part (fails_then c.in_ok-name.ensures.gives (fails_round c.rounds.invariant c.rounds-test.ensures c.in_err-next.ensures.gives)))

pub designator-rounds-preserved : goal.designator-rounds-preserved
designator-rounds-preserved t c = one_more selector_text _ _ _ c.in_ok-add.ensures c.rounds.invariant c.rounds-test.ensures c.in_ok-next.ensures.gives

pub designator-returns : goal.designator-returns
designator-returns t c = reads_part (reads_then c.in_ok-name.ensures.gives (end_rounds c.rounds.invariant c.rounds-test.ensures))

pub selector-returns-in_err-field-clause-gives : goal.selector-returns-in_err-field-clause-gives
selector-returns-in_err-field-clause-gives t c = gives_err _ c.from_residual.result c.from_residual.ensures.1 (fails_left c.if-is_at.ensures.tells c.in_err-field.ensures.gives)

pub selector-returns-in_ok-field-clause-gives : goal.selector-returns-in_ok-field-clause-gives
selector-returns-in_ok-field-clause-gives t c = reads_left c.if-is_at.ensures.tells c.in_ok-field.ensures.gives

pub selector-returns-in_err-index-clause-gives : goal.selector-returns-in_err-index-clause-gives
selector-returns-in_err-index-clause-gives t c = gives_err _ c.from_residual-in_err-index.result c.from_residual-in_err-index.ensures.1 (fails_right c.if-is_at.ensures.tells (fails_left c.if-is_at-2.ensures.tells c.in_err-index.ensures.gives))

pub selector-returns-in_ok-index-clause-gives : goal.selector-returns-in_ok-index-clause-gives
selector-returns-in_ok-index-clause-gives t c = reads_right c.if-is_at.ensures.tells (reads_left c.if-is_at-2.ensures.tells c.in_ok-index.ensures.gives)

pub selector-returns-then-is_at-3-clause-gives : goal.selector-returns-then-is_at-3-clause-gives
selector-returns-then-is_at-3-clause-gives t c = reads_right c.if-is_at.ensures.tells (reads_right c.if-is_at-2.ensures.tells (reads_left c.if-is_at-3.ensures.tells (took _ _ _ _ c.if-is_at-3.ensures.tells c.advance-arrow.ensures.rest c.advance-arrow.ensures.at).read))

pub selector-returns-in_err-parens-clause-gives : goal.selector-returns-in_err-parens-clause-gives
selector-returns-in_err-parens-clause-gives t c = gives_err _ c.from_residual-in_err-parens.result c.from_residual-in_err-parens.ensures.1 (fails_right c.if-is_at.ensures.tells (fails_right c.if-is_at-2.ensures.tells (fails_right c.if-is_at-3.ensures.tells c.in_err-parens.ensures.gives)))

pub selector-returns-in_ok-parens-clause-gives : goal.selector-returns-in_ok-parens-clause-gives
selector-returns-in_ok-parens-clause-gives t c = reads_right c.if-is_at.ensures.tells (reads_right c.if-is_at-2.ensures.tells (reads_right c.if-is_at-3.ensures.tells c.in_ok-parens.ensures.gives))

pub index-returns-in_err-left_bracket-clause-gives : goal.index-returns-in_err-left_bracket-clause-gives
index-returns-in_err-left_bracket-clause-gives t c = gives_err _ c.from_residual.result c.from_residual.ensures.1 (c.in_err-left_bracket.ensures _)

pub index-returns-in_err-inner-clause-gives : goal.index-returns-in_err-inner-clause-gives
index-returns-in_err-inner-clause-gives t c = gives_err _ c.from_residual-in_err-inner.result c.from_residual-in_err-inner.ensures.1 (fails_inside c.in_ok-left_bracket.ensures (fails_first c.in_err-inner.ensures))

pub index-returns-in_err-right_bracket-clause-gives : goal.index-returns-in_err-right_bracket-clause-gives
index-returns-in_err-right_bracket-clause-gives t c = gives_err _ c.from_residual-in_err-right_bracket.result c.from_residual-in_err-right_bracket.ensures.1 (fails_inside c.in_ok-left_bracket.ensures (fails_then c.in_ok-inner.ensures c.in_err-right_bracket.ensures.gives))

pub index-returns-clause-gives : goal.index-returns-clause-gives
index-returns-clause-gives t c = reads_inside _ c.in_ok-left_bracket.ensures (reads_then c.in_ok-inner.ensures c.in_ok-right_bracket.ensures.gives) c.leave.ensures

pub parens-returns-in_err-left_paren-clause-gives : goal.parens-returns-in_err-left_paren-clause-gives
parens-returns-in_err-left_paren-clause-gives t c = gives_err _ c.from_residual.result c.from_residual.ensures.1 (c.in_err-left_paren.ensures _)

pub parens-returns-in_err-inner-clause-gives : goal.parens-returns-in_err-inner-clause-gives
parens-returns-in_err-inner-clause-gives t c = gives_err _ c.from_residual-in_err-inner.result c.from_residual-in_err-inner.ensures.1 (fails_inside c.in_ok-left_paren.ensures (fails_first c.in_err-inner.ensures))

pub parens-returns-in_err-right_paren-clause-gives : goal.parens-returns-in_err-right_paren-clause-gives
parens-returns-in_err-right_paren-clause-gives t c = gives_err _ c.from_residual-in_err-right_paren.result c.from_residual-in_err-right_paren.ensures.1 (fails_inside c.in_ok-left_paren.ensures (fails_then c.in_ok-inner.ensures c.in_err-right_paren.ensures.gives))

pub parens-returns-clause-gives : goal.parens-returns-clause-gives
parens-returns-clause-gives t c = as_text (selector_parens_is c.in_ok-left_paren.left_paren c.in_ok-inner.inner c.in_ok-right_paren.right_paren) (reads_inside _ c.in_ok-left_paren.ensures (reads_then c.in_ok-inner.ensures c.in_ok-right_paren.ensures.gives) c.leave.ensures)

pub maybe_list-returns-in_err-inner : goal.maybe_list-returns-in_err-inner
maybe_list-returns-in_err-inner t c = gives_err _ c.from_residual.result c.from_residual.ensures.1 (fails_some c.if-begins_expression.ensures c.in_err-inner.ensures)

pub maybe_list-returns-in_ok-inner : goal.maybe_list-returns-in_ok-inner
maybe_list-returns-in_ok-inner t c = reads_some c.if-begins_expression.ensures c.in_ok-inner.ensures

pub maybe_list-returns-else-begins_expression : goal.maybe_list-returns-else-begins_expression
maybe_list-returns-else-begins_expression t c = reads_none c.if-begins_expression.ensures

pub set-returns-in_err-left_brace : goal.set-returns-in_err-left_brace
set-returns-in_err-left_brace t c = gives_err _ c.from_residual.result c.from_residual.ensures.1 (fails_part (c.in_err-left_brace.ensures _))

pub set-returns-in_err-elements : goal.set-returns-in_err-elements
set-returns-in_err-elements t c = gives_err _ c.from_residual-in_err-elements.result c.from_residual-in_err-elements.ensures.1 (fails_part (fails_inside c.in_ok-left_brace.ensures (fails_first c.in_err-elements.ensures)))

pub set-returns-in_err-right_brace : goal.set-returns-in_err-right_brace
set-returns-in_err-right_brace t c = gives_err _ c.from_residual-in_err-right_brace.result c.from_residual-in_err-right_brace.ensures.1 (fails_part (fails_inside c.in_ok-left_brace.ensures (fails_then c.in_ok-elements.ensures c.in_err-right_brace.ensures.gives)))

pub set-returns : goal.set-returns
set-returns t c = as_text (set_is _ _ _) (reads_part (reads_inside _ c.in_ok-left_brace.ensures (reads_then c.in_ok-elements.ensures c.in_ok-right_brace.ensures.gives) c.leave.ensures))

pub elements-returns-in_err-first : goal.elements-returns-in_err-first
elements-returns-in_err-first t c = gives_err _ c.from_residual.result c.from_residual.ensures.1 (fails_some c.if-begins_expression.ensures (fails_first c.in_err-first.ensures))

pub elements-returns-in_err-more : goal.elements-returns-in_err-more
elements-returns-in_err-more t c = gives_err _ c.from_residual-in_err-more.result c.from_residual-in_err-more.ensures.1 (fails_some c.if-begins_expression.ensures (fails_then c.in_ok-first.ensures c.in_err-more.ensures))

pub elements-returns-in_ok-more : goal.elements-returns-in_ok-more
elements-returns-in_ok-more t c = as_text (elements_is _ _) (reads_some c.if-begins_expression.ensures (reads_then c.in_ok-first.ensures c.in_ok-more.ensures))

pub elements-returns-else-begins_expression : goal.elements-returns-else-begins_expression
elements-returns-else-begins_expression t c = reads_none c.if-begins_expression.ensures

pub more_elements-returns-in_err-next : goal.more_elements-returns-in_err-next
more_elements-returns-in_err-next t c = gives_err _ c.from_residual.result c.from_residual.ensures.1 (fails_round c.rounds.invariant c.in-Some.ensures.here (fails_then c.in-Some.ensures.read c.in_err-next.ensures))

pub more_elements-rounds-preserved : goal.more_elements-rounds-preserved
more_elements-rounds-preserved t c = one_more next_element_text _ _ _ c.in_ok-add.ensures c.rounds.invariant c.in-Some.ensures.here (as_text (next_element_is _ _) (reads_then c.in-Some.ensures.read c.in_ok-next.ensures))

pub more_elements-returns : goal.more_elements-returns
more_elements-returns t c = rounds_over c.rounds.invariant c.in_default.ensures.none c.in_default.ensures

pub element-returns-in_err-low : goal.element-returns-in_err-low
element-returns-in_err-low t c = gives_err _ c.from_residual.result c.from_residual.ensures.1 (fails_part (fails_first c.in_err-low.ensures))

pub element-returns-in_err-high : goal.element-returns-in_err-high
element-returns-in_err-high t c = gives_err _ c.from_residual-in_err-high.result c.from_residual-in_err-high.ensures.1 (fails_part (fails_then c.in_ok-low.ensures c.in_err-high.ensures))

pub element-returns : goal.element-returns
element-returns t c = as_text (element_is _ _) (reads_part (reads_then c.in_ok-low.ensures c.in_ok-high.ensures))

pub element_high-returns-in_err-high-in-Some : goal.element_high-returns-in_err-high-in-Some
element_high-returns-in_err-high-in-Some t c = gives_err _ c.from_residual.result c.from_residual.ensures.1 (fails_some c.in-Some.ensures.here (fails_then c.in-Some.ensures.read c.in_err-high-in-Some.ensures))

pub element_high-returns-in-None : goal.element_high-returns-in-None
element_high-returns-in-None t c = left_out c.in-None.ensures.none c.in-None.ensures

pub element_high-returns-in_ok-high-in-Some : goal.element_high-returns-in_ok-high-in-Some
element_high-returns-in_ok-high-in-Some t c = as_text (element_high_is _ _) (reads_some c.in-Some.ensures.here (reads_then c.in-Some.ensures.read c.in_ok-high-in-Some.ensures))
