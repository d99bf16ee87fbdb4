use Rattle.std.proofs.Common.{ap, sym, ◌∙◌}
use Rattle.ob_syntax.specs.Leaves.{boxed, optional, each}
use Rattle.ob_syntax.specs.ExpressionText.{selector_text, list_text, next_expression_text, expression_text, compared_text, added_text, multiplied_text, factor_text, set_text, elements_text, next_element_text, element_high_text}
use Rattle.ob_tree.proofs.Added.{adds_then, adds_as, adds_index, adding_more, adding_end}
use Rattle.ob_tree.proofs.ExpressionParts.{added_parts, compared_parts, element_high_parts, element_parts, elements_parts, expression_parts, list_parts, next_element_parts, next_expression_parts, set_parts, simple_parts, term_parts}
use Rattle.ob_syntax.proofs.ExpressionTexts.{factor_designator_is, selector_parens_is}
use Rattle.ob_tree.proofs.symbols.expressions.+adds.Goals as goal

pub add_designator-returns : goal.add_designator-returns
add_designator-returns t c = adds_then (c.in_ok-put.ensures _) (adds_as (ap (each selector_text) (sym c.deref.ensures.value)) c.in_ok-add_each_selector.ensures)

pub add_selector-returns-in_ok-put-in-Field-2 : goal.add_selector-returns-in_ok-put-in-Field-2
add_selector-returns-in_ok-put-in-Field-2 t c = adds_as (ap selector_text c.in-Field.is) (adds_then (c.in_ok-put-in-Field.ensures _) (c.in_ok-put-in-Field-2.ensures _))

pub add_selector-returns-in_ok-put-in-Index-2 : goal.add_selector-returns-in_ok-put-in-Index-2
add_selector-returns-in_ok-put-in-Index-2 t c = adds_as (ap selector_text c.in-Index.is) (adds_then (c.in_ok-put-in-Index.ensures _) (adds_then c.in_ok-add_list-in-Index.ensures (c.in_ok-put-in-Index-2.ensures _)))

pub add_selector-returns-in_ok-put-in-Arrow : goal.add_selector-returns-in_ok-put-in-Arrow
add_selector-returns-in_ok-put-in-Arrow t c = adds_as (ap selector_text c.in-Arrow.is) (c.in_ok-put-in-Arrow.ensures _)

pub add_selector-returns-in_ok-put-in-Parens-2 : goal.add_selector-returns-in_ok-put-in-Parens-2
add_selector-returns-in_ok-put-in-Parens-2 t c = adds_as (ap selector_text c.in-Parens.is ∙ selector_parens_is c.in-Parens.left_paren c.in-Parens.list c.in-Parens.right_paren) (adds_then (c.in_ok-put-in-Parens.ensures _) (adds_then c.in_ok-add_arguments-in-Parens.ensures (c.in_ok-put-in-Parens-2.ensures _)))

pub add_each_selector-loop-tree-preserved : goal.add_each_selector-loop-tree-preserved
add_each_selector-loop-tree-preserved t c = adding_more selector_text c.args.trees.now c.loop-tree.tree-index c.tree-item.result c.args.out.now.items c.loop-tree.out.items c.add_selector.new.out.items c.loop-tree-test.true c.loop-tree.invariant (adds_as (ap selector_text (sym c.tree-item.is)) c.in_ok-add_selector.ensures)

pub add_each_selector-returns : goal.add_each_selector-returns
add_each_selector-returns t c = adding_end selector_text c.args.trees.now c.loop-tree.tree-index c.args.out.now.items c.loop-tree.out.items c.loop-tree-test.false c.loop-tree.invariant

pub add_list-returns : goal.add_list-returns
add_list-returns t c = adds_as (list_parts _) (adds_then c.in_ok-add_expression.ensures (adds_as (ap (each next_expression_text) (sym c.deref.ensures.value)) c.in_ok-add_each_next_expression.ensures))

pub add_arguments-returns-in_ok-add_list-in-Some : goal.add_arguments-returns-in_ok-add_list-in-Some
add_arguments-returns-in_ok-add_list-in-Some t c = adds_as (ap (optional list_text) c.in-Some.is) c.in_ok-add_list-in-Some.ensures

pub add_next_expression-returns : goal.add_next_expression-returns
add_next_expression-returns t c = adds_as (next_expression_parts _) (adds_then (c.in_ok-put.ensures _) c.in_ok-add_expression.ensures)

pub add_each_next_expression-loop-tree-preserved : goal.add_each_next_expression-loop-tree-preserved
add_each_next_expression-loop-tree-preserved t c = adding_more next_expression_text c.args.trees.now c.loop-tree.tree-index c.tree-item.result c.args.out.now.items c.loop-tree.out.items c.add_next_expression.new.out.items c.loop-tree-test.true c.loop-tree.invariant (adds_as (ap next_expression_text (sym c.tree-item.is)) c.in_ok-add_next_expression.ensures)

pub add_each_next_expression-returns : goal.add_each_next_expression-returns
add_each_next_expression-returns t c = adding_end next_expression_text c.args.trees.now c.loop-tree.tree-index c.args.out.now.items c.loop-tree.out.items c.loop-tree-test.false c.loop-tree.invariant

pub add_expression-returns : goal.add_expression-returns
add_expression-returns t c = adds_as (expression_parts _) (adds_then c.in_ok-add_simple.ensures c.in_ok-add_maybe_compared.ensures)

pub add_maybe_compared-returns-in_ok-add_compared-in-Some : goal.add_maybe_compared-returns-in_ok-add_compared-in-Some
add_maybe_compared-returns-in_ok-add_compared-in-Some t c = adds_as (ap (optional (boxed compared_text)) c.in-Some.is) (adds_as (ap compared_text (sym c.deref.ensures)) c.in_ok-add_compared-in-Some.ensures)

pub add_compared-returns : goal.add_compared-returns
add_compared-returns t c = adds_as (compared_parts _) (adds_then (adds_index c.relation_index.ensures (c.in_ok-put.ensures 0)) c.in_ok-add_simple.ensures)

pub add_simple-returns : goal.add_simple-returns
add_simple-returns t c = adds_as (simple_parts _) (adds_then c.in_ok-add_sign.ensures (adds_then c.in_ok-add_term.ensures (adds_as (ap (each added_text) (sym c.deref.ensures.value)) c.in_ok-add_each_added.ensures)))

pub add_added-returns : goal.add_added-returns
add_added-returns t c = adds_as (added_parts _) (adds_then (adds_index c.add_operator_index.ensures (c.in_ok-put.ensures 0)) c.in_ok-add_term.ensures)

pub add_each_added-loop-tree-preserved : goal.add_each_added-loop-tree-preserved
add_each_added-loop-tree-preserved t c = adding_more added_text c.args.trees.now c.loop-tree.tree-index c.tree-item.result c.args.out.now.items c.loop-tree.out.items c.add_added.new.out.items c.loop-tree-test.true c.loop-tree.invariant (adds_as (ap added_text (sym c.tree-item.is)) c.in_ok-add_added.ensures)

pub add_each_added-returns : goal.add_each_added-returns
add_each_added-returns t c = adding_end added_text c.args.trees.now c.loop-tree.tree-index c.args.out.now.items c.loop-tree.out.items c.loop-tree-test.false c.loop-tree.invariant

pub add_term-returns : goal.add_term-returns
add_term-returns t c = adds_as (term_parts _) (adds_then c.in_ok-add_factor.ensures (adds_as (ap (each multiplied_text) (sym c.deref.ensures.value)) c.in_ok-add_each_multiplied.ensures))

pub add_multiplied-returns : goal.add_multiplied-returns
add_multiplied-returns t c = adds_then (adds_index c.mul_operator_index.ensures (c.in_ok-put.ensures 0)) c.in_ok-add_factor.ensures

pub add_each_multiplied-loop-tree-preserved : goal.add_each_multiplied-loop-tree-preserved
add_each_multiplied-loop-tree-preserved t c = adding_more multiplied_text c.args.trees.now c.loop-tree.tree-index c.tree-item.result c.args.out.now.items c.loop-tree.out.items c.add_multiplied.new.out.items c.loop-tree-test.true c.loop-tree.invariant (adds_as (ap multiplied_text (sym c.tree-item.is)) c.in_ok-add_multiplied.ensures)

pub add_each_multiplied-returns : goal.add_each_multiplied-returns
add_each_multiplied-returns t c = adding_end multiplied_text c.args.trees.now c.loop-tree.tree-index c.args.out.now.items c.loop-tree.out.items c.loop-tree-test.false c.loop-tree.invariant

pub add_factor-returns-in_ok-put-in-Int : goal.add_factor-returns-in_ok-put-in-Int
add_factor-returns-in_ok-put-in-Int t c = adds_as (ap factor_text c.in-Int.is) (c.in_ok-put-in-Int.ensures _)

pub add_factor-returns-in_ok-put-in-Text : goal.add_factor-returns-in_ok-put-in-Text
add_factor-returns-in_ok-put-in-Text t c = adds_as (ap factor_text c.in-Text.is) (c.in_ok-put-in-Text.ensures _)

pub add_factor-returns-in_ok-put-in-Char : goal.add_factor-returns-in_ok-put-in-Char
add_factor-returns-in_ok-put-in-Char t c = adds_as (ap factor_text c.in-Char.is) (c.in_ok-put-in-Char.ensures _)

pub add_factor-returns-in_ok-put-in-Nil : goal.add_factor-returns-in_ok-put-in-Nil
add_factor-returns-in_ok-put-in-Nil t c = adds_as (ap factor_text c.in-Nil.is) (c.in_ok-put-in-Nil.ensures _)

pub add_factor-returns-in_ok-put-in-True : goal.add_factor-returns-in_ok-put-in-True
add_factor-returns-in_ok-put-in-True t c = adds_as (ap factor_text c.in-True.is) (c.in_ok-put-in-True.ensures _)

pub add_factor-returns-in_ok-put-in-False : goal.add_factor-returns-in_ok-put-in-False
add_factor-returns-in_ok-put-in-False t c = adds_as (ap factor_text c.in-False.is) (c.in_ok-put-in-False.ensures _)

pub add_factor-returns-in_ok-add_set-in-Set : goal.add_factor-returns-in_ok-add_set-in-Set
add_factor-returns-in_ok-add_set-in-Set t c = adds_as (ap factor_text c.in-Set.is) (adds_as (ap set_text (sym c.deref.ensures)) c.in_ok-add_set-in-Set.ensures)

pub add_factor-returns-in_ok-add_designator-in-Designator : goal.add_factor-returns-in_ok-add_designator-in-Designator
add_factor-returns-in_ok-add_designator-in-Designator t c = adds_as (ap factor_text c.in-Designator.is ∙ factor_designator_is _) c.in_ok-add_designator-in-Designator.ensures

pub add_factor-returns-in_ok-put-in-Paren-2 : goal.add_factor-returns-in_ok-put-in-Paren-2
add_factor-returns-in_ok-put-in-Paren-2 t c = adds_as (ap factor_text c.in-Paren.is) (adds_then (c.in_ok-put-in-Paren.ensures _) (adds_then (adds_as (ap expression_text (sym c.deref-in-Paren.ensures)) c.in_ok-add_expression-in-Paren.ensures) (c.in_ok-put-in-Paren-2.ensures _)))

pub add_factor-returns-in_ok-add_factor-in-Not : goal.add_factor-returns-in_ok-add_factor-in-Not
add_factor-returns-in_ok-add_factor-in-Not t c = adds_as (ap factor_text c.in-Not.is) (adds_then (c.in_ok-put-in-Not.ensures _) (adds_as (ap factor_text (sym c.deref-in-Not.ensures)) c.in_ok-add_factor-in-Not.ensures))

pub add_set-returns : goal.add_set-returns
add_set-returns t c = adds_as (set_parts _) (adds_then (c.in_ok-put.ensures _) (adds_then c.in_ok-add_elements.ensures (c.in_ok-put-2.ensures _)))

pub add_elements-returns-in_ok-add_each_next_element-in-Some : goal.add_elements-returns-in_ok-add_each_next_element-in-Some
add_elements-returns-in_ok-add_each_next_element-in-Some t c = adds_as (ap (optional elements_text) c.in-Some.is ∙ elements_parts _) (adds_then c.in_ok-add_element-in-Some.ensures (adds_as (ap (each next_element_text) (sym c.deref.ensures.value)) c.in_ok-add_each_next_element-in-Some.ensures))

pub add_next_element-returns : goal.add_next_element-returns
add_next_element-returns t c = adds_as (next_element_parts _) (adds_then (c.in_ok-put.ensures _) c.in_ok-add_element.ensures)

pub add_each_next_element-loop-tree-preserved : goal.add_each_next_element-loop-tree-preserved
add_each_next_element-loop-tree-preserved t c = adding_more next_element_text c.args.trees.now c.loop-tree.tree-index c.tree-item.result c.args.out.now.items c.loop-tree.out.items c.add_next_element.new.out.items c.loop-tree-test.true c.loop-tree.invariant (adds_as (ap next_element_text (sym c.tree-item.is)) c.in_ok-add_next_element.ensures)

pub add_each_next_element-returns : goal.add_each_next_element-returns
add_each_next_element-returns t c = adding_end next_element_text c.args.trees.now c.loop-tree.tree-index c.args.out.now.items c.loop-tree.out.items c.loop-tree-test.false c.loop-tree.invariant

pub add_element-returns : goal.add_element-returns
add_element-returns t c = adds_as (element_parts _) (adds_then c.in_ok-add_expression.ensures c.in_ok-add_element_high.ensures)

pub add_element_high-returns-in_ok-add_expression-in-Some : goal.add_element_high-returns-in_ok-add_expression-in-Some
add_element_high-returns-in_ok-add_expression-in-Some t c = adds_as (ap (optional element_high_text) c.in-Some.is ∙ element_high_parts _) (adds_then (c.in_ok-put-in-Some.ensures _) c.in_ok-add_expression-in-Some.ensures)
