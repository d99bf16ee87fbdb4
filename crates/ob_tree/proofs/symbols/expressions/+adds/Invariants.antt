use Rattle.ob_syntax.specs.ExpressionText.{selector_text, next_expression_text, added_text, multiplied_text, next_element_text}
use Rattle.ob_tree.proofs.Added.{Adding}
use Rattle.ob_tree.proofs.symbols.expressions.+adds.Given as goal

abbrev pub invariant-add_each_selector-loop-tree : goal.invariant-add_each_selector-loop-tree
invariant-add_each_selector-loop-tree l = Adding selector_text l.trees l.tree-index l.initial.out.items l.out.items

abbrev pub invariant-add_each_next_expression-loop-tree : goal.invariant-add_each_next_expression-loop-tree
invariant-add_each_next_expression-loop-tree l = Adding next_expression_text l.trees l.tree-index l.initial.out.items l.out.items

abbrev pub invariant-add_each_added-loop-tree : goal.invariant-add_each_added-loop-tree
invariant-add_each_added-loop-tree l = Adding added_text l.trees l.tree-index l.initial.out.items l.out.items

abbrev pub invariant-add_each_multiplied-loop-tree : goal.invariant-add_each_multiplied-loop-tree
invariant-add_each_multiplied-loop-tree l = Adding multiplied_text l.trees l.tree-index l.initial.out.items l.out.items

abbrev pub invariant-add_each_next_element-loop-tree : goal.invariant-add_each_next_element-loop-tree
invariant-add_each_next_element-loop-tree l = Adding next_element_text l.trees l.tree-index l.initial.out.items l.out.items
