use Rattle.ob_syntax.specs.TypeText.{next_fields_text}
use Rattle.ob_tree.proofs.Added.{Adding}
use Rattle.ob_tree.proofs.symbols.types.+adds.Given as goal

abbrev pub invariant-add_each_next_fields-loop-tree : goal.invariant-add_each_next_fields-loop-tree
invariant-add_each_next_fields-loop-tree l = Adding next_fields_text l.trees l.tree-index l.initial.out.items l.out.items
