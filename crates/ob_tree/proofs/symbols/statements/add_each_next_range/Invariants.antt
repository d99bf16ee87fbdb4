use Rattle.ob_syntax.specs.StatementText.{next_range_text}
use Rattle.ob_tree.proofs.Added.{Adding}
use Rattle.ob_tree.proofs.symbols.statements.add_each_next_range.Given as goal

abbrev pub invariant-loop-tree : goal.invariant-loop-tree
invariant-loop-tree l = Adding next_range_text l.trees l.tree-index l.initial.out.items l.out.items
