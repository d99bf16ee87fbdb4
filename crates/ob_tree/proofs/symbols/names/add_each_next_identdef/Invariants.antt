use Rattle.ob_syntax.specs.NameText.{next_identdef_text}
use Rattle.ob_tree.proofs.Added.{Adding}
use Rattle.ob_tree.proofs.symbols.names.add_each_next_identdef.Given as goal

abbrev pub invariant-loop-tree : goal.invariant-loop-tree
invariant-loop-tree l = Adding next_identdef_text l.trees l.tree-index l.initial.out.items l.out.items
