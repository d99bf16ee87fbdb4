use Rattle.ob_syntax.specs.ModuleText.{next_import_text}
use Rattle.ob_tree.proofs.Added.{Adding}
use Rattle.ob_tree.proofs.symbols.modules.add_each_next_import.Given as goal

abbrev pub invariant-loop-tree : goal.invariant-loop-tree
invariant-loop-tree l = Adding next_import_text l.trees l.tree-index l.initial.out.items l.out.items
