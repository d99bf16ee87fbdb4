use Rattle.ob_syntax.specs.DeclarationText.{const_decl_text}
use Rattle.ob_tree.proofs.Added.{Adding}
use Rattle.ob_tree.proofs.symbols.declarations.add_each_const_decl.Given as goal

abbrev pub invariant-loop-tree : goal.invariant-loop-tree
invariant-loop-tree l = Adding const_decl_text l.trees l.tree-index l.initial.out.items l.out.items
