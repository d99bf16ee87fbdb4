use Rattle.ob_syntax.specs.DeclarationText.{procedure_decl_text}
use Rattle.ob_tree.proofs.Added.{Adding}
use Rattle.ob_tree.proofs.symbols.declarations.+adds.Given as goal

abbrev pub invariant-add_each_procedure_decl-loop-tree : goal.invariant-add_each_procedure_decl-loop-tree
invariant-add_each_procedure_decl-loop-tree l = Adding procedure_decl_text l.trees l.tree-index l.initial.out.items l.out.items
