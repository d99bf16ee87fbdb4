use Rattle.ob_syntax.specs.TypeText.{next_section_text}
use Rattle.ob_tree.proofs.Added.{Adding}
use Rattle.ob_tree.proofs.symbols.types.add_each_next_section.Given as goal

abbrev pub invariant-loop-tree : goal.invariant-loop-tree
invariant-loop-tree l = Adding next_section_text l.trees l.tree-index l.initial.out.items l.out.items
