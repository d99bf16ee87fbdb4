use Rattle.ob_syntax.specs.StatementText.{next_stat_text, elsif_text, next_case_text, elsif_do_text}
use Rattle.ob_tree.proofs.Added.{Adding}
use Rattle.ob_tree.proofs.symbols.statements.+adds.Given as goal

abbrev pub invariant-add_each_next_stat-loop-tree : goal.invariant-add_each_next_stat-loop-tree
invariant-add_each_next_stat-loop-tree l = Adding next_stat_text l.trees l.tree-index l.initial.out.items l.out.items

abbrev pub invariant-add_each_elsif-loop-tree : goal.invariant-add_each_elsif-loop-tree
invariant-add_each_elsif-loop-tree l = Adding elsif_text l.trees l.tree-index l.initial.out.items l.out.items

abbrev pub invariant-add_each_next_case-loop-tree : goal.invariant-add_each_next_case-loop-tree
invariant-add_each_next_case-loop-tree l = Adding next_case_text l.trees l.tree-index l.initial.out.items l.out.items

abbrev pub invariant-add_each_elsif_do-loop-tree : goal.invariant-add_each_elsif_do-loop-tree
invariant-add_each_elsif_do-loop-tree l = Adding elsif_do_text l.trees l.tree-index l.initial.out.items l.out.items
