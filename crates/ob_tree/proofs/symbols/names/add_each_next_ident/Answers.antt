use Rattle.ob_syntax.specs.NameText.{next_ident_text}
use Rattle.ob_tree.proofs.Added.{adding_more, adding_end}
use Rattle.ob_tree.proofs.symbols.names.add_each_next_ident.Goals as goal

pub loop-tree-preserved : goal.loop-tree-preserved
loop-tree-preserved c = adding_more next_ident_text c.args.trees.now c.loop-tree.tree-index _ c.args.out.now.items c.loop-tree.out.items c.add_next_ident.new.out.items c.loop-tree-test.true c.loop-tree.invariant c.in_ok-add_next_ident.ensures

pub returns : goal.returns
returns c = adding_end next_ident_text c.args.trees.now c.loop-tree.tree-index c.args.out.now.items c.loop-tree.out.items c.loop-tree-test.false c.loop-tree.invariant
