use Rattle.std.proofs.Common.{ap, sym}
use Rattle.ob_syntax.specs.DeclarationText.{var_decl_text}
use Rattle.ob_tree.proofs.Added.{adds_as, adding_more, adding_end}
use Rattle.ob_tree.proofs.symbols.declarations.add_each_var_decl.Goals as goal

pub loop-tree-preserved : goal.loop-tree-preserved
loop-tree-preserved c = adding_more var_decl_text c.args.trees.now c.loop-tree.tree-index c.tree-item.result c.args.out.now.items c.loop-tree.out.items c.add_var_decl.new.out.items c.loop-tree-test.true c.loop-tree.invariant (adds_as (ap var_decl_text (sym c.tree-item.is)) c.in_ok-add_var_decl.ensures)

pub returns : goal.returns
returns c = adding_end var_decl_text c.args.trees.now c.loop-tree.tree-index c.args.out.now.items c.loop-tree.out.items c.loop-tree-test.false c.loop-tree.invariant
