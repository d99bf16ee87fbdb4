use Rattle.std.proofs.Common.{ap, sym}
use Rattle.ob_syntax.specs.TypeText.{next_section_text}
use Rattle.ob_tree.proofs.Added.{adds_as, adding_more, adding_end}
use Rattle.ob_tree.proofs.symbols.types.add_each_next_section.Goals as goal

pub loop-tree-preserved : goal.loop-tree-preserved
loop-tree-preserved c = adding_more next_section_text c.args.trees.now c.loop-tree.tree-index c.tree-item.result c.args.out.now.items c.loop-tree.out.items c.add_next_section.new.out.items c.loop-tree-test.true c.loop-tree.invariant (adds_as (ap next_section_text (sym c.tree-item.is)) c.in_ok-add_next_section.ensures)

pub returns : goal.returns
returns c = adding_end next_section_text c.args.trees.now c.loop-tree.tree-index c.args.out.now.items c.loop-tree.out.items c.loop-tree-test.false c.loop-tree.invariant
