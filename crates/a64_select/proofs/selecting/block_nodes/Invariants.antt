use Rattle.std.specs.Vec.Iter.{into_iter_items}
use Rattle.a64_select.proofs.Taken.{AreTaken}
use Rattle.a64_select.proofs.selecting.block_nodes.Given as goal

abbrev pub invariant-loop-block : goal.invariant-loop-block
invariant-loop-block l = AreTaken l.joins l.fn.blocks.items l.yielded (into_iter_items l.block-iterator) l.next l.nodes.items
