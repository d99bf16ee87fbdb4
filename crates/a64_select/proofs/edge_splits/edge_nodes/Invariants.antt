use Rattle.std.proofs.Common.{◌≡◌, ◌++◌, drop}
use Rattle.a64_select.specs.Selected.{new_nodes}
use Rattle.a64_select.proofs.edge_splits.edge_nodes.Given as goal

abbrev pub invariant-loop-block : goal.invariant-loop-block
invariant-loop-block l = l.nodes.items ++ new_nodes l.joins l.blocks (drop l.block-index l.blocks) ≡ new_nodes l.joins l.blocks l.blocks
