use Rattle.std.proofs.Common.{◌≡◌, take, length, true}
use Rattle.back_end.specs.Numbers.{node_numbers}
use Rattle.back_end.proofs.numbers.read_nodes.Given as goal

abbrev pub invariant-loop-node : goal.invariant-loop-node
invariant-loop-node l = record {
  end : l.node-index-end ≡ length l.nodes;
  read : node_numbers (take l.node-index l.nodes) ≡ true;
}
