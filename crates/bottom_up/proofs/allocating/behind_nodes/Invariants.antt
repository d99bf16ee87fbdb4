use Rattle.std.proofs.Common.{◌≡◌, drop}
use Rattle.bottom_up.specs.Bottom.{behind_nodes}
use Rattle.bottom_up.proofs.allocating.behind_nodes.Given as goal

abbrev pub invariant-loop-number : goal.invariant-loop-number
invariant-loop-number l = behind_nodes l.flow.nodes l.at (drop l.number-index l.nodes) ≡ behind_nodes l.flow.nodes 0 l.nodes
