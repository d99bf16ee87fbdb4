use Rattle.std.proofs.Common.{◌≡◌, ◌++◌, drop}
use Rattle.std.specs.Prelude.{flat_map}
use Rattle.boundary_resolve.specs.Placing.{node_lines}
use Rattle.boundary_resolve.specs.Codes.{OfCode}
use Rattle.boundary_resolve.proofs.code.Code.push_nodes.Given as goal

abbrev pub invariant-loop-node : goal.invariant-loop-node
invariant-loop-node l = OfCode l.self (λ f traces outs. l.placed.items ++ flat_map (node_lines f traces outs) (drop l.node-index l.nodes) ≡ l.initial.placed.items ++ flat_map (node_lines f traces outs) l.nodes)
