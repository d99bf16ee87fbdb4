use Rattle.std.proofs.Common.{refl}
use Rattle.boundary_resolve.specs.Placing.{node_lines}
use Rattle.boundary_resolve.proofs.Laid.{nodes_more}
use Rattle.boundary_resolve.proofs.code.Code.push_nodes.Goals as goal

pub loop-node-preserved : goal.loop-node-preserved
loop-node-preserved c traces finds nowhere rows = nodes_more (node_lines c.args.self.now.flow.now traces c.args.self.now.outs.now) c.args.nodes.now c.loop-node.node-index _ _ c.loop-node.placed.items c.push_node.new.placed.items c.loop-node-test.true refl (c.loop-node.invariant traces finds nowhere rows) (c.in_ok-push_node.ensures traces finds nowhere rows)
