use Rattle.std.proofs.Common.{◌≡◌, ◌++◌, ℕ, List, length, drop}
use Rattle.std.specs.Prelude.{flat_map}
use Rattle.trace_build.specs.Cuts.{lists_of, all_nodes, AllTraces}
use Rattle.boundary_resolve.specs.Placing.{node_lines}
use Rattle.boundary_resolve.specs.Edges.{AreSound}
use Rattle.linked_flows.specs.Allocations.{Cut}
use Rattle.link_blocks.specs.Ahead.{AreAllDistinct}
use Rattle.link_blocks.specs.Laid.{AreLaid, Reads}
use Rattle.link_blocks.proofs.planning.laid_out.Given as goal

abbrev pub invariant-loop-out : goal.invariant-loop-out
invariant-loop-out l = record {
  each : length l.laid.blocks.items ≡ length l.nodes;
  reads : (k : ℕ) (c : Cut) → l.nodes ≡ c.flow.nodes → l.outs ≡ c.outs → AreSound k c.flow c.traces c.outs → AllTraces c.flow (lists_of c.traces) → AreAllDistinct l.lines
      → drop l.from l.lines ≡ flat_map (node_lines c.flow c.traces c.outs) (all_nodes (lists_of c.traces)) → Reads c l.out-index l.laid (drop l.at l.lines);
}
