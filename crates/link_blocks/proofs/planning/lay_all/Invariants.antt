use Rattle.std.proofs.Common.{◌≡◌, ◌++◌, ℕ, List, length, take, drop}
use Rattle.std.specs.Prelude.{flat_map}
use Rattle.boundary_resolve.specs.declared.code_line.CodeLine.{CodeLine}
use Rattle.boundary_resolve.specs.Placing.{node_lines}
use Rattle.boundary_resolve.specs.Edges.{AreSound}
use Rattle.linked_flows.specs.Allocations.{Cut}
use Rattle.link_blocks.specs.Ahead.{AreAllDistinct}
use Rattle.link_blocks.specs.Laid.{AreLaid, AreAhead, HasRead}
use Rattle.link_blocks.proofs.planning.lay_all.Given as goal

abbrev pub invariant-loop-row : goal.invariant-loop-row
invariant-loop-row l = record {
  each : length l.laid.blocks.items ≡ length l.initial.laid.blocks.items;
  read : (k : ℕ) (c : Cut) (ns : List ℕ) (tail : List CodeLine) → l.nodes ≡ c.flow.nodes → AreSound k c.flow c.traces c.outs → AreAllDistinct l.lines → AreLaid c l.initial.laid → AreAhead c ns l.rows (drop l.from l.lines) tail
      → HasRead c (take l.row-index ns) l.initial.laid l.laid (drop l.at l.lines) (flat_map (node_lines c.flow c.traces c.outs) (drop l.row-index ns) ++ tail);
}
