use Rattle.std.proofs.Common.{◌≡◌, ◌++◌, map, drop}
use Rattle.lir_core.specs.Flows.{operation_of}
use Rattle.placed_code.specs.Results.{last_named}
use Rattle.link_layout.specs.Spots.{copy_of}
use Rattle.link_blocks.specs.Plans.{cell_in}
use Rattle.link_blocks.specs.Ahead.{edges_ahead, behind_edges, cells_ahead, last_ahead, behind_last, AreAllDistinct}
use Rattle.link_blocks.proofs.blocks.block_of.Given as goal

abbrev pub invariant-loop-lir : goal.invariant-loop-lir
invariant-loop-lir l = record {
  behind : behind_last (map operation_of (drop l.lir-index l.lir-items)) (drop l.at l.lines) ≡ behind_last (map operation_of l.lir-items) (behind_edges (drop l.from l.lines));
  named : last_named (map operation_of (drop l.lir-index l.lir-items)) l.named ≡ last_named (map operation_of l.lir-items) l.row;
  last : AreAllDistinct l.lines → last_ahead (map copy_of l.copies.items) (map operation_of (drop l.lir-index l.lir-items)) (drop l.at l.lines) ≡ last_ahead (edges_ahead (drop l.from l.lines)) (map operation_of l.lir-items) (behind_edges (drop l.from l.lines));
  cells : AreAllDistinct l.lines → map cell_in l.cells.items ++ cells_ahead (map copy_of l.copies.items) (map operation_of (drop l.lir-index l.lir-items)) l.named (drop l.at l.lines) ≡ cells_ahead (edges_ahead (drop l.from l.lines)) (map operation_of l.lir-items) l.row (behind_edges (drop l.from l.lines));
}
