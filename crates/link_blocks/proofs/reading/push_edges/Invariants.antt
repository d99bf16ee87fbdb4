use Rattle.std.proofs.Common.{◌≡◌, ◌++◌, map, drop}
use Rattle.link_layout.specs.Spots.{copy_of}
use Rattle.link_blocks.specs.Ahead.{edges_ahead, behind_edges}
use Rattle.link_blocks.proofs.reading.push_edges.Given as goal

abbrev pub invariant-loop-at : goal.invariant-loop-at
invariant-loop-at l = record {
  copies : map copy_of l.copies.items ++ edges_ahead (drop l.at l.lines) ≡ map copy_of l.initial.copies.items ++ edges_ahead (drop l.from l.lines);
  behind : behind_edges (drop l.at l.lines) ≡ behind_edges (drop l.from l.lines);
}
