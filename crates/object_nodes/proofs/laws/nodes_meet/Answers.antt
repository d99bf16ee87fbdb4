use Rattle.object_nodes.proofs.Meeting.{nodes_meet, one_or_apart, arrays_one_or_apart, same_cell, node_cells, node_bytes}
use Rattle.object_nodes.proofs.laws.nodes_meet.Goals as goal

pub returns : goal.returns
returns c = record {
  meet = nodes_meet;
  same = one_or_apart;
  arrays = arrays_one_or_apart;
  byte = same_cell;
  cells = node_cells;
  bytes = node_bytes;
}
