use Rattle.std.proofs.Common.{◌≡◌, ◌++◌, drop}
use Rattle.flow_drawing.specs.Drawings.{edges_from}
use Rattle.flow_drawing.proofs.drawing.put_edges.Given as goal

abbrev pub invariant-loop-number : goal.invariant-loop-number
invariant-loop-number l = l.text.items ++ edges_from l.corners l.standings l.number (drop l.number l.nodes) ≡ l.initial.text.items ++ edges_from l.corners l.standings 0 l.nodes
