use Rattle.std.proofs.Common.{◌≡◌, ◌++◌, drop}
use Rattle.flow_drawing.specs.Drawings.{boxes_from}
use Rattle.flow_drawing.proofs.drawing.put_boxes.Given as goal

abbrev pub invariant-loop-number : goal.invariant-loop-number
invariant-loop-number l =
    l.text.items ++ boxes_from l.procedure l.most l.corners l.standings l.number (drop l.number l.nodes) ≡ l.initial.text.items ++ boxes_from l.procedure l.most l.corners l.standings 0 l.nodes
