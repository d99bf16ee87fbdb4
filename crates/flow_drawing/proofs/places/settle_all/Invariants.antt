use Rattle.std.proofs.Common.{◌≡◌, drop}
use Rattle.flow_drawing.specs.Order.{order_from, order_of}
use Rattle.flow_drawing.specs.Layout.{settle_all, widths_of}
use Rattle.flow_drawing.proofs.places.settle_all.Given as goal

abbrev pub invariant-loop-number : goal.invariant-loop-number
invariant-loop-number l = record {
  places : settle_all l.nodes l.all.places.items (order_from l.nodes l.number (drop l.number l.nodes)) ≡ settle_all l.nodes l.initial.all.places.items (order_of l.nodes);
  counted : l.all.widths.items ≡ widths_of l.all.places.items;
}
