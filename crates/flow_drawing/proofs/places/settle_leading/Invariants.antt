use Rattle.std.proofs.Common.{◌≡◌, drop, filter}
use Rattle.flow_drawing.specs.Order.{leads_into}
use Rattle.flow_drawing.specs.Layout.{settle_all, widths_of}
use Rattle.flow_drawing.proofs.places.settle_leading.Given as goal

abbrev pub invariant-loop-block : goal.invariant-loop-block
invariant-loop-block l = record {
  places : settle_all l.nodes l.all.places.items (filter (leads_into l.nodes l.target) (drop l.block-index l.blocks)) ≡ settle_all l.nodes l.initial.all.places.items (filter (leads_into l.nodes l.target) l.blocks);
  counted : l.all.widths.items ≡ widths_of l.all.places.items;
}
