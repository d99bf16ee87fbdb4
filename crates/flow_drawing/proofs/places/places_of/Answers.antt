use Rattle.std.proofs.Common.{length, rules}
use Rattle.flow_drawing.proofs.Widths.{none_counted}
use Rattle.flow_drawing.proofs.places.places_of.Goals as goal

pub settle_all-requires : goal.settle_all-requires
settle_all-requires c = none_counted (length c.args.nodes.now) c.new.result.items c.in_ok-vec.field-0.items c.new.ensures.items (search (rules))
