use Rattle.std.proofs.Common.{List, ℕ, ◌∙◌, ap}
use Rattle.std.proofs.lemmas.List.{get_or_read}
use Rattle.lir_core.specs.declared.flow.Node.{Node}
use Rattle.lir_core.specs.Flows.{no_node}
use Rattle.flow_drawing.proofs.Turns.{next_turn}
use Rattle.flow_drawing.specs.Order.{entries, order_of}
use Rattle.flow_drawing.specs.Layout.{settle_all}
use Rattle.flow_drawing.proofs.places.settle_all.Goals as goal

pub loop-number-preserved : goal.loop-number-preserved
loop-number-preserved c = record {
  places =
      next_turn c.args.nodes.now c.loop-number.all.places.items c.settle_entries.new.all.places.items c.settle.new.all.places.items (settle_all c.args.nodes.now c.args.all.now.places.items (order_of c.args.nodes.now))
      c.loop-number.number c.loop-number-test.true (c.in_ok-settle_entries.ensures.places ∙ ap (λ (preds : List ℕ). settle_all c.args.nodes.now c.loop-number.all.places.items (entries c.args.nodes.now c.loop-number.number preds)) (c.as_slice.ensures ∙ ap (λ (n : Node). n.preds) (get_or_read c.args.nodes.now c.loop-number.number c.index-nodes-number.result c.loop-number-test.true c.index-nodes-number.is no_node)))
      c.in_ok-settle.ensures.places c.loop-number.invariant.places;
  counted = c.in_ok-settle.ensures.counted;
}
