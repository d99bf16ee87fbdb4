use Rattle.lir_core.specs.Flows.{node_at}
use Rattle.flow_drawing.proofs.Widths.{layer_low}
use Rattle.flow_drawing.proofs.places.settle.Goals as goal

pub put_in-requires-clause-low : goal.put_in-requires-clause-low
put_in-requires-clause-low c =
    layer_low c.args.all.now.places.items c.as_slice-then-block-len.result.now (node_at c.args.nodes.now c.args.block).preds c.in_ok-layer.layer c.as_slice-then-block-len.ensures.value c.in_ok-layer.ensures
