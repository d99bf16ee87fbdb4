use Rattle.std.proofs.Common.{◌≡◌, drop, map}
use Rattle.lir_core.specs.declared.flow.Node.{Node}
use Rattle.flow_drawing.specs.Layout.{greatest}
use Rattle.flow_drawing.specs.Drawings.{greatest_freq}
use Rattle.flow_drawing.proofs.drawing.greatest_freq.Given as goal

abbrev pub invariant-loop-node : goal.invariant-loop-node
invariant-loop-node l = greatest l.most (map (λ (n : Node). n.freq) (drop l.node-index l.nodes)) ≡ greatest_freq l.nodes
