use Rattle.std.proofs.Common.{◌≡◌, drop}
use Rattle.flow_drawing.specs.Layout.{greatest}
use Rattle.flow_drawing.proofs.layout.widest.Given as goal

abbrev pub invariant-loop-width : goal.invariant-loop-width
invariant-loop-width l = greatest l.widest (drop l.width-index l.widths) ≡ greatest 0 l.widths
