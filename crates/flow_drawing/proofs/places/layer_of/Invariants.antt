use Rattle.std.proofs.Common.{◌≡◌, drop, map}
use Rattle.flow_drawing.specs.Layout.{place_at, below, greatest, layer_of}
use Rattle.flow_drawing.proofs.places.layer_of.Given as goal

abbrev pub invariant-loop-block : goal.invariant-loop-block
invariant-loop-block l = greatest l.lowest (map (λ b. below (place_at l.places b)) (drop l.block-index l.blocks)) ≡ layer_of l.places l.blocks
