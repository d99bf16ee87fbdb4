use Rattle.std.proofs.Common.{◌≡◌, ◌++◌, drop, map}
use Rattle.std.specs.Prelude.{option_map}
use Rattle.flow_drawing.specs.Layout.{widths_of, corner_of, corners_of}
use Rattle.flow_drawing.proofs.layout.corners_of.Given as goal

abbrev pub invariant-loop-place : goal.invariant-loop-place
invariant-loop-place l = l.corners.items ++ map (option_map (corner_of (widths_of l.places))) (drop l.place-index l.places) ≡ corners_of l.places
