use Rattle.std.proofs.Common.{◌≡◌, ◌++◌, drop}
use Rattle.flow_drawing.specs.Paths.{points_text}
use Rattle.flow_drawing.proofs.paths.put_points.Given as goal

abbrev pub invariant-loop-point : goal.invariant-loop-point
invariant-loop-point l = l.text.items ++ points_text (drop l.point-index l.points) ≡ l.initial.text.items ++ points_text l.points
