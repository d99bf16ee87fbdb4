use Rattle.std.proofs.Common.{◌≡◌, ◌*◌}
use Rattle.ob_types.specs.Layout.{cells}
use Rattle.eval_layouts.proofs.sizes.cells_by.Given as goal

abbrev pub invariant-loop-step : goal.invariant-loop-step
invariant-loop-step l = l.count * cells l.types l.at ≡ cells l.types l.fn.kind
