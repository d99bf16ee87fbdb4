use Rattle.std.proofs.Common.{◌≡◌, ◌++◌, drop, map}
use Rattle.boundary_resolve.specs.declared.code_line.CodeLine.TheVariants.{Edge}
use Rattle.boundary_resolve.proofs.code.push_steps.Given as goal

abbrev pub invariant-loop-step : goal.invariant-loop-step
invariant-loop-step l = l.placed.items ++ map Edge (drop l.step-index l.steps) ≡ l.initial.placed.items ++ map Edge l.steps
