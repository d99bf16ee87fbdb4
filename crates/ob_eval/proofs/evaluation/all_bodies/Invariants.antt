use Rattle.std.proofs.Common.{◌≤◌, length, drop}
use Rattle.ob_eval.specs.Starting.{DoBodies}
use Rattle.ob_eval.proofs.evaluation.all_bodies.Given as goal

abbrev pub invariant-modules : goal.invariant-modules
invariant-modules l = DoBodies l.laid l.turns l.tasks (drop l.i l.modules) × (l.i ≤ length l.modules)

abbrev pub decreases-modules : goal.decreases-modules
decreases-modules l = l.i
