use Rattle.std.proofs.Common.{◌≡◌, length}
use Rattle.ob_types.specs.Operators.{labels_have}
use Rattle.ob_eval.proofs.branches.has_label.Given as goal

abbrev pub invariant-labels : goal.invariant-labels
invariant-labels l = labels_have l.v l.fn.labels ≡ labels_have l.v l.rest

abbrev pub decreases-labels : goal.decreases-labels
decreases-labels l = length l.rest
