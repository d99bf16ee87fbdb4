use Rattle.std.proofs.Common.{◌≡◌, ◌++◌, drop}
use Rattle.ssa_statements.specs.walk.Rungs.{coded_labels}
use Rattle.ssa_statements.proofs.walk.rungs.add_labels.Given as goal

abbrev pub invariant-loop-label : goal.invariant-loop-label
invariant-loop-label l = l.list.items ++ coded_labels l.part (drop l.label-index l.labels) ≡ l.initial.list.items ++ coded_labels l.part l.labels
