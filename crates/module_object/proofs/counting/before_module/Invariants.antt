use Rattle.std.proofs.Common.{◌≡◌, ◌+◌, drop}
use Rattle.module_object.specs.Objects.{before_module}
use Rattle.module_object.proofs.counting.before_module.Given as goal

abbrev pub invariant-loop-at : goal.invariant-loop-at
invariant-loop-at l = l.at + before_module l.number (drop l.at l.procedures) ≡ before_module l.number l.procedures
