use Rattle.std.proofs.Common.{◌≡◌, drop}
use Rattle.ob_judge.specs.Shapes.{contains}
use Rattle.check_types.proofs.sameness.contains.Given as goal

abbrev pub invariant-loop-number : goal.invariant-loop-number
invariant-loop-number l = contains l.n l.numbers ≡ contains l.n (drop l.number-index l.numbers)
