use Rattle.std.proofs.Common.{◌≡◌, drop}
use Rattle.obj_link.specs.Joining.{first_other, other_choice}
use Rattle.obj_link.proofs.joining.other_choice.Given as goal

abbrev pub invariant-loop-at : goal.invariant-loop-at
invariant-loop-at l = first_other l.first l.at (drop l.at l.objects) ≡ other_choice l.objects
