use Rattle.std.proofs.Common.{◌≡◌, take}
use Rattle.check_making.proofs.headings.headings.copied_formals.Given as goal

abbrev pub invariant-loop-x : goal.invariant-loop-x
invariant-loop-x l = l.all ≡ take l.x-index l.formals
