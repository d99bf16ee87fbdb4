use Rattle.std.proofs.Common.{◌≡◌, drop}
use Rattle.loc_back.specs.Steps.{unseated}
use Rattle.loc_back.proofs.seating.unseat.Given as goal

abbrev pub invariant-loop-i : goal.invariant-loop-i
invariant-loop-i l = unseated (drop l.i l.uses) (drop l.i l.args) l.homed ≡ unseated l.uses l.args l.initial.homed
