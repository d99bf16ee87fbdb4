use Rattle.std.proofs.Common.{◌≡◌, drop}
use Rattle.loc_back.specs.Steps.{seated}
use Rattle.loc_back.proofs.seating.seat.Given as goal

abbrev pub invariant-loop-i : goal.invariant-loop-i
invariant-loop-i l = seated (drop l.i l.uses) (drop l.i l.args) l.regs ≡ seated l.uses l.args l.initial.regs
