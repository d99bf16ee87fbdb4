use Rattle.std.proofs.Common.{◌≡◌, drop}
use Rattle.loc_back.specs.Steps.{seated_news}
use Rattle.loc_back.proofs.seating.seat_new.Given as goal

abbrev pub invariant-loop-i : goal.invariant-loop-i
invariant-loop-i l = seated_news (drop l.i l.values) (drop l.i l.args) l.regs ≡ seated_news l.values l.args l.initial.regs
