use Rattle.std.proofs.Common.{◌≡◌, drop}
use Rattle.loc_back.specs.Steps.{all_saved}
use Rattle.loc_back.proofs.seating.save_all.Given as goal

abbrev pub invariant-loop-content : goal.invariant-loop-content
invariant-loop-content l = all_saved l.def (drop l.content-index l.regs) l.homed ≡ all_saved l.def l.regs l.initial.homed
