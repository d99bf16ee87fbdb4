use Rattle.std.proofs.Common.{◌≡◌, ◌≤◌, drop, length}
use Rattle.loc_back.specs.Steps.{reloads}
use Rattle.loc_back.proofs.writing.reload_all.Given as goal

abbrev pub invariant-loop-left : goal.invariant-loop-left
invariant-loop-left l = record {
  within : l.left ≤ length l.regs;
  lines : l.lines ≡ reloads l.def l.left (drop l.left l.regs) l.initial.lines;
}

abbrev pub decreases-loop-left : goal.decreases-loop-left
decreases-loop-left l = l.left
