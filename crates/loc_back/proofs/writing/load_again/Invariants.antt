use Rattle.std.proofs.Common.{◌≡◌, ◌≤◌, drop, length}
use Rattle.loc_back.specs.Steps.{loading}
use Rattle.loc_back.proofs.writing.load_again.Given as goal

abbrev pub invariant-loop-left : goal.invariant-loop-left
invariant-loop-left l = record {
  within : l.left ≤ length l.loads;
  lines : l.lines ≡ loading (drop l.left l.loads) l.initial.lines;
}

abbrev pub decreases-loop-left : goal.decreases-loop-left
decreases-loop-left l = l.left
