use Rattle.std.proofs.Common.{◌≤◌}
use Rattle.lir_core.specs.Spots.{IsRising}
use Rattle.rising_lists.specs.Rising.{rank}
use Rattle.rising_lists.proofs.finder.reach.Given as goal

abbrev pub invariant-loop-at : goal.invariant-loop-at
invariant-loop-at l = IsRising l.numbers → l.at ≤ rank l.number l.numbers
