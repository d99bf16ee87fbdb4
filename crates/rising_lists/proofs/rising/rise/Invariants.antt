use Rattle.std.proofs.Common.{◌≡◌, None, drop}
use Rattle.rising_lists.specs.Rising.{rises_behind}
use Rattle.rising_lists.proofs.rising.rise.Given as goal

abbrev pub invariant-loop-number : goal.invariant-loop-number
invariant-loop-number l = rises_behind l.before (drop l.number-index l.numbers) ≡ rises_behind None l.numbers
