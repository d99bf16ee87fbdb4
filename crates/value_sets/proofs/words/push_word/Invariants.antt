use Rattle.std.proofs.Common.{◌≡◌, ◌≤◌, ◌-◌, ◌++◌}
use Rattle.value_sets.proofs.Bits.{values_from}
use Rattle.value_sets.proofs.words.push_word.Given as goal

abbrev pub invariant-loop-from : goal.invariant-loop-from
invariant-loop-from l = (l.from ≤ 64) × (l.list.items ++ values_from l.words l.at l.from ≡ l.fn.list.items ++ values_from l.words l.at 0)

abbrev pub decreases-loop-from : goal.decreases-loop-from
decreases-loop-from l = 64 - l.from
