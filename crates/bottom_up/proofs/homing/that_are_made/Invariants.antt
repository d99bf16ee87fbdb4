use Rattle.std.proofs.Common.{◌≡◌, filter, take}
use Rattle.block_runs.specs.Live.{has}
use Rattle.bottom_up.proofs.homing.that_are_made.Given as goal

abbrev pub invariant-loop-value : goal.invariant-loop-value
invariant-loop-value l = l.kept.items ≡ filter (has l.made) (take l.value-index l.values)
