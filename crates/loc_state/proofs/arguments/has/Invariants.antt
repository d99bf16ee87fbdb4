use Rattle.std.proofs.Common.{◌≡◌, drop}
use Rattle.block_runs.specs.Live.{has}
use Rattle.loc_state.proofs.arguments.has.Given as goal

abbrev pub invariant-loop-other : goal.invariant-loop-other
invariant-loop-other l = has (drop l.other-index l.numbers) l.number ≡ has l.numbers l.number
