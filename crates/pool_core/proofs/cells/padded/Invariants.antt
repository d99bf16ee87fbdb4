use Rattle.std.proofs.Common.{◌≡◌, ◌-◌, ◌++◌, replicate, vec_len}
use Rattle.pool_core.proofs.cells.padded.Given as goal

abbrev pub invariant-loop : goal.invariant-loop
invariant-loop l = l.cells.items ≡ l.initial.cells.items ++ replicate (l.counter - vec_len l.initial.cells) 0
