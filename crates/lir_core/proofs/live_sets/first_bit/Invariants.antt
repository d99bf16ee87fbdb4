use Rattle.std.proofs.Common.{◌*◌}
use Rattle.lir_core.specs.Rows.{is_in, NonePasses}
use Rattle.lir_core.proofs.live_sets.first_bit.Given as goal

abbrev pub invariant-loop-at : goal.invariant-loop-at
invariant-loop-at l = NonePasses (is_in l.row) (l.fn.word * 64) (l.at * 64)
