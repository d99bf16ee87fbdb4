use Rattle.std.proofs.Common.{◌≡◌, ◌++◌}
use Rattle.std.specs.Prelude.{replicate}
use Rattle.ob_types.specs.Store.{Bits}
use Rattle.ob_eval.proofs.calls.with_zeros.Given as goal

abbrev pub invariant-loop-i : goal.invariant-loop-i
invariant-loop-i l = l.cells.items ≡ l.initial.cells.items ++ replicate l._i (Bits 0)
