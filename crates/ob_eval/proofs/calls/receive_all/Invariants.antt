use Rattle.std.proofs.Common.{◌≡◌, drop}
use Rattle.ob_types.specs.Meaning.{received}
use Rattle.ob_eval.specs.Calling.{behind}
use Rattle.ob_eval.proofs.calls.receive_all.Given as goal

abbrev pub invariant-loop-i : goal.invariant-loop-i
invariant-loop-i l = received l.formals l.arguments ≡ behind l.cells.items (received (drop l.i l.formals) (drop l.i l.arguments))
