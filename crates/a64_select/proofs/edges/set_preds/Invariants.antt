use Rattle.a64_select.proofs.Preceded.{ArePreceded}
use Rattle.a64_select.proofs.edges.set_preds.Given as goal

abbrev pub invariant-loop-i : goal.invariant-loop-i
invariant-loop-i l = ArePreceded l.fn.nodes l.i l.nodes
