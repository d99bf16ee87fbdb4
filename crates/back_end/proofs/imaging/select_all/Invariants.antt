use Rattle.back_end.proofs.Planning.{IsSelecting}
use Rattle.back_end.proofs.imaging.select_all.Given as goal

abbrev pub invariant-loop-procedure : goal.invariant-loop-procedure
invariant-loop-procedure l = IsSelecting l.flows.items l.procedure-iterator.rest.items l.fn.procedures
