use Rattle.flow_drawing.proofs.Standing.{IsStood}
use Rattle.flow_drawing.proofs.standings.stand_in.Given as goal

abbrev pub invariant-loop-at : goal.invariant-loop-at
invariant-loop-at l = IsStood l.trace l.blocks l.at l.next l.standings l.initial.standings

abbrev pub decreases-loop-at : goal.decreases-loop-at
decreases-loop-at l = l.at
