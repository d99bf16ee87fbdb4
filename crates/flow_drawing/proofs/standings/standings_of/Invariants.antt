use Rattle.flow_drawing.proofs.Standing.{IsTraced}
use Rattle.flow_drawing.proofs.standings.standings_of.Given as goal

abbrev pub invariant-loop-number : goal.invariant-loop-number
invariant-loop-number l = IsTraced l.traces l.number l.count l.standings.items

abbrev pub decreases-loop-number : goal.decreases-loop-number
decreases-loop-number l = l.number
