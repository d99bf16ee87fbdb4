use Rattle.std.proofs.Common.{length}
use Rattle.ssa_exprs.specs.Making.{View}
use Rattle.ssa_statements.specs.Meeting.{FinishesAll}
use Rattle.ssa_statements.proofs.control.finish.Given as goal

abbrev pub invariant-loop-frame : goal.invariant-loop-frame
invariant-loop-frame l = (z : View) → FinishesAll l.frames.items l.b z → FinishesAll l.initial.frames.items l.initial.b z

abbrev pub decreases-loop-frame : goal.decreases-loop-frame
decreases-loop-frame l = length l.frames.items
