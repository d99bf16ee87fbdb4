use Rattle.ssa_statements.proofs.Straight.{steps_assign}
use Rattle.ssa_statements.proofs.simple.assign.Goals as goal

pub returns : goal.returns
returns c = λ p here s. steps_assign (c.in_ok-h.ensures p here s) (c.in_ok-v.ensures p here s) c.in_ok-change.ensures
