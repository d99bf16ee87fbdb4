use Rattle.ssa_statements.proofs.Straight.{steps_assert}
use Rattle.ssa_statements.proofs.simple.assert.Goals as goal

pub returns : goal.returns
returns c = λ p here s. steps_assert (c.in_ok-a.ensures p here s) c.in_ok-act.ensures
