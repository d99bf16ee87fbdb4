use Rattle.ssa_statements.proofs.Straight.{steps_out_int}
use Rattle.ssa_statements.proofs.simple.out_int.Goals as goal

pub returns : goal.returns
returns c = λ p here s. steps_out_int (c.in_ok-a.ensures p here s) (c.in_ok-c.ensures p here s) c.in_ok-act.ensures
