use Rattle.ssa_statements.proofs.Straight.{steps_out_char}
use Rattle.ssa_statements.proofs.simple.out_char.Goals as goal

pub returns : goal.returns
returns c = λ p here s. steps_out_char (c.in_ok-a.ensures p here s) c.in_ok-act.ensures
