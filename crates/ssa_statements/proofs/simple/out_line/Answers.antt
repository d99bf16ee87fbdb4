use Rattle.ssa_statements.proofs.Straight.{steps_out_char}
use Rattle.ssa_statements.proofs.simple.out_line.Goals as goal

pub returns : goal.returns
returns c = λ p here. steps_out_char c.in_ok-a.ensures c.in_ok-act.ensures
