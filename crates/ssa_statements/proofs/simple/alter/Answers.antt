use Rattle.ssa_statements.proofs.Straight.{steps_set}
use Rattle.ssa_statements.proofs.simple.alter.Goals as goal

pub returns : goal.returns
returns c = λ p here s. steps_set c.args.op (c.in_ok-h.ensures p here s) (c.in_ok-a.ensures p here s) c.in_ok-act.ensures c.in_ok-e.ensures c.in_ok-v.ensures c.in_ok-w.ensures c.in_ok-change.ensures
