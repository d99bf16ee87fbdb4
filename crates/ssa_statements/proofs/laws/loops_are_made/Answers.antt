use Rattle.ssa_statements.proofs.Loops.{steps_loop}
use Rattle.ssa_statements.proofs.laws.loops_are_made.Goals as goal

pub returns : goal.returns
returns c = λ v w mask args rs a z. steps_loop v w mask args rs a z
