use Rattle.ssa_statements.proofs.Repeats.{steps_repeat}
use Rattle.ssa_statements.proofs.laws.repeats_are_made.Goals as goal

pub returns : goal.returns
returns c = λ v u3 u4 t body mask args1 args2 a1 y x a2. steps_repeat v u3 u4 t body mask args1 args2 a1 y x a2
