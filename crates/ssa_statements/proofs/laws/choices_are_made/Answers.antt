use Rattle.ssa_statements.proofs.Choose.{steps_choose}
use Rattle.ssa_statements.proofs.laws.choices_are_made.Goals as goal

pub returns : goal.returns
returns c = λ v u u2 u5 t f g mask args1 args2 x y a1 z a2. steps_choose v u u2 u5 t f g mask args1 args2 x y a1 z a2
