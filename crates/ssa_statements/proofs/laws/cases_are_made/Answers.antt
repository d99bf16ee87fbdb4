use Rattle.ssa_statements.proofs.Choosing.{steps_case}
use Rattle.ssa_statements.proofs.laws.cases_are_made.Goals as goal

pub returns : goal.returns
returns c = λ v u w mask rungs bodies unmatched leave by x z few ends_by same_end. steps_case v u w mask rungs bodies unmatched leave by x z few ends_by same_end
