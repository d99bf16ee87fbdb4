use Rattle.judged_tree.proofs.Agreements.{assignable-agrees}
use Rattle.judged_tree.proofs.laws.assignable_agrees.Goals as goal

pub returns : goal.returns
returns c = assignable-agrees
