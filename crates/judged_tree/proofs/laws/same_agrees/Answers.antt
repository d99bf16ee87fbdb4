use Rattle.judged_tree.proofs.Agreements.{same-agrees}
use Rattle.judged_tree.proofs.laws.same_agrees.Goals as goal

pub returns : goal.returns
returns c = same-agrees
