use Rattle.judged_tree.proofs.Agreements.{extends-agrees}
use Rattle.judged_tree.proofs.laws.extends_agrees.Goals as goal

pub returns : goal.returns
returns c = extends-agrees
