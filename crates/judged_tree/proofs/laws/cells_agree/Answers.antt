use Rattle.judged_tree.proofs.Agreements.{cells-agree}
use Rattle.judged_tree.proofs.laws.cells_agree.Goals as goal

pub returns : goal.returns
returns c = λ t known knows front counted. cells-agree t known knows counted.fine front counted
