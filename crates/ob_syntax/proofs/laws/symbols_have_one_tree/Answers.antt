use Rattle.ob_syntax.proofs.SeenPlain.{one_module}
use Rattle.ob_syntax.proofs.laws.symbols_have_one_tree.Goals as goal

pub returns : goal.returns
returns c = one_module
