use Rattle.ob_tree.proofs.Added.{adds_then}
use Rattle.ob_tree.proofs.symbols.names.add_qualident.Goals as goal

pub returns : goal.returns
returns c = adds_then (c.in_ok-put.ensures _) c.in_ok-add_member.ensures
