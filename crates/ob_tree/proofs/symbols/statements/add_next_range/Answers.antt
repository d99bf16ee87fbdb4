use Rattle.ob_tree.proofs.Added.{adds_then}
use Rattle.ob_tree.proofs.symbols.statements.add_next_range.Goals as goal

pub returns : goal.returns
returns c = adds_then (c.in_ok-put.ensures _) c.in_ok-add_range.ensures
