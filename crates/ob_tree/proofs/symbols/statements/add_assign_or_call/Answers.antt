use Rattle.ob_tree.proofs.Added.{adds_then}
use Rattle.ob_tree.proofs.symbols.statements.add_assign_or_call.Goals as goal

pub returns : goal.returns
returns c = adds_then c.in_ok-add_designator.ensures c.in_ok-add_assigned.ensures
