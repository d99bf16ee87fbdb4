use Rattle.ob_tree.proofs.Added.{adds_then}
use Rattle.ob_tree.proofs.symbols.declarations.add_type_decl.Goals as goal

pub returns : goal.returns
returns c = adds_then c.in_ok-add_identdef.ensures (adds_then (c.in_ok-put.ensures _) (adds_then c.in_ok-add_type_tree.ensures (c.in_ok-put-2.ensures _)))
