use Rattle.ob_tree.proofs.Added.{adds_then}
use Rattle.ob_tree.proofs.symbols.modules.add_module.Goals as goal

pub returns : goal.returns
returns c = adds_then (c.in_ok-put.ensures _) (adds_then (c.in_ok-put-2.ensures _) (adds_then (c.in_ok-put-3.ensures _) (adds_then c.in_ok-add_imports.ensures (adds_then c.in_ok-add_decls.ensures (adds_then c.in_ok-add_body.ensures (adds_then (c.in_ok-put-4.ensures _) (adds_then (c.in_ok-put-5.ensures _) (c.in_ok-put-6.ensures _))))))))
