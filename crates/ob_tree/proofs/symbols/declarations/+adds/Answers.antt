use Rattle.std.proofs.Common.{ap, sym}
use Rattle.ob_syntax.specs.Leaves.{each}
use Rattle.ob_syntax.specs.DeclarationText.{procedure_decl_text}
use Rattle.ob_tree.proofs.Added.{adds_then, adds_as, adding_more, adding_end}
use Rattle.ob_tree.proofs.DeclarationParts.{decls_parts, procedure_decl_parts, procedure_parts}
use Rattle.ob_tree.proofs.symbols.declarations.+adds.Goals as goal

pub add_decls-returns : goal.add_decls-returns
add_decls-returns t c = adds_as (decls_parts _) (adds_then c.in_ok-add_consts.ensures (adds_then c.in_ok-add_types.ensures (adds_then c.in_ok-add_vars.ensures (adds_as (ap (each procedure_decl_text) (sym c.deref.ensures.value)) c.in_ok-add_each_procedure_decl.ensures))))

pub add_procedure_decl-returns : goal.add_procedure_decl-returns
add_procedure_decl-returns t c = adds_as (procedure_decl_parts _) (adds_then c.in_ok-add_procedure.ensures (c.in_ok-put.ensures _))

pub add_each_procedure_decl-loop-tree-preserved : goal.add_each_procedure_decl-loop-tree-preserved
add_each_procedure_decl-loop-tree-preserved t c = adding_more procedure_decl_text c.args.trees.now c.loop-tree.tree-index c.tree-item.result c.args.out.now.items c.loop-tree.out.items c.add_procedure_decl.new.out.items c.loop-tree-test.true c.loop-tree.invariant (adds_as (ap procedure_decl_text (sym c.tree-item.is)) c.in_ok-add_procedure_decl.ensures)

pub add_each_procedure_decl-returns : goal.add_each_procedure_decl-returns
add_each_procedure_decl-returns t c = adding_end procedure_decl_text c.args.trees.now c.loop-tree.tree-index c.args.out.now.items c.loop-tree.out.items c.loop-tree-test.false c.loop-tree.invariant

pub add_procedure-returns : goal.add_procedure-returns
add_procedure-returns t c = adds_as (procedure_parts _) (adds_then (c.in_ok-put.ensures _) (adds_then c.in_ok-add_identdef.ensures (adds_then c.in_ok-add_formals.ensures (adds_then (c.in_ok-put-2.ensures _) (adds_then c.in_ok-add_decls.ensures (adds_then c.in_ok-add_body.ensures (adds_then c.in_ok-add_returned.ensures (adds_then (c.in_ok-put-3.ensures _) (c.in_ok-put-4.ensures _)))))))))
