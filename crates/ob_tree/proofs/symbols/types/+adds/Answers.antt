use Rattle.std.proofs.Common.{ap, sym}
use Rattle.ob_syntax.specs.Leaves.{optional, each}
use Rattle.ob_syntax.specs.ExpressionText.{next_expression_text}
use Rattle.ob_syntax.specs.TypeText.{type_tree_text, fields_text, next_fields_text}
use Rattle.ob_tree.proofs.Added.{adds_then, adds_as, adding_more, adding_end}
use Rattle.ob_tree.proofs.TypeParts.{next_fields_parts, record_type_parts}
use Rattle.ob_tree.proofs.symbols.types.+adds.Goals as goal

pub add_type_tree-returns-in_ok-add_qualident-in-Named : goal.add_type_tree-returns-in_ok-add_qualident-in-Named
add_type_tree-returns-in_ok-add_qualident-in-Named t c = adds_as (ap type_tree_text c.in-Named.is) c.in_ok-add_qualident-in-Named.ensures

pub add_type_tree-returns-in_ok-add_array_type-in-Array : goal.add_type_tree-returns-in_ok-add_array_type-in-Array
add_type_tree-returns-in_ok-add_array_type-in-Array t c = adds_as (ap type_tree_text c.in-Array.is) c.in_ok-add_array_type-in-Array.ensures

pub add_type_tree-returns-in_ok-add_record_type-in-Record : goal.add_type_tree-returns-in_ok-add_record_type-in-Record
add_type_tree-returns-in_ok-add_record_type-in-Record t c = adds_as (ap type_tree_text c.in-Record.is) c.in_ok-add_record_type-in-Record.ensures

pub add_type_tree-returns-in_ok-add_pointer_type-in-Pointer : goal.add_type_tree-returns-in_ok-add_pointer_type-in-Pointer
add_type_tree-returns-in_ok-add_pointer_type-in-Pointer t c = adds_as (ap type_tree_text c.in-Pointer.is) c.in_ok-add_pointer_type-in-Pointer.ensures

pub add_type_tree-returns-in_ok-add_procedure_type-in-Procedure : goal.add_type_tree-returns-in_ok-add_procedure_type-in-Procedure
add_type_tree-returns-in_ok-add_procedure_type-in-Procedure t c = adds_as (ap type_tree_text c.in-Procedure.is) c.in_ok-add_procedure_type-in-Procedure.ensures

pub add_array_type-returns : goal.add_array_type-returns
add_array_type-returns t c = adds_then (c.in_ok-put.ensures _) (adds_then c.in_ok-add_expression.ensures (adds_then (adds_as (ap (each next_expression_text) (sym c.deref.ensures.value)) c.in_ok-add_each_next_expression.ensures) (adds_then (c.in_ok-put-2.ensures _) (adds_as (ap type_tree_text (sym c.deref-2.ensures)) c.in_ok-add_type_tree.ensures))))

pub add_record_type-returns : goal.add_record_type-returns
add_record_type-returns t c = adds_as (record_type_parts _) (adds_then (c.in_ok-put.ensures _) (adds_then c.in_ok-add_base.ensures (adds_then c.in_ok-add_fields.ensures (adds_then (adds_as (ap (each next_fields_text) (sym c.deref.ensures.value)) c.in_ok-add_each_next_fields.ensures) (c.in_ok-put-2.ensures _)))))

pub add_fields-returns-in_ok-add_type_tree-in-Some : goal.add_fields-returns-in_ok-add_type_tree-in-Some
add_fields-returns-in_ok-add_type_tree-in-Some t c = adds_as (ap (optional fields_text) c.in-Some.is) (adds_then c.in_ok-add_idents-in-Some.ensures (adds_then (c.in_ok-put-in-Some.ensures _) (adds_as (ap type_tree_text (sym c.deref.ensures)) c.in_ok-add_type_tree-in-Some.ensures)))

pub add_next_fields-returns : goal.add_next_fields-returns
add_next_fields-returns t c = adds_as (next_fields_parts _) (adds_then (c.in_ok-put.ensures _) c.in_ok-add_fields.ensures)

pub add_each_next_fields-loop-tree-preserved : goal.add_each_next_fields-loop-tree-preserved
add_each_next_fields-loop-tree-preserved t c = adding_more next_fields_text c.args.trees.now c.loop-tree.tree-index c.tree-item.result c.args.out.now.items c.loop-tree.out.items c.add_next_fields.new.out.items c.loop-tree-test.true c.loop-tree.invariant (adds_as (ap next_fields_text (sym c.tree-item.is)) c.in_ok-add_next_fields.ensures)

pub add_each_next_fields-returns : goal.add_each_next_fields-returns
add_each_next_fields-returns t c = adding_end next_fields_text c.args.trees.now c.loop-tree.tree-index c.args.out.now.items c.loop-tree.out.items c.loop-tree-test.false c.loop-tree.invariant

pub add_pointer_type-returns : goal.add_pointer_type-returns
add_pointer_type-returns t c = adds_then (c.in_ok-put.ensures _) (adds_then (c.in_ok-put-2.ensures _) (adds_as (ap type_tree_text (sym c.deref.ensures)) c.in_ok-add_type_tree.ensures))
