use Rattle.std.specs.Prelude.{true, false}
use Rattle.std.proofs.Common.{sym, subst}
use Rattle.ob_types.specs.Layout.{field_place}
use Rattle.ob_types.specs.Trees.{Record, data_tree, record_row}
use Rattle.object_nodes.specs.Nodes.{Node}
use Rattle.ob_types.proofs.DataTrees.{cells_are}
use Rattle.object_nodes.proofs.Trees.{forms_are, field_node, base_node}
use Rattle.object_nodes.proofs.Extents.{packed_place, cell_place, variable_rooms}
use Rattle.object_nodes.proofs.laws.trees_are_types.Goals as goal

pub returns : goal.returns
returns c = record {
  forms = forms_are;
  cells = cells_are;
  field = λ t r n k ok at. subst (λ o. Node true (Record (record_row t r)) (field_place t r n) o (data_tree t k)) (sym (packed_place t r n k at)) (field_node t ok true r n k at);
  field_by_cells = λ t r n k ok at. subst (λ o. Node false (Record (record_row t r)) (field_place t r n) o (data_tree t k)) (cell_place t r n k) (field_node t ok false r n k at);
  base = λ packed t s r ok h. base_node t ok packed s r h;
  variables = variable_rooms;
}
