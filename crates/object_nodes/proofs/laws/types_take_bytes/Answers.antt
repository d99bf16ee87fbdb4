use Rattle.std.proofs.Common.{ap, arith}
use Rattle.std.specs.Prelude.{true}
use Rattle.ob_types.specs.Trees.{tree_bytes, data_tree}
use Rattle.ob_types.proofs.DataTrees.{cells_are, record_data_tree, bytes-array}
use Rattle.ob_types.proofs.TreeBytes.{bytes_few, bytes_many, few_words, few_rounded}
use Rattle.object_nodes.proofs.laws.types_take_bytes.Goals as goal

pub returns : goal.returns
returns c = record {
  array = λ t k n e ok is. bytes-array t ok k n e is;
  whole = λ t k r ok is. ap (tree_bytes true) (record_data_tree t ok k r is);
  few = λ t k. let e = cells_are t k in let h = bytes_few true (data_tree t k) in omega (arith, e, h);
  rounded = λ t k. let e = cells_are t k in let h = few_rounded true (data_tree t k) in omega (arith, e, h);
  none = λ t k is. let e = cells_are t k in let h = bytes_many true (data_tree t k) in omega (arith, e, h, is);
  some = λ t k is. let e = cells_are t k in let h = bytes_few true (data_tree t k) in omega (arith, e, h, is);
  moved = λ t k. let e = cells_are t k in let h = few_words true (data_tree t k) in omega (arith, e, h);
}
