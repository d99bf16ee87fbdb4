use Rattle.std.proofs.Common.{refl}
use Rattle.ob_types.specs.Trees.{Array}
use Rattle.object_nodes.proofs.Stood.{one_room_or_apart}
use Rattle.object_nodes.proofs.laws.nodes_stand_apart.Goals as goal

pub returns : goal.returns
returns c = record {
  same = λ packed spot ks start s v c o x w d q y rooted a h b g some. one_room_or_apart packed spot ks start rooted v c o s x w d q s y a h some b g some refl;
  arrays = λ packed spot ks start e n v c o x m w d q y rooted a h b g some other. one_room_or_apart packed spot ks start rooted v c o (Array n e) x w d q (Array m e) y a h some b g other refl;
}
