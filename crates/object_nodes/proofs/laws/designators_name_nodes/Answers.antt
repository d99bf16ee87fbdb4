use Rattle.object_nodes.proofs.Handed.{all_nodes_push}
use Rattle.object_nodes.proofs.Running.{names_node, hands_nodes, body_call}
use Rattle.object_nodes.proofs.laws.designators_name_nodes.Goals as goal

pub returns : goal.returns
returns c = record {
  named = λ p packed well fine vs here fuel s call d n is. names_node p packed well fine vs here fuel s call d n is;
  handed = λ p packed well fine vs here fuel s call m row xs suits. hands_nodes p packed well fine vs here fuel s call m row xs suits;
  taken = λ p packed vs own tags xs hs h. all_nodes_push p packed vs own tags xs hs h;
  bodies = λ p packed well fine input bytes i m at. body_call p packed well fine input bytes i m at;
}
