use Rattle.object_nodes.proofs.AtOnce.{at_once}
use Rattle.object_nodes.proofs.Running.{array_copy, record_copy}
use Rattle.object_nodes.proofs.laws.copies_are_at_once.Goals as goal

pub returns : goal.returns
returns c = record {
  cells = λ n to from s there here may ahead. at_once n to from s.store there here may ahead s.out s.turns;
  arrays = λ p packed well fine vs here fuel rounds s call d e h. array_copy p packed well fine vs here fuel s call rounds d e h;
  records = λ p packed well fine vs here fuel rounds s call d e h. record_copy p packed well fine vs here fuel s call rounds d e h;
}
