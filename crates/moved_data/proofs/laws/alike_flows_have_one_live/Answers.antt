use Rattle.moved_data.proofs.Alike.{one_live}
use Rattle.moved_data.proofs.laws.alike_flows_have_one_live.Goals as goal

pub returns : goal.returns
returns c = one_live
