use Rattle.moved_data.proofs.Alike.{one_cut}
use Rattle.moved_data.proofs.laws.alike_flows_have_one_cut.Goals as goal

pub returns : goal.returns
returns c = one_cut
