use Rattle.moved_data.proofs.Alike.{one_result}
use Rattle.moved_data.proofs.laws.alike_flows_have_one_result.Goals as goal

pub returns : goal.returns
returns c = one_result
