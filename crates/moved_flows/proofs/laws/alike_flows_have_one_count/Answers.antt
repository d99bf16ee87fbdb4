use Rattle.moved_flows.proofs.Starts.{one_count}
use Rattle.moved_flows.proofs.laws.alike_flows_have_one_count.Goals as goal

pub returns : goal.returns
returns c = one_count
