use Rattle.moved_flows.proofs.Selecting.{select_alike}
use Rattle.moved_flows.proofs.laws.alike_procedures_select_alike.Goals as goal

pub returns : goal.returns
returns c = select_alike
