use Rattle.ssa_lowered.specs.Lowered.{lowered}
use Rattle.moved_lowering.proofs.Starts.{start_lowers_alike}
use Rattle.moved_flows.proofs.Starts.{first_selected}
use Rattle.moved_flows.proofs.laws.starts_have_alike_flows.Goals as goal

pub returns : goal.returns
returns c = λ p q well well_too h. first_selected (lowered p) (lowered q) (start_lowers_alike p q well well_too h)
