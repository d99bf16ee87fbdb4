use Rattle.lowered_runs.proofs.Claimed.{keeps_up_in}
use Rattle.lowered_runs.proofs.laws.programs_keep_up_in_layouts.Goals as goal

pub returns : goal.returns
returns c = λ p packed l input constants code n h. keeps_up_in p packed l input constants code n h
