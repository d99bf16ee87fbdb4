use Rattle.ssa_exprs.proofs.Parts.{gives_data_at}
use Rattle.ssa_exprs.proofs.walk.data_at.Goals as goal

pub returns : goal.returns
returns c = gives_data_at c.in_ok-a.ensures
