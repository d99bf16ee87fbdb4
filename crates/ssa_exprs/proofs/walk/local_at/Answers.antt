use Rattle.ssa_exprs.proofs.Parts.{gives_local_at}
use Rattle.ssa_exprs.proofs.walk.local_at.Goals as goal

pub returns : goal.returns
returns c = gives_local_at c.in_ok-a.ensures
