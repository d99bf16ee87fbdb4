use Rattle.ssa_exprs.proofs.Parts.{gives_guarded}
use Rattle.ssa_exprs.proofs.named.guard.Goals as goal

pub returns : goal.returns
returns c = λ v m g. gives_guarded g c.in_ok-d.ensures c.in_ok-act.ensures
