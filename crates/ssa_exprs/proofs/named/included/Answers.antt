use Rattle.ssa_exprs.proofs.Parts.{last, gives_included}
use Rattle.ssa_exprs.proofs.named.included.Goals as goal

pub returns : goal.returns
returns c = last _ (λ r. gives_included c.in_ok-d.ensures c.in_ok-z.ensures) c.emit-3.ensures
