use Rattle.ssa_exprs.proofs.Parts.{last, gives_is_tag}
use Rattle.ssa_exprs.proofs.named.is_tag.Goals as goal

pub returns : goal.returns
returns c = last _ (λ r. gives_is_tag c.in_ok-d.ensures) c.emit-2.ensures
