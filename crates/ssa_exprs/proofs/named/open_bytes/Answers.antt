use Rattle.ssa_exprs.proofs.Parts.{last, gives_open_bytes}
use Rattle.ssa_exprs.specs.Named.{named_of}
use Rattle.ssa_exprs.proofs.named.open_bytes.Goals as goal

pub returns : goal.returns
returns c = last _ (λ r. gives_open_bytes (named_of c.args.h) c.in_ok-length.ensures c.in_ok-element.ensures) c.emit-2.ensures
