use Rattle.std.proofs.Common.{ap}
use Rattle.ssa_lowered.specs.Values.{home_in, Object}
use Rattle.ssa_exprs.specs.Named.{named_of}
use Rattle.ssa_exprs.proofs.Giving.{gives_as}
use Rattle.ssa_exprs.proofs.Parts.{gives_in_memory}
use Rattle.ssa_statements.proofs.homes.home_at.Goals as goal

pub returns-in_ok-a-in-Object : goal.returns-in_ok-a-in-Object
returns-in_ok-a-in-Object c = gives_as (ap (λ h. home_in c.args.small (named_of h)) c.in-Object.is) (gives_in_memory (Object c.in-Object.p) c.in_ok-a-in-Object.ensures)
