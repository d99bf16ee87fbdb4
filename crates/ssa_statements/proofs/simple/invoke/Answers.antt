use Rattle.std.proofs.Common.{ap, sym}
use Rattle.ssa_statements.proofs.Straight.{steps_invoke}
use Rattle.ssa_exprs.proofs.Giving.{gives_as}
use Rattle.ssa_lowered.specs.Pieces.{does}
use Rattle.ssa_statements.proofs.simple.invoke.Goals as goal

pub returns : goal.returns
returns c = λ p here s.
    steps_invoke (c.in_ok-r.ensures p here s) (gives_as (ap (λ ws. does c.in_ok-r.r.code ws) (sym c.as_slice.ensures.value)) c.in_ok-act.ensures)
