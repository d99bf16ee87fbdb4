use Rattle.ssa_exprs.proofs.Chains.{flagged_done}
use Rattle.ssa_exprs.proofs.walk.flagged.Goals as goal

pub returns : goal.returns
returns c = λ v t ey en ef x.
    flagged_done c.args.yes c.args.no c.args.freq c.in_ok-out.out c.in_ok-one.one c.in_ok-zero.zero c.values-v.result _ _ c.half.result
    ey en ef x c.in_ok-bind.ensures c.in_ok-one.ensures c.in_ok-out.ensures.given c.in_ok-out.ensures.number c.in_ok-given.ensures c.half.ensures c.in_ok-close.ensures.closed
    c.in_ok-bind-2.ensures c.in_ok-zero.ensures c.values-v.ensures c.in_ok-given-2.ensures c.in_ok-close-2.ensures.closed c.in_ok-bind-3.ensures
