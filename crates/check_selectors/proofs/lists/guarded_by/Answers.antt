use Rattle.std.proofs.Common.{sym, ap}
use Rattle.ob_judge.specs.Scopes.{place}
use Rattle.ob_judge.specs.Parts.{guarded}
use Rattle.check_types.specs.names.Worlds.{world_of}
use Rattle.check_types.proofs.steps.Answering.{goes_on, stop, exit, as_judged}
use Rattle.check_selectors.proofs.lists.guarded_by.Goals as goal

pub returns-in_err-part : goal.returns-in_err-part
returns-in_err-part c = λ a h.
    let s = c.args.scope.now in
    exit _ c.from_residual-in_err-part.ensures.1
    (goes_on _ _ c.in_ok-t.ensures (λ t e. stop _ _ (as_judged (ap (guarded s.source.now (world_of s) (place s.source.now c.args.symbol) a) (sym e)) (c.in_err-part.ensures a h))))

pub returns : goal.returns
returns c = λ a h.
    let s = c.args.scope.now in
    goes_on _ _ c.in_ok-t.ensures (λ t e. goes_on _ _ (as_judged (ap (guarded s.source.now (world_of s) (place s.source.now c.args.symbol) a) (sym e)) (c.in_ok-part.ensures a h)) (λ y k. record { by = k }))
