use Rattle.ob_judge.specs.Scopes.{place}
use Rattle.check_types.proofs.steps.Answering.{goes_on, as_judged}
use Rattle.check_types.specs.names.Worlds.{world_of}
use Rattle.check_selectors.proofs.Selecting.{arrow_is}
use Rattle.check_selectors.proofs.selectors.select_arrow.Goals as goal

pub returns : goal.returns
returns c = λ a arrow h.
    let s = c.args.scope.now in
    as_judged (arrow_is s.source.now (world_of s) (place s.source.now c.args.symbol) a arrow) (goes_on _ _ (c.in_ok-x.ensures a h) (λ x k. goes_on _ _ (c.in_ok-part.ensures x k) (λ y e. record { by = e })))
