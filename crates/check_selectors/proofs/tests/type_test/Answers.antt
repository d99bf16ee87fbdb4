use Rattle.std.proofs.Common.{sym, ap}
use Rattle.ob_judge.specs.Scopes.{place}
use Rattle.ob_judge.specs.Parts.{tested}
use Rattle.check_types.specs.names.Worlds.{world_of}
use Rattle.check_types.proofs.steps.Answering.{goes_on, as_judged}
use Rattle.check_selectors.proofs.tests.type_test.Goals as goal

pub returns : goal.returns
returns c = λ a h.
    let s = c.args.scope.now in
    goes_on _ _ c.in_ok-t.ensures (λ t e. as_judged (ap (tested s.source.now (world_of s) (place s.source.now c.args.symbol) a) (sym e)) (c.tested.ensures a h))
