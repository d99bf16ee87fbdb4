use Rattle.std.proofs.Common.{◌-◌, sym, ap, ◌∙◌, arith}
use Rattle.run_laws.specs.Turns.{State, Gives}
use Rattle.ob_types.specs.Store.{Store}
use Rattle.eval_store.proofs.Spending.{spends, spent}
use Rattle.eval_store.proofs.world.World.spend_some.Goals as goal

pub returns-then-self-count-clause-did : goal.returns-then-self-count-clause-did
returns-then-self-count-clause-did c =
    let e = ap (λ (s : State Store). s.turns) c.self.view_is in
    spent c.args.self.now c.args.count (omega (arith, e, c.if-self-count.true))

pub returns-clause-did : goal.returns-clause-did
returns-clause-did c =
    let e = ap (λ (s : State Store). s.turns) c.self.view_is in
    spends c.args.self.now c.args.count (omega (arith, e, c.if-self-count.false))
    ∙ ap (λ (s : State Store). Gives tt (record s { turns = s.turns - c.args.count })) (sym c.self.view_is)
