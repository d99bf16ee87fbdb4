use Rattle.std.proofs.Common.{◌∙◌, ◌-◌, ap, take, arith}
use Rattle.check_making.proofs.scopes.Scopes.{settled_closed, makes_closed}
use Rattle.check_making.proofs.scopes.entering.leave.Goals as goal

pub returns-clause-settled : goal.returns-clause-settled
returns-clause-settled c = settled_closed c.args.round.now c.args.state.now c.args.outer c.args.forward c.pop-left.new.self (c.pop-left.ensures.rest ∙ ap (λ n. take (n - 1) c.args.state.now.levels.items) c.args.state.now.levels.ok.0) c.requires.settled c.requires.deeper c.requires.variables

pub returns-clause-makes : goal.returns-clause-makes
returns-clause-makes c = λ s t makes h.
    makes_closed c.args.round.now c.args.state.now c.args.outer c.args.forward c.pop-left.new.self (c.pop-left.ensures.rest ∙ ap (λ n. take (n - 1) c.args.state.now.levels.items) c.args.state.now.levels.ok.0) s t makes h (let o = c.requires.settled.open_scope in omega (arith, o))
