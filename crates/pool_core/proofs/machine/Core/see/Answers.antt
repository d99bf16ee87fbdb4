use Rattle.std.proofs.Common.{arith}
use Rattle.pool_core.specs.declared.model.Event.TheVariants as event
use Rattle.pool_core.proofs.Moves.{within, read_at, ticket_see, saw_set}
use Rattle.pool_core.proofs.machine.Core.see.Goals as goal

pub index-hand-requires : goal.index-hand-requires
index-hand-requires c = omega (arith, within c.self.inside c.self.invariant c.args.self.now c.self.view_is c.args.worker event.See c.requires, c.self.inside.hands.ok)

pub index_mut-requires : goal.index_mut-requires
index_mut-requires c = omega (arith, within c.self.inside c.self.invariant c.args.self.now c.self.view_is c.args.worker event.See c.requires, c.self.inside.hands.ok)

pub invariant_of-self : goal.invariant_of-self
invariant_of-self c =
    let at = read_at c.self.inside.hands.items c.args.worker c.index-hand.result.now (within c.self.inside c.self.invariant c.args.self.now c.self.view_is c.args.worker event.See c.requires) c.index-hand.ensures in
    let r = ticket_see c.self.inside c.self.invariant c.args.self.now c.self.view_is c.args.worker c.index-hand.result.now at c.requires in
    (saw_set c.self.inside c.self.invariant c.args.self.now c.self.view_is c.args.worker c.index-hand.result.now at r.0 r.1 c.if-not-self.false c.requires).kept

pub returns-clause-state : goal.returns-clause-state
returns-clause-state c =
    let at = read_at c.self.inside.hands.items c.args.worker c.index-hand.result.now (within c.self.inside c.self.invariant c.args.self.now c.self.view_is c.args.worker event.See c.requires) c.index-hand.ensures in
    let r = ticket_see c.self.inside c.self.invariant c.args.self.now c.self.view_is c.args.worker c.index-hand.result.now at c.requires in
    (saw_set c.self.inside c.self.invariant c.args.self.now c.self.view_is c.args.worker c.index-hand.result.now at r.0 r.1 c.if-not-self.false c.requires).state_is
