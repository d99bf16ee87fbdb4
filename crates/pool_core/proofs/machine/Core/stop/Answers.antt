use Rattle.std.proofs.Common.{arith}
use Rattle.pool_core.specs.declared.model.Event.TheVariants as event
use Rattle.pool_core.proofs.Moves.{within, read_at, halted}
use Rattle.pool_core.proofs.machine.Core.stop.Goals as goal

pub index-hand-requires : goal.index-hand-requires
index-hand-requires c = omega (arith, within c.self.inside c.self.invariant c.args.self.now c.self.view_is c.args.worker event.Stop c.requires, c.self.inside.hands.ok)

pub index_mut-requires : goal.index_mut-requires
index_mut-requires c = omega (arith, within c.self.inside c.self.invariant c.args.self.now c.self.view_is c.args.worker event.Stop c.requires, c.self.inside.hands.ok)

pub invariant_of-self : goal.invariant_of-self
invariant_of-self c =
    let at = read_at c.self.inside.hands.items c.args.worker c.index-hand.result.now (within c.self.inside c.self.invariant c.args.self.now c.self.view_is c.args.worker event.Stop c.requires) c.index-hand.ensures in
    (halted c.self.inside c.self.invariant c.args.self.now c.self.view_is c.args.worker c.index-hand.result.now at c.requires).kept

pub returns-clause-state : goal.returns-clause-state
returns-clause-state c =
    let at = read_at c.self.inside.hands.items c.args.worker c.index-hand.result.now (within c.self.inside c.self.invariant c.args.self.now c.self.view_is c.args.worker event.Stop c.requires) c.index-hand.ensures in
    (halted c.self.inside c.self.invariant c.args.self.now c.self.view_is c.args.worker c.index-hand.result.now at c.requires).state_is

pub returns-clause-seen : goal.returns-clause-seen
returns-clause-seen c =
    let at = read_at c.self.inside.hands.items c.args.worker c.index-hand.result.now (within c.self.inside c.self.invariant c.args.self.now c.self.view_is c.args.worker event.Stop c.requires) c.index-hand.ensures in
    (halted c.self.inside c.self.invariant c.args.self.now c.self.view_is c.args.worker c.index-hand.result.now at c.requires).seen_is
