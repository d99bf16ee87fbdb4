use Rattle.std.proofs.Common.{arith}
use Rattle.pool_core.specs.declared.model.Event.TheVariants as event
use Rattle.pool_core.proofs.Moves.{within, read_at, reserve_stage, tail_within, reserved}
use Rattle.pool_core.proofs.machine.Core.reserve.Goals as goal

pub index-hand-requires : goal.index-hand-requires
index-hand-requires c = omega (arith, within c.self.inside c.self.invariant c.args.self.now c.self.view_is c.args.worker event.Reserve c.requires, c.self.inside.hands.ok)

pub index_mut-requires : goal.index_mut-requires
index_mut-requires c = omega (arith, within c.self.inside c.self.invariant c.args.self.now c.self.view_is c.args.worker event.Reserve c.requires, c.self.inside.hands.ok)

pub unreachable-requires : goal.unreachable-requires
unreachable-requires c =
    let at = read_at c.self.inside.hands.items c.args.worker c.index-hand.result.now (within c.self.inside c.self.invariant c.args.self.now c.self.view_is c.args.worker event.Reserve c.requires) c.index-hand.ensures in
    let r = reserve_stage c.self.inside c.self.invariant c.args.self.now c.self.view_is c.args.worker c.index-hand.result.now at c.requires in
    c.in_default.not-Trace r.0 r.1 r.2

pub overflow_cast-place : goal.overflow_cast-place
overflow_cast-place c =
    let at = read_at c.self.inside.hands.items c.args.worker c.index-hand.result.now (within c.self.inside c.self.invariant c.args.self.now c.self.view_is c.args.worker event.Reserve c.requires) c.index-hand.ensures in
    let r = reserve_stage c.self.inside c.self.invariant c.args.self.now c.self.view_is c.args.worker c.index-hand.result.now at c.requires in
    omega (arith, tail_within c.self.inside c.self.invariant c.args.self.now c.self.view_is c.args.worker c.index-hand.result.now at r.0 r.1 r.2 r.3, c.self.invariant.small)

pub overflow_add-self : goal.overflow_add-self
overflow_add-self c =
    let at = read_at c.self.inside.hands.items c.args.worker c.index-hand.result.now (within c.self.inside c.self.invariant c.args.self.now c.self.view_is c.args.worker event.Reserve c.requires) c.index-hand.ensures in
    let r = reserve_stage c.self.inside c.self.invariant c.args.self.now c.self.view_is c.args.worker c.index-hand.result.now at c.requires in
    omega (arith, tail_within c.self.inside c.self.invariant c.args.self.now c.self.view_is c.args.worker c.index-hand.result.now at r.0 r.1 r.2 r.3, c.self.invariant.small)

pub invariant_of-self : goal.invariant_of-self
invariant_of-self c =
    let at = read_at c.self.inside.hands.items c.args.worker c.index-hand.result.now (within c.self.inside c.self.invariant c.args.self.now c.self.view_is c.args.worker event.Reserve c.requires) c.index-hand.ensures in
    (reserved c.self.inside c.self.invariant c.args.self.now c.self.view_is c.args.worker c.index-hand.result.now at c.in-Trace.trace c.in-Trace.shown c.in-Trace.is c.requires).kept

pub returns-clause-state : goal.returns-clause-state
returns-clause-state c =
    let at = read_at c.self.inside.hands.items c.args.worker c.index-hand.result.now (within c.self.inside c.self.invariant c.args.self.now c.self.view_is c.args.worker event.Reserve c.requires) c.index-hand.ensures in
    (reserved c.self.inside c.self.invariant c.args.self.now c.self.view_is c.args.worker c.index-hand.result.now at c.in-Trace.trace c.in-Trace.shown c.in-Trace.is c.requires).state_is

pub returns-clause-seen : goal.returns-clause-seen
returns-clause-seen c =
    let at = read_at c.self.inside.hands.items c.args.worker c.index-hand.result.now (within c.self.inside c.self.invariant c.args.self.now c.self.view_is c.args.worker event.Reserve c.requires) c.index-hand.ensures in
    (reserved c.self.inside c.self.invariant c.args.self.now c.self.view_is c.args.worker c.index-hand.result.now at c.in-Trace.trace c.in-Trace.shown c.in-Trace.is c.requires).seen_is
