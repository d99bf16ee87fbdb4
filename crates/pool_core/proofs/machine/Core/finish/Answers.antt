use Rattle.std.proofs.Common.{arith}
use Rattle.std.specs.Prelude.{vec_capacity}
use Rattle.pool_core.specs.declared.model.Event.TheVariants as event
use Rattle.pool_core.proofs.Moves.{within, read_at, finish_stage, log_room, finished}
use Rattle.pool_core.proofs.machine.Core.finish.Goals as goal

pub index-hand-requires : goal.index-hand-requires
index-hand-requires c = omega (arith, within c.self.inside c.self.invariant c.args.self.now c.self.view_is c.args.worker event.Finish c.requires, c.self.inside.hands.ok)

pub index_mut-requires : goal.index_mut-requires
index_mut-requires c = omega (arith, within c.self.inside c.self.invariant c.args.self.now c.self.view_is c.args.worker event.Finish c.requires, c.self.inside.hands.ok)

pub unreachable-requires : goal.unreachable-requires
unreachable-requires c =
    let at = read_at c.self.inside.hands.items c.args.worker c.index-hand.result.now (within c.self.inside c.self.invariant c.args.self.now c.self.view_is c.args.worker event.Finish c.requires) c.index-hand.ensures in
    let r = finish_stage c.self.inside c.self.invariant c.args.self.now c.self.view_is c.args.worker c.index-hand.result.now at c.requires in
    c.in_default.not-Trace r.0 r.1 r.2

pub push_reserved-requires : goal.push_reserved-requires
push_reserved-requires c =
    let at = read_at c.self.inside.hands.items c.args.worker c.index-hand.result.now (within c.self.inside c.self.invariant c.args.self.now c.self.view_is c.args.worker event.Finish c.requires) c.index-hand.ensures in
    omega (arith, log_room c.self.inside c.self.invariant c.args.self.now c.self.view_is c.args.worker c.index-hand.result.now at c.in-Trace.trace c.in-Trace.field-1 c.in-Trace.is c.requires, c.self.inside.log.ok)

pub invariant_of-self : goal.invariant_of-self
invariant_of-self c =
    let at = read_at c.self.inside.hands.items c.args.worker c.index-hand.result.now (within c.self.inside c.self.invariant c.args.self.now c.self.view_is c.args.worker event.Finish c.requires) c.index-hand.ensures in
    (finished c.self.inside c.self.invariant c.args.self.now c.self.view_is c.args.worker c.index-hand.result.now at c.in-Trace.trace c.in-Trace.field-1 c.in-Trace.is c.requires (vec_capacity c.push_reserved.new.self) c.push_reserved.new.self.items c.push_reserved.ensures.items (omega (arith, c.push_reserved.ensures.capacity))).kept

pub returns-clause-state : goal.returns-clause-state
returns-clause-state c =
    let at = read_at c.self.inside.hands.items c.args.worker c.index-hand.result.now (within c.self.inside c.self.invariant c.args.self.now c.self.view_is c.args.worker event.Finish c.requires) c.index-hand.ensures in
    (finished c.self.inside c.self.invariant c.args.self.now c.self.view_is c.args.worker c.index-hand.result.now at c.in-Trace.trace c.in-Trace.field-1 c.in-Trace.is c.requires (vec_capacity c.push_reserved.new.self) c.push_reserved.new.self.items c.push_reserved.ensures.items (omega (arith, c.push_reserved.ensures.capacity))).state_is

pub returns-clause-seen : goal.returns-clause-seen
returns-clause-seen c =
    let at = read_at c.self.inside.hands.items c.args.worker c.index-hand.result.now (within c.self.inside c.self.invariant c.args.self.now c.self.view_is c.args.worker event.Finish c.requires) c.index-hand.ensures in
    (finished c.self.inside c.self.invariant c.args.self.now c.self.view_is c.args.worker c.index-hand.result.now at c.in-Trace.trace c.in-Trace.field-1 c.in-Trace.is c.requires (vec_capacity c.push_reserved.new.self) c.push_reserved.new.self.items c.push_reserved.ensures.items (omega (arith, c.push_reserved.ensures.capacity))).seen_is
