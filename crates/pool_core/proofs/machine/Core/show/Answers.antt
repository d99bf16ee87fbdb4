use Rattle.std.proofs.Common.{arith}
use Rattle.pool_core.specs.declared.model.Event.TheVariants as event
use Rattle.pool_core.proofs.Moves.{within, read_at, show_stage, next_is_there, child_within, place_in, few_children, cells_small, nothing, showed}
use Rattle.pool_core.proofs.machine.Core.show.Goals as goal

pub index-hand-requires : goal.index-hand-requires
index-hand-requires c = omega (arith, within c.self.inside c.self.invariant c.args.self.now c.self.view_is c.args.worker event.Show c.requires, c.self.inside.hands.ok)

pub index_mut-requires-2 : goal.index_mut-requires-2
index_mut-requires-2 c = omega (arith, within c.self.inside c.self.invariant c.args.self.now c.self.view_is c.args.worker event.Show c.requires, c.self.inside.hands.ok)

pub unreachable-requires : goal.unreachable-requires
unreachable-requires c =
    let at = read_at c.self.inside.hands.items c.args.worker c.index-hand.result.now (within c.self.inside c.self.invariant c.args.self.now c.self.view_is c.args.worker event.Show c.requires) c.index-hand.ensures in
    let r = show_stage c.self.inside c.self.invariant c.args.self.now c.self.view_is c.args.worker c.index-hand.result.now at c.requires in
    c.in_default.not-Placed r.0 r.1 r.2 r.3

pub unreachable-requires-in_default-next : goal.unreachable-requires-in_default-next
unreachable-requires-in_default-next c =
    let at = read_at c.self.inside.hands.items c.args.worker c.index-hand.result.now (within c.self.inside c.self.invariant c.args.self.now c.self.view_is c.args.worker event.Show c.requires) c.index-hand.ensures in
    next_is_there c.self.inside c.self.invariant c.args.self.now c.self.view_is c.args.worker c.index-hand.result.now at c.in-Placed.trace c.in-Placed.shown c.in-Placed.place c.in-Placed.is (nothing c.index-hand.result.now.next c.in_default-next.not-Some)

pub overflow_cast-child : goal.overflow_cast-child
overflow_cast-child c =
    let at = read_at c.self.inside.hands.items c.args.worker c.index-hand.result.now (within c.self.inside c.self.invariant c.args.self.now c.self.view_is c.args.worker event.Show c.requires) c.index-hand.ensures in
    let ch = child_within c.self.inside c.self.invariant c.args.self.now c.self.view_is c.args.worker c.index-hand.result.now at c.in-Placed.trace c.in-Placed.shown c.in-Placed.place c.in-Some.child c.in-Placed.is c.in-Some.is in
    omega (arith, ch.0, c.self.invariant.small)

pub overflow_add-child : goal.overflow_add-child
overflow_add-child c =
    let at = read_at c.self.inside.hands.items c.args.worker c.index-hand.result.now (within c.self.inside c.self.invariant c.args.self.now c.self.view_is c.args.worker event.Show c.requires) c.index-hand.ensures in
    let ch = child_within c.self.inside c.self.invariant c.args.self.now c.self.view_is c.args.worker c.index-hand.result.now at c.in-Placed.trace c.in-Placed.shown c.in-Placed.place c.in-Some.child c.in-Placed.is c.in-Some.is in
    omega (arith, ch.0, c.self.invariant.small)

pub overflow_cast-place : goal.overflow_cast-place
overflow_cast-place c =
    let at = read_at c.self.inside.hands.items c.args.worker c.index-hand.result.now (within c.self.inside c.self.invariant c.args.self.now c.self.view_is c.args.worker event.Show c.requires) c.index-hand.ensures in
    omega (arith, place_in c.self.inside c.self.invariant c.args.self.now c.self.view_is c.args.worker c.index-hand.result.now at c.in-Placed.trace c.in-Placed.shown c.in-Placed.place c.in-Placed.is, cells_small c.self.inside c.self.invariant c.args.self.now c.self.view_is c.args.worker c.index-hand.result.now at)

pub index_mut-requires : goal.index_mut-requires
index_mut-requires c =
    let at = read_at c.self.inside.hands.items c.args.worker c.index-hand.result.now (within c.self.inside c.self.invariant c.args.self.now c.self.view_is c.args.worker event.Show c.requires) c.index-hand.ensures in
    omega (arith, place_in c.self.inside c.self.invariant c.args.self.now c.self.view_is c.args.worker c.index-hand.result.now at c.in-Placed.trace c.in-Placed.shown c.in-Placed.place c.in-Placed.is, c.self.inside.cells.ok)

pub overflow_add-shown : goal.overflow_add-shown
overflow_add-shown c =
    let at = read_at c.self.inside.hands.items c.args.worker c.index-hand.result.now (within c.self.inside c.self.invariant c.args.self.now c.self.view_is c.args.worker event.Show c.requires) c.index-hand.ensures in
    omega (arith, few_children c.self.inside c.self.invariant c.args.self.now c.self.view_is c.args.worker c.index-hand.result.now at c.in-Placed.trace c.in-Placed.shown c.in-Placed.place c.in-Placed.is)

pub next_sibling-requires : goal.next_sibling-requires
next_sibling-requires c =
    let at = read_at c.self.inside.hands.items c.args.worker c.index-hand.result.now (within c.self.inside c.self.invariant c.args.self.now c.self.view_is c.args.worker event.Show c.requires) c.index-hand.ensures in
    let ch = child_within c.self.inside c.self.invariant c.args.self.now c.self.view_is c.args.worker c.index-hand.result.now at c.in-Placed.trace c.in-Placed.shown c.in-Placed.place c.in-Some.child c.in-Placed.is c.in-Some.is in
    ch.0

pub invariant_of-self : goal.invariant_of-self
invariant_of-self c =
    let at = read_at c.self.inside.hands.items c.args.worker c.index-hand.result.now (within c.self.inside c.self.invariant c.args.self.now c.self.view_is c.args.worker event.Show c.requires) c.index-hand.ensures in
    let ch = child_within c.self.inside c.self.invariant c.args.self.now c.self.view_is c.args.worker c.index-hand.result.now at c.in-Placed.trace c.in-Placed.shown c.in-Placed.place c.in-Some.child c.in-Placed.is c.in-Some.is in
    (showed c.self.inside c.self.invariant c.args.self.now c.self.view_is c.args.worker c.index-hand.result.now at c.in-Placed.trace c.in-Placed.shown c.in-Placed.place c.in-Some.child c.next_sibling.result c.in-Placed.is c.in-Some.is (c.next_sibling.ensures c.in-Placed.trace c.in-Placed.shown ch.1) c.requires).kept

pub returns-clause-state : goal.returns-clause-state
returns-clause-state c =
    let at = read_at c.self.inside.hands.items c.args.worker c.index-hand.result.now (within c.self.inside c.self.invariant c.args.self.now c.self.view_is c.args.worker event.Show c.requires) c.index-hand.ensures in
    let ch = child_within c.self.inside c.self.invariant c.args.self.now c.self.view_is c.args.worker c.index-hand.result.now at c.in-Placed.trace c.in-Placed.shown c.in-Placed.place c.in-Some.child c.in-Placed.is c.in-Some.is in
    (showed c.self.inside c.self.invariant c.args.self.now c.self.view_is c.args.worker c.index-hand.result.now at c.in-Placed.trace c.in-Placed.shown c.in-Placed.place c.in-Some.child c.next_sibling.result c.in-Placed.is c.in-Some.is (c.next_sibling.ensures c.in-Placed.trace c.in-Placed.shown ch.1) c.requires).state_is

pub returns-clause-seen : goal.returns-clause-seen
returns-clause-seen c =
    let at = read_at c.self.inside.hands.items c.args.worker c.index-hand.result.now (within c.self.inside c.self.invariant c.args.self.now c.self.view_is c.args.worker event.Show c.requires) c.index-hand.ensures in
    let ch = child_within c.self.inside c.self.invariant c.args.self.now c.self.view_is c.args.worker c.index-hand.result.now at c.in-Placed.trace c.in-Placed.shown c.in-Placed.place c.in-Some.child c.in-Placed.is c.in-Some.is in
    (showed c.self.inside c.self.invariant c.args.self.now c.self.view_is c.args.worker c.index-hand.result.now at c.in-Placed.trace c.in-Placed.shown c.in-Placed.place c.in-Some.child c.next_sibling.result c.in-Placed.is c.in-Some.is (c.next_sibling.ensures c.in-Placed.trace c.in-Placed.shown ch.1) c.requires).seen_is
