use Rattle.std.proofs.Common.{◌≡◌, ◌-◌, suc, get_or, arith, ◌∙◌}
use Rattle.pool_core.specs.declared.model.Event.TheVariants as event
use Rattle.pool_core.proofs.Moves.{within, read_at, ticket_look, cell_in, found_in, cells_small, read_cell, looked_empty, looked_trace}
use Rattle.pool_core.proofs.machine.Core.look.Goals as goal

pub index-hand-requires : goal.index-hand-requires
index-hand-requires c = omega (arith, within c.self.inside c.self.invariant c.args.self.now c.self.view_is c.args.worker event.Look c.requires, c.self.inside.hands.ok)

pub index_mut-requires : goal.index_mut-requires
index_mut-requires c = omega (arith, within c.self.inside c.self.invariant c.args.self.now c.self.view_is c.args.worker event.Look c.requires, c.self.inside.hands.ok)

pub unreachable-requires : goal.unreachable-requires
unreachable-requires c =
    let at = read_at c.self.inside.hands.items c.args.worker c.index-hand.result.now (within c.self.inside c.self.invariant c.args.self.now c.self.view_is c.args.worker event.Look c.requires) c.index-hand.ensures in
    let r = ticket_look c.self.inside c.self.invariant c.args.self.now c.self.view_is c.args.worker c.index-hand.result.now at c.requires in
    c.in_default.not-Ticket r.0 r.1

pub index-found-requires : goal.index-found-requires
index-found-requires c =
    let at = read_at c.self.inside.hands.items c.args.worker c.index-hand.result.now (within c.self.inside c.self.invariant c.args.self.now c.self.view_is c.args.worker event.Look c.requires) c.index-hand.ensures in
    omega (arith, cell_in c.self.inside c.self.invariant c.args.self.now c.self.view_is c.args.worker c.index-hand.result.now at c.in-Ticket.cell c.in-Ticket.is, c.self.inside.cells.ok)

pub overflow_cast-cell : goal.overflow_cast-cell
overflow_cast-cell c =
    let at = read_at c.self.inside.hands.items c.args.worker c.index-hand.result.now (within c.self.inside c.self.invariant c.args.self.now c.self.view_is c.args.worker event.Look c.requires) c.index-hand.ensures in
    omega (arith, cell_in c.self.inside c.self.invariant c.args.self.now c.self.view_is c.args.worker c.index-hand.result.now at c.in-Ticket.cell c.in-Ticket.is, cells_small c.self.inside c.self.invariant c.args.self.now c.self.view_is c.args.worker c.index-hand.result.now at)

pub returns-then-found-eq0-clause-state : goal.returns-then-found-eq0-clause-state
returns-then-found-eq0-clause-state c =
    let at = read_at c.self.inside.hands.items c.args.worker c.index-hand.result.now (within c.self.inside c.self.invariant c.args.self.now c.self.view_is c.args.worker event.Look c.requires) c.index-hand.ensures in
    let read = read_cell c.self.inside c.self.invariant c.args.self.now c.self.view_is c.args.worker c.index-hand.result.now at c.in-Ticket.cell c.index-found.result.now c.in-Ticket.is c.index-found.ensures in
    (looked_empty c.self.inside c.self.invariant c.args.self.now c.self.view_is c.args.worker c.index-hand.result.now at c.in-Ticket.cell c.in-Ticket.is (read ∙ c.if-found-eq0.true)).0

pub returns-then-found-eq0-clause-seen : goal.returns-then-found-eq0-clause-seen
returns-then-found-eq0-clause-seen c =
    let at = read_at c.self.inside.hands.items c.args.worker c.index-hand.result.now (within c.self.inside c.self.invariant c.args.self.now c.self.view_is c.args.worker event.Look c.requires) c.index-hand.ensures in
    let read = read_cell c.self.inside c.self.invariant c.args.self.now c.self.view_is c.args.worker c.index-hand.result.now at c.in-Ticket.cell c.index-found.result.now c.in-Ticket.is c.index-found.ensures in
    (looked_empty c.self.inside c.self.invariant c.args.self.now c.self.view_is c.args.worker c.index-hand.result.now at c.in-Ticket.cell c.in-Ticket.is (read ∙ c.if-found-eq0.true)).1

pub overflow_cast-trace : goal.overflow_cast-trace
overflow_cast-trace c =
    let at = read_at c.self.inside.hands.items c.args.worker c.index-hand.result.now (within c.self.inside c.self.invariant c.args.self.now c.self.view_is c.args.worker event.Look c.requires) c.index-hand.ensures in
    let read = read_cell c.self.inside c.self.invariant c.args.self.now c.self.view_is c.args.worker c.index-hand.result.now at c.in-Ticket.cell c.index-found.result.now c.in-Ticket.is c.index-found.ensures in
    let found : get_or c.self.inside.cells.items c.in-Ticket.cell 0 ≡ suc (c.index-found.result.now - 1) = omega (arith, read, c.if-found-eq0.false) in
    omega (arith, found_in c.self.inside c.self.invariant c.args.self.now c.self.view_is c.args.worker c.index-hand.result.now at c.in-Ticket.cell (c.index-found.result.now - 1) c.in-Ticket.is found, c.self.invariant.small)

pub first_child-requires : goal.first_child-requires
first_child-requires c =
    let at = read_at c.self.inside.hands.items c.args.worker c.index-hand.result.now (within c.self.inside c.self.invariant c.args.self.now c.self.view_is c.args.worker event.Look c.requires) c.index-hand.ensures in
    let read = read_cell c.self.inside c.self.invariant c.args.self.now c.self.view_is c.args.worker c.index-hand.result.now at c.in-Ticket.cell c.index-found.result.now c.in-Ticket.is c.index-found.ensures in
    let found : get_or c.self.inside.cells.items c.in-Ticket.cell 0 ≡ suc (c.index-found.result.now - 1) = omega (arith, read, c.if-found-eq0.false) in
    found_in c.self.inside c.self.invariant c.args.self.now c.self.view_is c.args.worker c.index-hand.result.now at c.in-Ticket.cell (c.index-found.result.now - 1) c.in-Ticket.is found

pub invariant_of-self : goal.invariant_of-self
invariant_of-self c =
    let at = read_at c.self.inside.hands.items c.args.worker c.index-hand.result.now (within c.self.inside c.self.invariant c.args.self.now c.self.view_is c.args.worker event.Look c.requires) c.index-hand.ensures in
    let read = read_cell c.self.inside c.self.invariant c.args.self.now c.self.view_is c.args.worker c.index-hand.result.now at c.in-Ticket.cell c.index-found.result.now c.in-Ticket.is c.index-found.ensures in
    let found : get_or c.self.inside.cells.items c.in-Ticket.cell 0 ≡ suc (c.index-found.result.now - 1) = omega (arith, read, c.if-found-eq0.false) in
    (looked_trace c.self.inside c.self.invariant c.args.self.now c.self.view_is c.args.worker c.index-hand.result.now at c.in-Ticket.cell (c.index-found.result.now - 1) c.first_child.result c.in-Ticket.is found c.first_child.ensures c.requires).kept

pub returns-clause-state : goal.returns-clause-state
returns-clause-state c =
    let at = read_at c.self.inside.hands.items c.args.worker c.index-hand.result.now (within c.self.inside c.self.invariant c.args.self.now c.self.view_is c.args.worker event.Look c.requires) c.index-hand.ensures in
    let read = read_cell c.self.inside c.self.invariant c.args.self.now c.self.view_is c.args.worker c.index-hand.result.now at c.in-Ticket.cell c.index-found.result.now c.in-Ticket.is c.index-found.ensures in
    let found : get_or c.self.inside.cells.items c.in-Ticket.cell 0 ≡ suc (c.index-found.result.now - 1) = omega (arith, read, c.if-found-eq0.false) in
    (looked_trace c.self.inside c.self.invariant c.args.self.now c.self.view_is c.args.worker c.index-hand.result.now at c.in-Ticket.cell (c.index-found.result.now - 1) c.first_child.result c.in-Ticket.is found c.first_child.ensures c.requires).state_is

pub returns-clause-seen : goal.returns-clause-seen
returns-clause-seen c =
    let at = read_at c.self.inside.hands.items c.args.worker c.index-hand.result.now (within c.self.inside c.self.invariant c.args.self.now c.self.view_is c.args.worker event.Look c.requires) c.index-hand.ensures in
    let read = read_cell c.self.inside c.self.invariant c.args.self.now c.self.view_is c.args.worker c.index-hand.result.now at c.in-Ticket.cell c.index-found.result.now c.in-Ticket.is c.index-found.ensures in
    let found : get_or c.self.inside.cells.items c.in-Ticket.cell 0 ≡ suc (c.index-found.result.now - 1) = omega (arith, read, c.if-found-eq0.false) in
    (looked_trace c.self.inside c.self.invariant c.args.self.now c.self.view_is c.args.worker c.index-hand.result.now at c.in-Ticket.cell (c.index-found.result.now - 1) c.first_child.result c.in-Ticket.is found c.first_child.ensures c.requires).seen_is
