use Rattle.std.proofs.Common.{rules, ◌≡◌, replicate}
use Rattle.std.specs.Prelude.{vec_capacity}
use Rattle.pool_core.proofs.Opened.{idle, opens_state, opens_sound}
use Rattle.pool_core.proofs.machine.Core.open.Goals as goal

pub invariant_of-result : goal.invariant_of-result
invariant_of-result c =
    let P = c.args.parents.now in
    let same : c.in_ok-children.children ≡ P = search rules in
    let hands : c.in_ok-hands.hands.items ≡ replicate c.args.workers idle = c.in_ok-hands.ensures.items_if_clones_equal (λ y e. e) in
    opens_sound P c.in_ok-children.children c.args.workers c.in_ok-cells.cells.shown (vec_capacity c.in_ok-log.log) c.in_ok-cells.cells.cells.items c.in_ok-hands.hands.items c.in_ok-log.log.items
    same c.requires.tree c.requires.small c.requires.workers.1 c.in_ok-log.ensures.capacity c.in_ok-cells.ensures.shown c.in_ok-cells.ensures.cells hands c.in_ok-log.ensures.items

pub returns-clause-state : goal.returns-clause-state
returns-clause-state c =
    let hands : c.in_ok-hands.hands.items ≡ replicate c.args.workers idle = c.in_ok-hands.ensures.items_if_clones_equal (λ y e. e) in
    opens_state c.args.parents.now c.args.workers c.in_ok-cells.cells.shown c.in_ok-cells.cells.cells.items c.in_ok-hands.hands.items c.in_ok-log.log.items
    c.in_ok-cells.ensures.shown c.in_ok-cells.ensures.cells hands c.in_ok-log.ensures.items
