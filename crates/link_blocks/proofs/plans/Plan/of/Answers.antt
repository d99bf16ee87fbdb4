use Rattle.std.proofs.Common.{◌≡◌, ℕ, ◌+◌, ◌<◌, ◌≤◌, List, [], ◌++◌, map, length, ◌∙◌, ap, ap₂, sym, arith, refl}
use Rattle.lir_core.specs.declared.flow.Flow.{Flow}
use Rattle.lir_core.specs.Flows.{code_nodes}
use Rattle.lir_core.specs.Lines.{slots_of}
use Rattle.placed_code.specs.Results.{homes_of}
use Rattle.linked_flows.specs.Allocations.{Cut}
use Rattle.link_layout.specs.Spots.{copy_of}
use Rattle.link_blocks.specs.Plans.{block_in}
use Rattle.link_blocks.specs.Ahead.{edges_ahead}
use Rattle.link_blocks.proofs.Made.{is_made, slots_made, plan_is}
use Rattle.link_blocks.proofs.Outs.{slots_few}
use Rattle.link_blocks.proofs.plans.Plan.of.Goals as goal

-- a flow's calls have few slots for arguments, since it is valid
pub returns-then-slots-gt-MOST_OUTS-clause-misfit : goal.returns-then-slots-gt-MOST_OUTS-clause-misfit
returns-then-slots-gt-MOST_OUTS-clause-misfit c refused k c' is fits =
    let nodes = c.as_slice-nodes.ensures ∙ ap (λ (f : Flow). f.nodes) is.flow_is in
    let slots = c.slots_of-slots.ensures ∙ ap (λ ns. slots_of (code_nodes ns)) nodes in
    let few = slots_few c'.flow.args (code_nodes c'.flow.nodes) is.sound.valid.code.operations in
    omega (arith, slots, few, c.if-slots-gt-MOST_OUTS.true)

pub returns-then-count-slots-ge-MOST_SLOTS-clause-misfit : goal.returns-then-count-slots-ge-MOST_SLOTS-clause-misfit
returns-then-count-slots-ge-MOST_SLOTS-clause-misfit c refused k c' is fits =
    let a = c.args in
    let made = is_made k c' a.flow.now a.lines.now a.outs.now is c.push_edges.new.copies.items c.in_ok-laid.laid c.in_ok-laid.laid.blocks.items c.in_ok-homes.homes c.in_ok-at.at
    (c.in_ok-at.ensures.copies ∙ ap (λ xs. map copy_of xs ++ edges_ahead a.lines.now) c.new-first.ensures.items)
    c.in_ok-at.ensures.behind
    (λ f g s p d e. c.in_ok-laid.ensures.laid k c' (c.as_slice-nodes.ensures ∙ f) g s p d e)
    refl
    (c.in_ok-homes.ensures ∙ ap₂ (λ xs ys. homes_of (map copy_of xs) (map block_in ys)) c.as_slice.ensures.value c.as_slice-2.ensures.value) in
    let slots = slots_made c' c.push_edges.new.copies.items c.in_ok-laid.laid.order.items c.in_ok-homes.homes c.in_ok-laid.laid.blocks.items a.flow.now c.slots_of-slots.result made is.flow_is (c.slots_of-slots.ensures ∙ ap (λ ns. slots_of (code_nodes ns)) c.as_slice-nodes.ensures) in
    omega (arith, slots, fits.slots, c.count.ensures, c.if-count-slots-ge-MOST_SLOTS.true)

pub invariant_of-result : goal.invariant_of-result
invariant_of-result c = record {
  slots = omega (arith, c.count-2.ensures);
  few_slots = omega (arith, c.count.ensures, c.count-2.ensures, c.if-count-slots-ge-MOST_SLOTS.false);
  few_outs = omega arith;
  few_bytes = omega arith;
  few_blocks =
      let one = ap length c.from_vec-2.ensures in
      let each = c.in_ok-laid.ensures.each in
      let many = ap length c.as_slice-nodes.ensures in
      omega (arith, one, each, many);
}

pub returns-clause-plan : goal.returns-clause-plan
returns-clause-plan c k c' is =
    let a = c.args in
    let made = is_made k c' a.flow.now a.lines.now a.outs.now is c.push_edges.new.copies.items c.in_ok-laid.laid c.in_ok-laid.laid.blocks.items c.in_ok-homes.homes c.in_ok-at.at
    (c.in_ok-at.ensures.copies ∙ ap (λ xs. map copy_of xs ++ edges_ahead a.lines.now) c.new-first.ensures.items)
    c.in_ok-at.ensures.behind
    (λ f g s p d e. c.in_ok-laid.ensures.laid k c' (c.as_slice-nodes.ensures ∙ f) g s p d e)
    refl
    (c.in_ok-homes.ensures ∙ ap₂ (λ xs ys. homes_of (map copy_of xs) (map block_in ys)) c.as_slice.ensures.value c.as_slice-2.ensures.value) in
    plan_is c' c.push_edges.new.copies.items c.from_vec.result c.in_ok-laid.laid.order.items c.from_vec-3.result c.in_ok-homes.homes c.in_ok-laid.laid.blocks.items c.from_vec-2.result a.flow.now c.slots_of-slots.result made c.from_vec.ensures c.from_vec-3.ensures c.from_vec-2.ensures is.flow_is (c.slots_of-slots.ensures ∙ ap (λ ns. slots_of (code_nodes ns)) c.as_slice-nodes.ensures)
