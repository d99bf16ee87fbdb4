use Rattle.std.proofs.Common.{◌∙◌, ap, sym, subst}
use Rattle.lir_core.specs.Spots.{IsRising}
use Rattle.loc_state.specs.Homed.{others}
use Rattle.loc_state.proofs.Homing.{found_at, removed_at, remove_none, others_rise}
use Rattle.loc_state.proofs.homes.Homes.remove.Goals as goal

pub invariant_of-self : goal.invariant_of-self
invariant_of-self c =
    let values = c.self.inside.values.items in
    let removed = removed_at c.args.value values c.as_slice.result.now c.as_slice-2.result.now c.remove-was_homed.new.self.items c.rank-at.result c.as_slice.ensures.value c.as_slice-2.ensures.value c.rank-at.ensures.rank c.if-is_at.ensures c.self.invariant c.remove-was_homed.ensures.items in
    subst IsRising (sym removed) (others_rise c.args.value values c.self.invariant)

pub returns-then-is_at : goal.returns-then-is_at
returns-then-is_at c =
    let values = c.self.inside.values.items in
    removed_at c.args.value values c.as_slice.result.now c.as_slice-2.result.now c.remove-was_homed.new.self.items c.rank-at.result c.as_slice.ensures.value c.as_slice-2.ensures.value c.rank-at.ensures.rank c.if-is_at.ensures c.self.invariant c.remove-was_homed.ensures.items
    ∙ ap (others c.args.value) c.self.view_is

pub returns-else-is_at : goal.returns-else-is_at
returns-else-is_at c =
    let values = c.self.inside.values.items in
    let found = found_at c.args.value values c.as_slice.result.now c.as_slice-2.result.now c.rank-at.result _ c.as_slice.ensures.value c.as_slice-2.ensures.value c.rank-at.ensures.rank c.if-is_at.ensures c.self.invariant in
    sym c.self.view_is ∙ remove_none c.args.value values c.self.invariant found.1 ∙ ap (others c.args.value) c.self.view_is
