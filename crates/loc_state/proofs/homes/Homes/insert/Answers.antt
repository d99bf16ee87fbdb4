use Rattle.std.proofs.Common.{◌≡◌, ◌∙◌, ap, sym, subst}
use Rattle.std.specs.Prelude.{insert}
use Rattle.lir_core.specs.Spots.{IsRising}
use Rattle.loc_state.specs.Homed.{inserted}
use Rattle.loc_state.proofs.Homing.{found_at, insert_is, insert_there, inserted_rises}
use Rattle.loc_state.proofs.homes.Homes.insert.Goals as goal

added : (c : goal.In_ok-insert) → c.insert.new.self.items ≡ inserted c.args.value c.self.inside.values.items
added c =
    let values = c.self.inside.values.items in
    let found = found_at c.args.value values c.as_slice.result.now c.as_slice-2.result.now c.rank_near-at.result _ c.as_slice.ensures.value c.as_slice-2.ensures.value c.rank_near-at.ensures.rank c.if-not-is_at.ensures c.self.invariant in
    c.in_ok-insert.ensures.items ∙ ap (λ k. insert values k c.args.value) found.0 ∙ insert_is c.args.value values found.1

pub invariant_of-self : goal.invariant_of-self
invariant_of-self c = subst IsRising (sym (added c)) (inserted_rises c.args.value c.self.inside.values.items c.self.invariant)

pub returns-in_ok-insert : goal.returns-in_ok-insert
returns-in_ok-insert c = added c ∙ ap (inserted c.args.value) c.self.view_is

pub returns-else-not-is_at : goal.returns-else-not-is_at
returns-else-not-is_at c =
    let values = c.self.inside.values.items in
    let found = found_at c.args.value values c.as_slice.result.now c.as_slice-2.result.now c.rank_near-at.result _ c.as_slice.ensures.value c.as_slice-2.ensures.value c.rank_near-at.ensures.rank c.if-not-is_at.ensures c.self.invariant in
    insert_there c.args.value values found.1 ∙ ap (inserted c.args.value) c.self.view_is
