use Rattle.std.proofs.Common.{◌∷◌, [], ◌-◌, map, ap, sym, ◌∙◌, arith}
use Rattle.placed_code.proofs.Linking.{all_size}
use Rattle.link_blocks.specs.Plans.{placed_in}
use Rattle.procedure_code.specs.declared.measuring.Measure.{Measure}
use Rattle.procedure_code.proofs.Rows.{errs_with}
use Rattle.procedure_code.proofs.Alone.{reach_from, alone_blocks, from_first}
use Rattle.procedure_code.proofs.making.places_of.Goals as goal

pub returns-in_err-found-clause-limit : goal.returns-in_err-found-clause-limit
returns-in_err-found-clause-limit c =
    let a = c.args in
    let p = a.plan.now in
    let front_is = ap (λ (m : Measure). m.front) c.requires.measured in
    let blocks_are = ap (λ (m : Measure). m.blocks) c.requires.measured in
    let are = alone_blocks p c.base_of-base.result a.measure.now.front c.as_slice-order.result.now c.as_slice.result.now c.len-count.result c.base_of-base.ensures.base front_is c.as_slice-order.ensures (c.as_slice.ensures ∙ blocks_are) c.len-count.ensures in
    errs_with _ _ c.from_residual.result c.from_residual.ensures.1
    (λ fault same limit. let g = c.in_err-found.ensures.limit (sym same ∙ limit) (placed_in p ∷ []) 0 are in let s = all_size (placed_in p ∷ []) in omega (arith, g, s))

pub returns-clause-places : goal.returns-clause-places
returns-clause-places c whole =
    let a = c.args in
    let p = a.plan.now in
    let front_is = ap (λ (m : Measure). m.front) c.requires.measured in
    let blocks_are = ap (λ (m : Measure). m.blocks) c.requires.measured in
    let are = alone_blocks p c.base_of-base.result a.measure.now.front c.as_slice-order.result.now c.as_slice.result.now c.len-count.result c.base_of-base.ensures.base front_is c.as_slice-order.ensures (c.as_slice.ensures ∙ blocks_are) c.len-count.ensures in
    from_first (placed_in p) c.base_of-base.result c.in_ok-found.found.items c.in_ok-places.places.items whole c.base_of-base.ensures.base
    (c.in_ok-found.ensures.places (placed_in p ∷ []) 0 are)
    (c.in_ok-places.ensures ∙ ap (λ xs. map (λ x. x - c.base_of-base.result) xs) c.as_slice-2.ensures.value)

pub returns-clause-reach : goal.returns-clause-reach
returns-clause-reach c =
    reach_from c.base_of-base.result c.in_ok-found.found.items c.in_ok-places.places.items
    (c.in_ok-places.ensures ∙ ap (λ xs. map (λ x. x - c.base_of-base.result) xs) c.as_slice-2.ensures.value) c.in_ok-found.ensures.reach
