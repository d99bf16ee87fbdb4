use Rattle.std.proofs.Common.{map, sym, ap, ◌∙◌, subst, arith}
use Rattle.std.proofs.lemmas.List.{length-map}
use Rattle.lir_core.specs.Flows.{IsValidFlow}
use Rattle.link_plan.proofs.Cuts.{map_last}
use Rattle.kept_plans.proofs.Lists.{imaged}
use Rattle.kept_plans.proofs.Fronts.{front_more, whole}
use Rattle.kept_plans.proofs.parents.all_parents.Goals as goal

pub loop-place-preserved : goal.loop-place-preserved
loop-place-preserved c valid =
    let a = c.args in
    let i = c.loop-place.place in
    let lt = c.loop-place-test.true in
    let n = c.requires in
    let m = length-map a.cuts.now (λ v. v.items) in
    let flow = c.index-flows-place.result in
    let own = imaged (λ v. v.items) a.cuts.now i c.index-cuts-place.result c.as_slice.result.now (omega (arith, lt, n)) c.index-cuts-place.is c.as_slice.ensures.value in
    front_more a.flows.now (map (λ v. v.items) a.cuts.now) i flow c.as_slice.result.now c.in_ok-own.own.items lt (omega (arith, lt, n, m)) c.index-flows-place.is own _ _ (c.loop-place.invariant valid)
    (c.in_ok-own.ensures.parents (subst IsValidFlow (sym c.index-flows-place.is) (valid i flow lt)))
    (ap (map (λ v. v.items)) c.in_ok-push.ensures.items ∙ map_last (λ v. v.items) c.loop-place.above.items c.in_ok-own.own)

pub returns : goal.returns
returns c valid =
    let n = c.requires in
    let m = length-map c.args.cuts.now (λ v. v.items) in
    let ended = c.loop-place-test.false in
    whole c.args.flows.now (map (λ v. v.items) c.args.cuts.now) c.loop-place.place (map (λ v. v.items) c.loop-place.above.items) ended (omega (arith, ended, n, m)) (c.loop-place.invariant valid)
