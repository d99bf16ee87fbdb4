use Rattle.std.proofs.Common.{[], ◌∷◌, map, length, ap, sym, ◌∙◌, arith, length-append}
use Rattle.kept_plans.proofs.Lists.{imaged}
use Rattle.link_blocks.specs.Plans.{placed_in}
use Rattle.procedure_code.proofs.Rows.{errs_with}
use Rattle.link_plan.proofs.Cuts.{cut_at, fits_more, map_last, cuts_length}
use Rattle.kept_plans.proofs.Plans.{plans_more, plans_all}
use Rattle.kept_plans.proofs.linking.plans_of.Goals as goal

pub returns-in_err-plan-clause-misfit : goal.returns-in_err-plan-clause-misfit
returns-in_err-plan-clause-misfit c =
    errs_with _ _ c.from_residual-in_err-plan.result c.from_residual-in_err-plan.ensures.1
    (λ fault same refused k cuts are small.
    let a = c.args in
    let i = c.loop-place.place in
    let lt = c.loop-place-test.true in
    let parts = c.requires.parts in
    let outs = c.requires.outs in
    let at = cut_at k a.flows.now (map (λ v. v.items) a.parts.now) (map (λ v. v.items) a.outs.now) cuts are i c.index-flows-place.result c.as_slice-lines.result.now c.as_slice-results.result.now lt c.index-flows-place.is
    (imaged (λ v. v.items) a.parts.now i c.index-parts-place.result c.as_slice-lines.result.now (omega (arith, lt, parts)) c.index-parts-place.is c.as_slice-lines.ensures.value)
    (imaged (λ v. v.items) a.outs.now i c.index-outs-place.result c.as_slice-results.result.now (omega (arith, lt, outs)) c.index-outs-place.is c.as_slice-results.ensures.value) in
    c.in_err-plan.ensures.misfit (sym same ∙ refused) k at.cut at.is (small i at.cut at.rest at.drops))

pub loop-place-preserved : goal.loop-place-preserved
loop-place-preserved c =
    let a = c.args in
    let i = c.loop-place.place in
    let lt = c.loop-place-test.true in
    let parts = c.requires.parts in
    let outs = c.requires.outs in
    record {
      count =
          let n = ap (λ ps. length ps) c.in_ok-push.ensures.items in
          let m = length-append c.loop-place.plans.items (c.in_ok-plan.plan ∷ []) in
          omega (arith, n, m, c.loop-place.invariant.count);
      fits = fits_more a.flows.now i c.index-flows-place.result _ lt c.index-flows-place.is c.in_ok-plan.ensures.fits c.loop-place.invariant.fits;
      plans = λ k cuts are.
          let at = cut_at k a.flows.now (map (λ v. v.items) a.parts.now) (map (λ v. v.items) a.outs.now) cuts are i c.index-flows-place.result c.as_slice-lines.result.now c.as_slice-results.result.now lt c.index-flows-place.is
          (imaged (λ v. v.items) a.parts.now i c.index-parts-place.result c.as_slice-lines.result.now (omega (arith, lt, parts)) c.index-parts-place.is c.as_slice-lines.ensures.value)
          (imaged (λ v. v.items) a.outs.now i c.index-outs-place.result c.as_slice-results.result.now (omega (arith, lt, outs)) c.index-outs-place.is c.as_slice-results.ensures.value) in
          plans_more cuts i at.cut at.rest (map placed_in c.loop-place.plans.items) (map placed_in c.push.new.self.items) _ (placed_in c.in_ok-plan.plan) at.drops
          (ap (λ ps. map placed_in ps) c.in_ok-push.ensures.items ∙ map_last placed_in c.loop-place.plans.items c.in_ok-plan.plan) (c.in_ok-plan.ensures.plan k at.cut at.is) (c.loop-place.invariant.plans k cuts are);
    }

pub returns-clause-plans : goal.returns-clause-plans
returns-clause-plans c k cuts are =
    let n = cuts_length k _ _ _ cuts are in
    let ended = c.loop-place-test.false in
    plans_all cuts c.loop-place.place (map placed_in c.loop-place.plans.items) _ (omega (arith, n, ended)) (c.loop-place.invariant.plans k cuts are)
