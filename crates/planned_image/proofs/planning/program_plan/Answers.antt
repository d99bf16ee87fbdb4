use Rattle.std.proofs.Common.{◌≡◌, ◌<◌, ◌≤◌, List, map, sym, ap, ◌∙◌, subst}
use Rattle.std.specs.Prelude.{All}
use Rattle.lir_core.specs.declared.flow.Flow.{Flow}
use Rattle.lir_core.specs.Flows.{IsValidFlow}
use Rattle.trace_build.specs.Traces.{traces_in}
use Rattle.procedure_code.proofs.Rows.{errs_with}
use Rattle.image_words.specs.compiled_runs.Compiled.{flows_of}
use Rattle.placed_image.specs.Cutting.{AreCutBy}
use Rattle.planned_image.specs.Plans.{TellsOfPlan}
use Rattle.planned_image.proofs.Placed.{valid_flows}
use Rattle.planned_image.proofs.Plans.{plan_told, traces_told}
use Rattle.planned_image.proofs.planning.program_plan.Goals as goal

pub returns-in_err-flows-clause-limit : goal.returns-in_err-flows-clause-limit
returns-in_err-flows-clause-limit c =
    let builder = c.args.builder in
    let p = c.args.program.now in
    errs_with _ _ c.from_residual.result c.from_residual.ensures.1
    (λ fault same. subst (TellsOfPlan builder p) (sym same) (plan_told builder p c.in_err-flows.field-0.0 c.in_err-flows.ensures.limit))

pub returns-in-Ok-clause-plan : goal.returns-in-Ok-clause-plan
returns-in-Ok-clause-plan c =
    let builder = c.args.builder in
    let p = c.args.program.now in
    let made = c.in_ok-flows.ensures.flows in
    let there = c.as_slice.ensures.value in
    let valid = subst (All IsValidFlow) (sym there) (valid_flows c.in_ok-flows.field-0.flows.items made.placeable) in
    record {
      within = made.within;
      short = made.short;
      flows = made.flows;
      placeable = made.placeable;
      cut = subst (λ (fs : List Flow). AreCutBy builder fs (map (λ v. v.items) c.in-Ok.cuts.items)) there (c.in-Ok.ensures.cut valid);
      few = subst (λ (fs : List Flow). traces_in builder fs ≤ 262144) (there ∙ made.flows) c.in-Ok.ensures.few;
      extra = made.extra;
    }

pub returns-in-Err-Traces-clause-limit : goal.returns-in-Err-Traces-clause-limit
returns-in-Err-Traces-clause-limit c =
    let builder = c.args.builder in
    let p = c.args.program.now in
    let made = c.in_ok-flows.ensures.flows in
    let over = c.in-Err-Traces.ensures.limit c.in-Err-Traces.field-0-is in
    subst (TellsOfPlan builder p) (sym c.whole_limit.ensures)
    (traces_told builder p made.within (subst (λ (fs : List Flow). 262144 < traces_in builder fs) (c.as_slice.ensures.value ∙ made.flows) over))
