use Rattle.std.proofs.Common.{◌<◌, List, length, refl, sym, ap, ◌∙◌, subst, arith}
use Rattle.std.specs.Prelude.{All}
use Rattle.lir_core.specs.declared.flow.Flow.{Flow}
use Rattle.lir_core.specs.Flows.{IsValidFlow}
use Rattle.trace_build.specs.Traces.{traces_in}
use Rattle.planned_image.specs.words.compiled_runs.Compiled.{flows_of}
use Rattle.planned_image.specs.words.program_image.Faults.{TellsOfTraces}
use Rattle.planned_image.proofs.Placed.{valid_flows}
use Rattle.planned_image.proofs.Plans.{plan_told, traces_told}
use Rattle.module_object.specs.Objects.{AreResultsBehind, before_module}
use Rattle.module_object.proofs.Behind.{as_many, notable_behind, on_err}
use Rattle.module_object.proofs.results.own_results.Goals as goal

pub returns-in_err-flows-clause-limit : goal.returns-in_err-flows-clause-limit
returns-in_err-flows-clause-limit g c =
    let choice = c.args.choice.now in
    let p = c.args.program.now in
    on_err c.from_residual.result c.in_err-flows.field-0.0 (TellsOfTraces choice p) c.from_residual.ensures.1
    (plan_told choice.builder p c.in_err-flows.field-0.0 c.in_err-flows.ensures.limit choice refl)

pub results_behind-requires-clause-within : goal.results_behind-requires-clause-within
results_behind-requires-clause-within g c κs within =
    let made = c.in_ok-flows.field-0 in
    let few = c.before_module-first.ensures.within in
    let procedures = ap length c.as_slice.ensures in
    let flows = ap length c.as_slice-2.ensures.value in
    let many = as_many c.args.program.now made.flows.items c.in_ok-flows.ensures.flows.flows in
    omega (arith, few, procedures, flows, many)

pub returns-in-Ok-clause-results : goal.returns-in-Ok-clause-results
returns-in-Ok-clause-results g c =
    let choice = c.args.choice.now in
    let p = c.args.program.now in
    let made = c.in_ok-flows.field-0 in
    let is = c.in_ok-flows.ensures.flows in
    let there = c.as_slice-2.ensures.value in
    let valid = subst (All IsValidFlow) (sym there) (valid_flows made.flows.items is.placeable) in
    let outs = c.in-Ok.outs.items in
    subst (λ n. AreResultsBehind choice n (flows_of p) outs) (c.before_module-first.ensures.is ∙ ap (before_module c.args.number) c.as_slice.ensures)
    (subst (λ (fs : List Flow). AreResultsBehind choice c.before_module-first.result fs outs) (there ∙ is.flows) (c.in-Ok.ensures.results valid))

pub returns-in-Ok-clause-notable : goal.returns-in-Ok-clause-notable
returns-in-Ok-clause-notable g c =
    let choice = c.args.choice.now in
    let made = c.in_ok-flows.field-0 in
    let is = c.in_ok-flows.ensures.flows in
    let there = c.as_slice-2.ensures.value in
    let valid = subst (All IsValidFlow) (sym there) (valid_flows made.flows.items is.placeable) in
    let outs = c.in-Ok.outs.items in
    notable_behind choice c.before_module-first.result made.flows.items outs is.placeable
    (subst (λ (fs : List Flow). AreResultsBehind choice c.before_module-first.result fs outs) there (c.in-Ok.ensures.results valid))

pub returns-in-Err-Traces-clause-limit : goal.returns-in-Err-Traces-clause-limit
returns-in-Err-Traces-clause-limit g c =
    let choice = c.args.choice.now in
    let p = c.args.program.now in
    let is = c.in_ok-flows.ensures.flows in
    let over = c.in-Err-Traces.ensures.limit c.in-Err-Traces.field-0-is in
    subst (TellsOfTraces choice p) (sym c.whole_limit.ensures)
    (traces_told choice.builder p is.within (subst (λ (fs : List Flow). 262144 < traces_in choice.builder fs) (c.as_slice-2.ensures.value ∙ is.flows) over) choice refl)
