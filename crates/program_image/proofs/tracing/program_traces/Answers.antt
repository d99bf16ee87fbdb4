use Rattle.std.proofs.Common.{◌≡◌, true, List, sym, ap, ◌∙◌, map, subst, arith}
use Rattle.std.specs.Prelude.{All}
use Rattle.lir_core.specs.declared.flow.Flow.{Flow}
use Rattle.lir_core.specs.Flows.{IsValidFlow}
use Rattle.ssa_core.specs.declared.procedure.Proc.{Proc}
use Rattle.a64_select.specs.Selected.{selected}
use Rattle.ssa_tables.proofs.Measuring.{measured}
use Rattle.ssa_lowered.specs.Lowered.{lowered}
use Rattle.back_end.specs.Images.{IsReady}
use Rattle.back_end.proofs.Ready.{valid_flows}
use Rattle.trace_build.specs.Traces.{traces_in}
use Rattle.trace_report.specs.Reports.{IsReport}
use Rattle.compiled_runs.specs.Compiled.{flows_of}
use Rattle.program_image.specs.Faults.{TellsOfTraces}
use Rattle.program_image.specs.Limits.{ByTraces}
use Rattle.program_image.proofs.Ready.{are_short, ready}
use Rattle.program_image.proofs.Telling.{lowering_tells_early}
use Rattle.program_image.proofs.tracing.program_traces.Goals as goal

pub lower_with_tables-requires : goal.lower_with_tables-requires
lower_with_tables-requires c = measured c.args.program.now c.requires.well_formed

pub returns-in-Err-clause-limit : goal.returns-in-Err-clause-limit
returns-in-Err-clause-limit c =
    let choice = c.args.choice.now in
    let p = c.args.program.now in
    subst (TellsOfTraces choice p) (sym c.of_lowering.ensures) (lowering_tells_early choice p c.in-Err.fault c.in-Err.ensures.limit)

pub select_all-requires : goal.select_all-requires
select_all-requires c =
    let p = c.args.program.now in
    let same = c.as_slice.ensures ∙ c.in-Ok.ensures.ok in
    let e : true ≡ c.are_short.result = let t = c.if-not-are_short.false in cc in
    let short = are_short p c.as_slice.result.now same (e ∙ c.are_short.ensures) in
    subst (All IsReady) (sym c.in-Ok.ensures.ok) (ready p c.requires.well_formed c.in-Ok.ensures.within short)

pub returns-then-report-gt-MOST_TRACES-clause-limit : goal.returns-then-report-gt-MOST_TRACES-clause-limit
returns-then-report-gt-MOST_TRACES-clause-limit c =
    let choice = c.args.choice.now in
    let p = c.args.program.now in
    let same = c.as_slice.ensures ∙ c.in-Ok.ensures.ok in
    let flows = c.as_slice-2.ensures.value ∙ c.in-Ok-select_all.ensures.flows ∙ ap (λ (ps : List Proc). map selected ps) c.in-Ok.ensures.ok in
    let count : c.in-Ok-trace_report.report.traces ≡ traces_in choice.builder (flows_of p) = c.in-Ok-trace_report.ensures.count ∙ ap (λ (fs : List Flow). traces_in choice.builder fs) flows in
    let over = c.if-report-gt-MOST_TRACES.true in
    subst (TellsOfTraces choice p) (sym c.whole_limit.ensures) (ByTraces c.in-Ok.ensures.within (omega (arith, over, count)))

pub returns-clause-report : goal.returns-clause-report
returns-clause-report c =
    let choice = c.args.choice.now in
    let p = c.args.program.now in
    let same = c.as_slice.ensures ∙ c.in-Ok.ensures.ok in
    let flows = c.as_slice-2.ensures.value ∙ c.in-Ok-select_all.ensures.flows ∙ ap (λ (ps : List Proc). map selected ps) c.in-Ok.ensures.ok in
    let e : true ≡ c.are_short.result = let t = c.if-not-are_short.false in cc in
    let short = are_short p c.as_slice.result.now same (e ∙ c.are_short.ensures) in
    let valid = subst (All IsValidFlow) (sym flows) (valid_flows (lowered p) (ready p c.requires.well_formed c.in-Ok.ensures.within short)) in
    subst (λ (fs : List Flow). IsReport choice 0 fs c.in-Ok-trace_report.report.lines.items) flows (c.in-Ok-trace_report.ensures.lines valid)
