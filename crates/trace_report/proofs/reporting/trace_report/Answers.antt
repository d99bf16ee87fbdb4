use Rattle.std.proofs.Common.{◌≡◌, [], ◌++◌, ◌+◌, get_or, drop, refl, sym, ap, ◌∙◌, subst, append_assoc, arith}
use Rattle.std.proofs.lemmas.List.{append-nil, drop_all}
use Rattle.lir_core.specs.declared.flow.Flow.{Flow}
use Rattle.lir_core.specs.Flows.{IsValidFlow}
use Rattle.trace_build.specs.Traces.{traces_in}
use Rattle.trace_report.specs.Reports.{IsFlowReport, IsReport}
use Rattle.trace_report.proofs.Joined.{report_next, count_next}
use Rattle.trace_report.proofs.reporting.trace_report.Goals as goal

pub loop-place-preserved : goal.loop-place-preserved
loop-place-preserved c =
    let flows = c.args.flows.now in
    let choice = c.args.choice.now in
    let i = c.loop-place.place in
    let flow = c.index-flows-place.result in
    let same : get_or flows i flow ≡ flow = sym c.index-flows-place.is in
    record {
      lines = λ valid rest more.
          let made = c.in_ok-more.ensures.lines (subst IsValidFlow same (valid i flow c.loop-place-test.true)) in
          let one : IsFlowReport choice i (get_or flows i flow) made.0 =
          subst (λ (f : Flow). IsFlowReport choice i f made.0) (sym same) (subst (λ n. IsFlowReport choice n flow made.0) c.in_ok-procedure.ensures made.2) in
          subst (IsReport choice 0 flows) (sym (append_assoc c.loop-place.lines.items made.0 rest) ∙ ap (λ t. t ++ rest) (sym made.1))
          (c.loop-place.invariant.lines valid (made.0 ++ rest) (report_next choice flows i flow made.0 rest c.loop-place-test.true one more));
      count = subst (λ n. n + traces_in choice.builder (drop (i + 1) flows) ≡ traces_in choice.builder flows) (sym c.in_ok-traces.ensures)
          (count_next choice.builder flows i flow c.loop-place.traces c.in_ok-more.more c.loop-place-test.true same c.in_ok-more.ensures.count c.loop-place.invariant.count);
    }

pub returns-clause-lines : goal.returns-clause-lines
returns-clause-lines c = λ valid.
    let flows = c.args.flows.now in
    let i = c.loop-place.place in
    subst (IsReport c.args.choice.now 0 flows) (append-nil c.loop-place.lines.items)
    (c.loop-place.invariant.lines valid [] (subst (λ fs. IsReport c.args.choice.now i fs []) (sym (drop_all i flows c.loop-place-test.false)) refl))

pub returns-clause-count : goal.returns-clause-count
returns-clause-count c =
    let flows = c.args.flows.now in
    let i = c.loop-place.place in
    let none = ap (traces_in c.args.choice.now.builder) (drop_all i flows c.loop-place-test.false) in
    let count = c.loop-place.invariant.count in
    omega (arith, none, count)
