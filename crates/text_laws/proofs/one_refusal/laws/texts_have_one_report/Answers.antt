use Rattle.std.proofs.Common.{List, map, sym, ap, subst}
use Rattle.lir_core.specs.declared.flow.Flow.{Flow}
use Rattle.ssa_core.specs.declared.procedure.Proc.{Proc}
use Rattle.a64_select.specs.Selected.{selected}
use Rattle.source_image.specs.compiled_runs.Compiled.{flows_of}
use Rattle.source_image.specs.trace_report.Reports.{IsReport}
use Rattle.text_laws.proofs.one_refusal.Reports.{report_once}
use Rattle.text_laws.proofs.one_refusal.laws.texts_have_one_report.Goals as goal

pub returns : goal.returns
returns c = λ a b texts lines others policy builder x y.
    let one = c.texts_have_one_lowering.ensures texts x.program y.program x.of_texts y.of_texts x.well_formed y.well_formed in
    let flows = ap (λ (ps : List Proc). map selected ps) one.procedures in
    report_once a b policy builder 0 (flows_of x.program) lines others x.are (subst (λ (fs : List Flow). IsReport b 0 fs others) (sym flows) y.are)
