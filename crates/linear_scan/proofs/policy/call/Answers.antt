use Rattle.std.proofs.Common.{◌∙◌, ap, length}
use Rattle.trace_needs.specs.Asked.{need_told}
use Rattle.lir_core.specs.Flows.{operation_of}
use Rattle.linear_scan.specs.Policy.{needed_in}
use Rattle.linear_scan.proofs.Lengths.{called_length, call_is}
use Rattle.linear_scan.proofs.policy.call.Goals as goal

pub returns-clause-step : goal.returns-clause-step
returns-clause-step c =
    call_is (need_told c.args.positions.now) c.args.behind c.args.index c.args.lir.now c.args.fw.now c.call.new.self c.drop_all.new.fw c.drop_definition.new.fw c.as_slice-3.result.now c.as_slice-2.result.now
    c.in_ok-call.ensures.step c.drop_all.ensures.step c.drop_definition.ensures.step c.as_slice-3.ensures
    (c.as_slice-2.ensures.value ∙ c.in_ok-keep.ensures ∙ ap (needed_in (need_told c.args.positions.now) c.args.behind) c.as_slice.ensures)

pub returns-clause-row : goal.returns-clause-row
returns-clause-row c =
    c.drop_definition.ensures.row ∙ c.drop_all.ensures.row ∙ ap (λ f. length f.part.regs) c.in_ok-call.ensures.step
    ∙ called_length c.args.index (operation_of c.args.lir.now) c.as_slice-2.result.now c.args.fw.now.part
