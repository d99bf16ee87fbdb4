use Rattle.std.proofs.Common.{arith, ◌<◌, List, map, length, sym, ap, ◌∙◌, subst}
use Rattle.std.specs.Prelude.{All}
use Rattle.std.proofs.lemmas.List.{length-map}
use Rattle.lir_core.specs.declared.flow.Flow.{Flow}
use Rattle.lir_core.specs.declared.flow.Trace.{Trace}
use Rattle.lir_core.specs.Flows.{IsValidFlow}
use Rattle.trace_build.specs.Traces.{traces_in}
use Rattle.noted_image.specs.words.flow_allocation.Allocations.{AreAllocated, items_of}
use Rattle.kept_plans.specs.Above.{AreAllParents}
use Rattle.noted_image.specs.words.link_plan.Linked.{AreCuts}
use Rattle.noted_image.proofs.words.link_plan.Cuts.{same_lengths}
use Rattle.noted_image.proofs.procedure_code.Rows.{errs_with}
use Rattle.noted_image.specs.placed_image.Cutting.{AreCutBy}
use Rattle.noted_image.proofs.placed_image.Results.{each_cut}
use Rattle.noted_image.proofs.words.program_image.Fitting.{data_fits_as}
use Rattle.noted_image.specs.words.program_image.Faults.{Tells}
use Rattle.noted_image.proofs.planned_image.Own.{cut_same}
use Rattle.noted_image.proofs.planned_image.Placed.{valid_flows}
use Rattle.noted_image.proofs.Linked.{are_cuts, are_small, are_of_program, each_named, never_far, few_traces, image_is}
use Rattle.shown_program.proofs.Told.{lowering_told, traces_told, words_told}
use Rattle.shown_program.proofs.making.shown_program.Goals as goal

pub returns-in_err-flows-clause-limit : goal.returns-in_err-flows-clause-limit
returns-in_err-flows-clause-limit g c =
    let choice = c.args.choice.now in
    let p = c.args.program.now in
    errs_with _ _ c.from_residual.result c.from_residual.ensures.1
    (λ fault same. subst (Tells choice p) (sym same) (lowering_told choice p c.in_err-flows.field-0.0 c.in_err-flows.ensures.limit))

pub returns-in-Err-Traces-clause-limit : goal.returns-in-Err-Traces-clause-limit
returns-in-Err-Traces-clause-limit g c =
    let choice = c.args.choice.now in
    let p = c.args.program.now in
    let made = c.in_ok-flows.ensures.flows in
    let over = c.in-Err-Traces.ensures.limit c.in-Err-Traces.field-0-is in
    subst (Tells choice p) (sym c.whole_limit.ensures)
    (traces_told choice p made.within (subst (λ (fs : List Flow). 262144 < traces_in choice.builder fs) (c.as_slice.ensures.value ∙ made.flows) (omega (arith, over))))

pub all_parents-requires : goal.all_parents-requires
all_parents-requires g c =
    let choice = c.args.choice.now in
    let made = c.in_ok-flows.field-0 in
    let is = c.in_ok-flows.ensures.flows in
    let valid = subst (All IsValidFlow) (sym c.as_slice-2.ensures.value) (valid_flows made.flows.items is.placeable) in
    let cut = subst (λ fs. AreCutBy choice.builder fs (map (λ v. v.items) c.in-Ok-cut_flows.cuts.items)) c.as_slice-2.ensures.value (c.in-Ok-cut_flows.ensures.cut valid) in
    let n = each_cut choice.builder made.flows.items (map (λ v. v.items) c.in-Ok-cut_flows.cuts.items) cut in
    let m = length-map c.in-Ok-cut_flows.cuts.items (λ v. v.items) in
    let a = ap length c.as_slice-3.ensures.value in
    let b = ap length c.as_slice-4.ensures.value in
    omega (arith, n, m, a, b)

pub link_kept-requires-clause-parts : goal.link_kept-requires-clause-parts
link_kept-requires-clause-parts g c =
    let choice = c.args.choice.now in
    let p = c.args.program.now in
    let made = c.in_ok-flows.field-0 in
    let is = c.in_ok-flows.ensures.flows in
    let there = c.as_slice.ensures.value in
    let a = c.in-Ok.allocated in
    let valid = subst (All IsValidFlow) (sym there) (valid_flows made.flows.items is.placeable) in
    let h = subst (λ fs. AreAllocated choice 0 fs (items_of a.parts) (items_of a.outs) a.traces) there (c.in-Ok.ensures.allocated valid) in
    let n = (same_lengths choice.regs made.flows.items (items_of a.parts) (items_of a.outs) h.cuts (are_cuts choice c.requires.choice.few p made is (items_of a.parts) (items_of a.outs) a.traces h)).0 in
    let m = length-map a.parts.items (λ v. v.items) in
    let x = ap length c.as_slice-5.ensures.value in
    let y = ap length c.as_slice-6.ensures.value in
    omega (arith, n, m, x, y)

pub link_kept-requires-clause-outs : goal.link_kept-requires-clause-outs
link_kept-requires-clause-outs g c =
    let choice = c.args.choice.now in
    let p = c.args.program.now in
    let made = c.in_ok-flows.field-0 in
    let is = c.in_ok-flows.ensures.flows in
    let there = c.as_slice.ensures.value in
    let a = c.in-Ok.allocated in
    let valid = subst (All IsValidFlow) (sym there) (valid_flows made.flows.items is.placeable) in
    let h = subst (λ fs. AreAllocated choice 0 fs (items_of a.parts) (items_of a.outs) a.traces) there (c.in-Ok.ensures.allocated valid) in
    let n = (same_lengths choice.regs made.flows.items (items_of a.parts) (items_of a.outs) h.cuts (are_cuts choice c.requires.choice.few p made is (items_of a.parts) (items_of a.outs) a.traces h)).1 in
    let m = length-map a.outs.items (λ v. v.items) in
    let x = ap length c.as_slice-5.ensures.value in
    let y = ap length c.as_slice-7.ensures.value in
    omega (arith, n, m, x, y)

pub link_kept-requires-clause-extra : goal.link_kept-requires-clause-extra
link_kept-requires-clause-extra g c =
    let is = c.in_ok-flows.ensures.flows in
    data_fits_as c.args.program.now is.within c.in_ok-flows.field-0.extra is.extra

pub link_kept-requires-clause-names : goal.link_kept-requires-clause-names
link_kept-requires-clause-names g c some =
    let choice = c.args.choice.now in
    let p = c.args.program.now in
    let made = c.in_ok-flows.field-0 in
    let is = c.in_ok-flows.ensures.flows in
    let there = c.as_slice.ensures.value in
    let a = c.in-Ok.allocated in
    let valid = subst (All IsValidFlow) (sym there) (valid_flows made.flows.items is.placeable) in
    let h = subst (λ fs. AreAllocated choice 0 fs (items_of a.parts) (items_of a.outs) a.traces) there (c.in-Ok.ensures.allocated valid) in
    each_named choice c.requires.choice.few p made is (items_of a.parts) (items_of a.outs) a.traces h ∙ sym (ap length c.as_slice-5.ensures.value)

pub returns-in-Err-Limit-clause-limit : goal.returns-in-Err-Limit-clause-limit
returns-in-Err-Limit-clause-limit g c =
    let choice = c.args.choice.now in
    let p = c.args.program.now in
    let made = c.in_ok-flows.field-0 in
    let is = c.in_ok-flows.ensures.flows in
    let there = c.as_slice.ensures.value in
    let a = c.in-Ok.allocated in
    let valid = subst (All IsValidFlow) (sym there) (valid_flows made.flows.items is.placeable) in
    let h = subst (λ fs. AreAllocated choice 0 fs (items_of a.parts) (items_of a.outs) a.traces) there (c.in-Ok.ensures.allocated valid) in
    let own = are_cuts choice c.requires.choice.few p made is (items_of a.parts) (items_of a.outs) a.traces h in
    let lent = subst (λ fs. AreCuts choice.regs fs (map (λ v. v.items) c.as_slice-6.result.now) (map (λ v. v.items) c.as_slice-7.result.now) h.cuts) (sym c.as_slice-5.ensures.value)
    (subst (λ ps. AreCuts choice.regs made.flows.items (map (λ v. v.items) ps) (map (λ v. v.items) c.as_slice-7.result.now) h.cuts) (sym c.as_slice-6.ensures.value)
    (subst (λ os. AreCuts choice.regs made.flows.items (items_of a.parts) (map (λ v. v.items) os) h.cuts) (sym c.as_slice-7.ensures.value) own)) in
    let over = c.in-Err-Limit.ensures.limit c.in-Err-Limit.field-0-is choice.regs h.cuts lent in
    subst (Tells choice p) (sym c.whole_limit-in-Err-Limit.ensures)
    (words_told choice p is.within h.cuts (are_of_program choice c.requires.choice.few p made is (items_of a.parts) (items_of a.outs) a.traces h) (few_traces choice c.requires.choice.few p made is (items_of a.parts) (items_of a.outs) a.traces h (let few = c.in-Ok.ensures.few in omega (arith, few))) over)

pub unreachable-requires : goal.unreachable-requires
unreachable-requires g c =
    let choice = c.args.choice.now in
    let p = c.args.program.now in
    let made = c.in_ok-flows.field-0 in
    let is = c.in_ok-flows.ensures.flows in
    let there = c.as_slice.ensures.value in
    let a = c.in-Ok.allocated in
    let valid = subst (All IsValidFlow) (sym there) (valid_flows made.flows.items is.placeable) in
    let h = subst (λ fs. AreAllocated choice 0 fs (items_of a.parts) (items_of a.outs) a.traces) there (c.in-Ok.ensures.allocated valid) in
    let own = are_cuts choice c.requires.choice.few p made is (items_of a.parts) (items_of a.outs) a.traces h in
    let lent = subst (λ fs. AreCuts choice.regs fs (map (λ v. v.items) c.as_slice-6.result.now) (map (λ v. v.items) c.as_slice-7.result.now) h.cuts) (sym c.as_slice-5.ensures.value)
    (subst (λ ps. AreCuts choice.regs made.flows.items (map (λ v. v.items) ps) (map (λ v. v.items) c.as_slice-7.result.now) h.cuts) (sym c.as_slice-6.ensures.value)
    (subst (λ os. AreCuts choice.regs made.flows.items (items_of a.parts) (map (λ v. v.items) os) h.cuts) (sym c.as_slice-7.ensures.value) own)) in
    never_far choice c.requires.choice.few p made is (items_of a.parts) (items_of a.outs) a.traces h
    (c.in-Err-Misfit.ensures.misfit c.in-Err-Misfit.field-0-is choice.regs h.cuts lent (are_small choice c.requires.choice.few p made is (items_of a.parts) (items_of a.outs) a.traces h))

pub returns-clause-shown : goal.returns-clause-shown
returns-clause-shown g c =
    let choice = c.args.choice.now in
    let p = c.args.program.now in
    let made = c.in_ok-flows.field-0 in
    let is = c.in_ok-flows.ensures.flows in
    let there = c.as_slice.ensures.value in
    let a = c.in-Ok.allocated in
    let valid = subst (All IsValidFlow) (sym there) (valid_flows made.flows.items is.placeable) in
    let h = subst (λ fs. AreAllocated choice 0 fs (items_of a.parts) (items_of a.outs) a.traces) there (c.in-Ok.ensures.allocated valid) in
    let own = are_cuts choice c.requires.choice.few p made is (items_of a.parts) (items_of a.outs) a.traces h in
    let lent = subst (λ fs. AreCuts choice.regs fs (map (λ v. v.items) c.as_slice-6.result.now) (map (λ v. v.items) c.as_slice-7.result.now) h.cuts) (sym c.as_slice-5.ensures.value)
    (subst (λ ps. AreCuts choice.regs made.flows.items (map (λ v. v.items) ps) (map (λ v. v.items) c.as_slice-7.result.now) h.cuts) (sym c.as_slice-6.ensures.value)
    (subst (λ os. AreCuts choice.regs made.flows.items (items_of a.parts) (map (λ v. v.items) os) h.cuts) (sym c.as_slice-7.ensures.value) own)) in
    let lists = map (λ v. v.items) c.in-Ok-cut_flows.cuts.items in
    let cut = subst (λ fs. AreCutBy choice.builder fs lists) c.as_slice-2.ensures.value
    (c.in-Ok-cut_flows.ensures.cut (subst (All IsValidFlow) (sym c.as_slice-2.ensures.value) (valid_flows made.flows.items is.placeable))) in
    let above = c.in-Ok-all_parents.ensures (subst (All IsValidFlow) (sym c.as_slice-3.ensures.value) (valid_flows made.flows.items is.placeable)) in
    record {
      within = is.within;
      cuts = h.cuts;
      is = image_is choice c.requires.choice.few p made is (items_of a.parts) (items_of a.outs) a.traces h (let few = c.in-Ok.ensures.few in omega (arith, few)) c.in-Ok-link_kept.linked.image (c.in-Ok-link_kept.ensures.image choice.regs h.cuts lent);
      form = c.in-Ok-link_kept.ensures.form;
      flows = h.flows_are;
      traces = cut_same choice 0 h.cuts lists h.each (subst (λ fs. AreCutBy choice.builder fs lists) h.flows_are cut);
      parents = subst (λ (ts : List (List Trace)). AreAllParents made.flows.items ts (map (λ v. v.items) c.in-Ok-all_parents.parents.items)) (ap (λ vs. map (λ v. v.items) vs) c.as_slice-4.ensures.value)
          (subst (λ (fs : List Flow). AreAllParents fs (map (λ v. v.items) c.as_slice-4.result.now) (map (λ v. v.items) c.in-Ok-all_parents.parents.items)) c.as_slice-3.ensures.value above);
      lines = h.parts_are;
      outs = h.outs_are;
      plans = c.in-Ok-link_kept.ensures.plans choice.regs h.cuts lent;
    }
