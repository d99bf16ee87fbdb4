use Rattle.std.proofs.Common.{◌≡◌, arith, ◌<◌, ◌≤◌, List, map, length, refl, sym, ap, ◌∙◌, subst}
use Rattle.std.specs.Prelude.{All}
use Rattle.lir_core.specs.declared.flow.Flow.{Flow}
use Rattle.lir_core.specs.Flows.{IsValidFlow}
use Rattle.trace_build.specs.Traces.{traces_in}
use Rattle.planned_image.specs.words.flow_allocation.Allocations.{AreAllocated, items_of}
use Rattle.plain_form.specs.results.Bounds.{IsNotable}
use Rattle.planned_image.specs.audited_allocations.Joined.{joined}
use Rattle.trace_notes.specs.Notes.{most_bytes, notes}
use Rattle.planned_image.specs.words.link_plan.Linked.{AreCuts}
use Rattle.planned_image.proofs.procedure_code.Rows.{errs_with}
use Rattle.planned_image.proofs.words.program_image.Fitting.{data_fits_as}
use Rattle.planned_image.proofs.Placed.{valid_flows}
use Rattle.noted_image.specs.Faults.{TellsWithNotes}
use Rattle.noted_image.specs.Notes.{AreKept}
use Rattle.noted_image.proofs.Linked.{are_cuts, are_small, are_of_program, notable, each_named, never_far, few_traces, image_is, image_means}
use Rattle.noted_image.proofs.Told.{lowering_told, traces_told, words_told, notes_told}
use Rattle.noted_image.proofs.Written.{kept_of, too_long_of}
use Rattle.noted_image.proofs.noting.noted_image.Goals as goal

pub returns-in_err-flows-clause-limit : goal.returns-in_err-flows-clause-limit
returns-in_err-flows-clause-limit g c =
    let choice = c.args.choice.now in
    let p = c.args.program.now in
    errs_with _ _ c.from_residual.result c.from_residual.ensures.1
    (λ fault same. subst (TellsWithNotes choice p) (sym same) (lowering_told choice p c.in_err-flows.field-0.0 c.in_err-flows.ensures.limit))

pub returns-in-Err-Traces-clause-limit : goal.returns-in-Err-Traces-clause-limit
returns-in-Err-Traces-clause-limit g c =
    let choice = c.args.choice.now in
    let p = c.args.program.now in
    let made = c.in_ok-flows.ensures.flows in
    let over = c.in-Err-Traces.ensures.limit c.in-Err-Traces.field-0-is in
    subst (TellsWithNotes choice p) (sym c.whole_limit.ensures)
    (traces_told choice p made.within (subst (λ (fs : List Flow). 262144 < traces_in choice.builder fs) (c.as_slice.ensures.value ∙ made.flows) (omega (arith, over))))

pub kept_notes-requires : goal.kept_notes-requires
kept_notes-requires g c =
    let choice = c.args.choice.now in
    let p = c.args.program.now in
    let made = c.in_ok-flows.field-0 in
    let is = c.in_ok-flows.ensures.flows in
    let there = c.as_slice.ensures.value in
    let a = c.in-Ok.allocated in
    let valid = subst (All IsValidFlow) (sym there) (valid_flows made.flows.items is.placeable) in
    let h = subst (λ fs. AreAllocated choice 0 fs (items_of a.parts) (items_of a.outs) a.traces) there (c.in-Ok.ensures.allocated valid) in
    subst (λ os. All IsNotable (joined (map (λ v. v.items) os))) (sym c.as_slice-2.ensures.value) (notable choice c.requires.choice.few p made is (items_of a.parts) (items_of a.outs) a.traces h)

pub link-requires-clause-extra : goal.link-requires-clause-extra
link-requires-clause-extra g c =
    let is = c.in_ok-flows.ensures.flows in
    data_fits_as c.args.program.now is.within c.in_ok-flows.field-0.extra is.extra

pub link-requires-clause-names : goal.link-requires-clause-names
link-requires-clause-names g c some =
    let choice = c.args.choice.now in
    let p = c.args.program.now in
    let made = c.in_ok-flows.field-0 in
    let is = c.in_ok-flows.ensures.flows in
    let there = c.as_slice.ensures.value in
    let a = c.in-Ok.allocated in
    let valid = subst (All IsValidFlow) (sym there) (valid_flows made.flows.items is.placeable) in
    let h = subst (λ fs. AreAllocated choice 0 fs (items_of a.parts) (items_of a.outs) a.traces) there (c.in-Ok.ensures.allocated valid) in
    each_named choice c.requires.choice.few p made is (items_of a.parts) (items_of a.outs) a.traces h ∙ sym (ap length c.as_slice-3.ensures.value)

pub returns-in-Err-Limit-clause-limit : goal.returns-in-Err-Limit-clause-limit
returns-in-Err-Limit-clause-limit g c =
    let choice = c.args.choice.now in
    let p = c.args.program.now in
    let made = c.in_ok-flows.field-0 in
    let is = c.in_ok-flows.ensures.flows in
    let there = c.as_slice.ensures.value in
    let a = c.in-Ok.allocated in
    let valid = subst (All IsValidFlow) (sym there) (valid_flows made.flows.items is.placeable) in
    let h = subst (λ fs. AreAllocated choice 0 fs (items_of a.parts) (items_of a.outs) a.traces) there (c.in-Ok.ensures.allocated valid) in
    let over = c.in-Err-Limit.ensures.limit c.in-Err-Limit.field-0-is choice.regs h.cuts (subst (λ fs. AreCuts choice.regs fs (items_of a.parts) (items_of a.outs) h.cuts) (sym c.as_slice-3.ensures.value) (are_cuts choice c.requires.choice.few p made is (items_of a.parts) (items_of a.outs) a.traces h)) in
    subst (TellsWithNotes choice p) (sym c.whole_limit-in-Err-Limit.ensures)
    (words_told choice p is.within h.cuts (are_of_program choice c.requires.choice.few p made is (items_of a.parts) (items_of a.outs) a.traces h) (few_traces choice c.requires.choice.few p made is (items_of a.parts) (items_of a.outs) a.traces h (let few = c.in-Ok.ensures.few in omega (arith, few))) over)

pub unreachable-requires : goal.unreachable-requires
unreachable-requires g c =
    let choice = c.args.choice.now in
    let p = c.args.program.now in
    let made = c.in_ok-flows.field-0 in
    let is = c.in_ok-flows.ensures.flows in
    let there = c.as_slice.ensures.value in
    let a = c.in-Ok.allocated in
    let valid = subst (All IsValidFlow) (sym there) (valid_flows made.flows.items is.placeable) in
    let h = subst (λ fs. AreAllocated choice 0 fs (items_of a.parts) (items_of a.outs) a.traces) there (c.in-Ok.ensures.allocated valid) in
    never_far choice c.requires.choice.few p made is (items_of a.parts) (items_of a.outs) a.traces h (c.in-Err-Misfit.ensures.misfit c.in-Err-Misfit.field-0-is choice.regs h.cuts (subst (λ fs. AreCuts choice.regs fs (items_of a.parts) (items_of a.outs) h.cuts) (sym c.as_slice-3.ensures.value) (are_cuts choice c.requires.choice.few p made is (items_of a.parts) (items_of a.outs) a.traces h)) (are_small choice c.requires.choice.few p made is (items_of a.parts) (items_of a.outs) a.traces h))

pub returns-in-Some-clause-image : goal.returns-in-Some-clause-image
returns-in-Some-clause-image g c =
    let choice = c.args.choice.now in
    let p = c.args.program.now in
    let made = c.in_ok-flows.field-0 in
    let is = c.in_ok-flows.ensures.flows in
    let there = c.as_slice.ensures.value in
    let a = c.in-Ok.allocated in
    let valid = subst (All IsValidFlow) (sym there) (valid_flows made.flows.items is.placeable) in
    let h = subst (λ fs. AreAllocated choice 0 fs (items_of a.parts) (items_of a.outs) a.traces) there (c.in-Ok.ensures.allocated valid) in
    let there_cuts = (subst (λ fs. AreCuts choice.regs fs (items_of a.parts) (items_of a.outs) h.cuts) (sym c.as_slice-3.ensures.value) (are_cuts choice c.requires.choice.few p made is (items_of a.parts) (items_of a.outs) a.traces h)) in
    let e = c.in-Ok-link.ensures.image choice.regs h.cuts there_cuts in
    let kept = kept_of (items_of a.outs) _ _ _ (ap (λ os. map (λ v. v.items) os) c.as_slice-2.ensures.value) c.in-Ok-kept_notes.ensures c.in-Some.is in
    record {
      within = is.within;
      cuts = h.cuts;
      is = image_is choice c.requires.choice.few p made is (items_of a.parts) (items_of a.outs) a.traces h (let few = c.in-Ok.ensures.few in omega (arith, few)) c.in-Ok-link.image e;
      means = image_means choice c.requires.choice.few p made is (items_of a.parts) (items_of a.outs) a.traces h c.requires.well_formed c.in-Ok-link.image e (λ input bytes numbers. c.in-Ok-link.ensures.runs choice.regs h.cuts input there_cuts bytes numbers) c.in-Ok-link.ensures.form;
      form = c.in-Ok-link.ensures.form;
      words = c.of_words.ensures;
      notes = subst (λ os. c.in-Some.notes.items ≡ notes (joined os)) h.outs_are kept.0;
      short = kept.1;
      are_notes = subst (λ os. Rattle.trace_notes.specs.Notes.AreNotes (joined os)) h.outs_are kept.2;
    }

pub returns-clause-limit : goal.returns-clause-limit
returns-clause-limit g c =
    let choice = c.args.choice.now in
    let p = c.args.program.now in
    let made = c.in_ok-flows.field-0 in
    let is = c.in_ok-flows.ensures.flows in
    let there = c.as_slice.ensures.value in
    let a = c.in-Ok.allocated in
    let valid = subst (All IsValidFlow) (sym there) (valid_flows made.flows.items is.placeable) in
    let h = subst (λ fs. AreAllocated choice 0 fs (items_of a.parts) (items_of a.outs) a.traces) there (c.in-Ok.ensures.allocated valid) in
    let there_cuts = (subst (λ fs. AreCuts choice.regs fs (items_of a.parts) (items_of a.outs) h.cuts) (sym c.as_slice-3.ensures.value) (are_cuts choice c.requires.choice.few p made is (items_of a.parts) (items_of a.outs) a.traces h)) in
    let e = c.in-Ok-link.ensures.image choice.regs h.cuts there_cuts in
    let long = too_long_of (items_of a.outs) _ _ (ap (λ os. map (λ v. v.items) os) c.as_slice-2.ensures.value) c.in-Ok-kept_notes.ensures c.in-None.is in
    subst (TellsWithNotes choice p) (sym c.whole_limit-in-None.ensures)
    (notes_told choice p is.within h.cuts c.in-Ok-link.image c.in-Ok-link.ensures.form (image_is choice c.requires.choice.few p made is (items_of a.parts) (items_of a.outs) a.traces h (let few = c.in-Ok.ensures.few in omega (arith, few)) c.in-Ok-link.image e)
    (subst (λ os. most_bytes < length (notes (joined os))) h.outs_are long))
