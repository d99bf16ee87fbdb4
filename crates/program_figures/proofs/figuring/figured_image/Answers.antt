use Rattle.std.proofs.Common.{◌<◌, ◌^◌, ℕ, List, get_or, map, length, sym, ap, ◌∙◌, subst, arith}
use Rattle.std.specs.Prelude.{All}
use Rattle.a64_memory.specs.Memory.{AreBytes}
use Rattle.lir_core.specs.declared.flow.Flow.{Flow}
use Rattle.lir_core.specs.Flows.{IsValidFlow}
use Rattle.trace_build.specs.Traces.{traces_in}
use Rattle.placed_code.specs.declared.data.ImageData.{ImageData}
use Rattle.noted_image.specs.words.flow_allocation.Allocations.{AreAllocated, items_of}
use Rattle.noted_image.specs.words.link_plan.Linked.{AreCuts, IsUnnamedAndFar, Runs, frame_of_cuts, linked}
use Rattle.noted_image.specs.words.program_image.Faults.{Tells}
use Rattle.noted_image.proofs.words.program_image.Fitting.{data_fits_as}
use Rattle.noted_image.proofs.planned_image.Placed.{valid_flows}
use Rattle.noted_image.proofs.Linked.{are_cuts, are_small, are_of_program, each_named, never_far, few_traces}
use Rattle.program_figures.specs.Lines.{over_all, moves_in, stores_in, loads_in}
use Rattle.program_figures.proofs.Figured.{figured, traces_told, words_told}
use Rattle.program_figures.proofs.figuring.figured_image.Goals as goal

pub returns-in-Err-Traces-clause-limit : goal.returns-in-Err-Traces-clause-limit
returns-in-Err-Traces-clause-limit g c = λ p is.
    let choice = c.args.choice.now in
    let over = c.in-Err-Traces.ensures.limit c.in-Err-Traces.field-0-is in
    subst (Tells choice p) (sym c.whole_limit.ensures)
    (traces_told choice p c.args.program.now is (subst (λ (fs : List Flow). 262144 < traces_in choice.builder fs) c.as_slice-flows.ensures.value (omega (arith, over))))

pub link-requires-clause-extra : goal.link-requires-clause-extra
link-requires-clause-extra g c =
    let p = c.requires.program.0 in
    let is = c.requires.program.2 in
    data_fits_as p is.within c.in-Ok-copied.extra (c.in-Ok-copied.ensures ∙ is.extra)

pub link-requires-clause-names : goal.link-requires-clause-names
link-requires-clause-names g c some =
    let choice = c.args.choice.now in
    let p = c.requires.program.0 in
    let made = c.args.program.now in
    let is = c.requires.program.2 in
    let there = c.as_slice-flows.ensures.value in
    let a = c.in-Ok.allocated in
    let valid = subst (All IsValidFlow) (sym there) (valid_flows made.flows.items is.placeable) in
    let h = subst (λ fs. AreAllocated choice 0 fs (items_of a.parts) (items_of a.outs) a.traces) there (c.in-Ok.ensures.allocated valid) in
    ap (λ (x : ImageData). length x.names) c.in-Ok-copied.ensures
    ∙ each_named choice c.requires.choice.few p made is (items_of a.parts) (items_of a.outs) a.traces h ∙ sym (ap length there)

pub returns-in-Err-Limit-clause-limit : goal.returns-in-Err-Limit-clause-limit
returns-in-Err-Limit-clause-limit g c = λ p is.
    let choice = c.args.choice.now in
    let few = c.requires.choice.few in
    let made = c.args.program.now in
    let there = c.as_slice-flows.ensures.value in
    let a = c.in-Ok.allocated in
    let parts = items_of a.parts in
    let outs = items_of a.outs in
    let valid = subst (All IsValidFlow) (sym there) (valid_flows made.flows.items is.placeable) in
    let h = subst (λ fs. AreAllocated choice 0 fs parts outs a.traces) there (c.in-Ok.ensures.allocated valid) in
    let there_cuts = subst (λ fs. AreCuts choice.regs fs parts outs h.cuts) (sym there) (are_cuts choice few p made is parts outs a.traces h) in
    let over = c.in-Err-Limit.ensures.limit c.in-Err-Limit.field-0-is choice.regs h.cuts there_cuts in
    subst (Tells choice p) (sym c.whole_limit-in-Err-Limit.ensures)
    (words_told choice p made is h.cuts (are_of_program choice few p made is parts outs a.traces h)
    (few_traces choice few p made is parts outs a.traces h (let short = c.in-Ok.ensures.few in omega (arith, short))) over)

pub unreachable-requires : goal.unreachable-requires
unreachable-requires g c =
    let choice = c.args.choice.now in
    let few = c.requires.choice.few in
    let p = c.requires.program.0 in
    let is = c.requires.program.2 in
    let made = c.args.program.now in
    let there = c.as_slice-flows.ensures.value in
    let a = c.in-Ok.allocated in
    let parts = items_of a.parts in
    let outs = items_of a.outs in
    let valid = subst (All IsValidFlow) (sym there) (valid_flows made.flows.items is.placeable) in
    let h = subst (λ fs. AreAllocated choice 0 fs parts outs a.traces) there (c.in-Ok.ensures.allocated valid) in
    let there_cuts = subst (λ fs. AreCuts choice.regs fs parts outs h.cuts) (sym there) (are_cuts choice few p made is parts outs a.traces h) in
    let far = c.in-Err-Misfit.ensures.misfit c.in-Err-Misfit.field-0-is choice.regs h.cuts there_cuts (are_small choice few p made is parts outs a.traces h) in
    never_far choice few p made is parts outs a.traces h (subst (λ (x : ImageData). IsUnnamedAndFar x (frame_of_cuts h.cuts)) c.in-Ok-copied.ensures far)

pub returns-in-Ok-link-clause-image : goal.returns-in-Ok-link-clause-image
returns-in-Ok-link-clause-image g c = λ p fine is.
    let choice = c.args.choice.now in
    let few = c.requires.choice.few in
    let made = c.args.program.now in
    let there = c.as_slice-flows.ensures.value in
    let a = c.in-Ok.allocated in
    let parts = items_of a.parts in
    let outs = items_of a.outs in
    let valid = subst (All IsValidFlow) (sym there) (valid_flows made.flows.items is.placeable) in
    let h = subst (λ fs. AreAllocated choice 0 fs parts outs a.traces) there (c.in-Ok.ensures.allocated valid) in
    let there_cuts = subst (λ fs. AreCuts choice.regs fs parts outs h.cuts) (sym there) (are_cuts choice few p made is parts outs a.traces h) in
    let extra = c.in-Ok-copied.ensures in
    let image = c.in-Ok-link.image in
    let e = c.in-Ok-link.ensures.image choice.regs h.cuts there_cuts ∙ ap (linked h.cuts) extra in
    let runs = subst (λ (x : ImageData). (input : List ℕ) → AreBytes x.constants → ((i : ℕ) → get_or input i 0 < 2 ^ 64) → Runs image h.cuts x input) extra
    (λ input bytes numbers. c.in-Ok-link.ensures.runs choice.regs h.cuts input there_cuts bytes numbers) in
    let counts = c.in-Ok-line_counts.ensures in
    let lines = c.as_slice.ensures.value in
    figured choice few p made is parts outs a.traces h fine (let short = c.in-Ok.ensures.few in omega (arith, short)) image e runs c.in-Ok-link.ensures.form
    c.figured.result _ _ _ c.figured.ensures.image c.figured.ensures.figures
    (counts.moves ∙ ap (λ ps. over_all moves_in (map (λ v. v.items) ps)) lines)
    (counts.stores ∙ ap (λ ps. over_all stores_in (map (λ v. v.items) ps)) lines)
    (counts.loads ∙ ap (λ ps. over_all loads_in (map (λ v. v.items) ps)) lines)
