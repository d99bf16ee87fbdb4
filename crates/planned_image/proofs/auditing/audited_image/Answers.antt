use Rattle.std.proofs.Common.{◌≡◌, ℕ, ◌<◌, ◌≤◌, ◌^◌, List, Bool, length, map, sym, ap, ◌∙◌, subst, arith}
use Rattle.std.specs.Prelude.{All}
use Rattle.std.proofs.lemmas.List.{length-map}
use Rattle.lir_core.specs.declared.flow.Flow.{Flow}
use Rattle.lir_core.specs.declared.places.TraceOut.{TraceOut}
use Rattle.lir_core.specs.Flows.{IsValidFlow}
use Rattle.alloc_audit.specs.declared.verdict.Verdict.TheVariants.{Sound}
use Rattle.alloc_audit.specs.Verdicts.{verdict_of}
use Rattle.alloc_audit.specs.Results.{AreLive, AreWalked}
use Rattle.procedure_code.proofs.Rows.{errs_with}
use Rattle.image_words.specs.back_end.Images.{code_length}
use Rattle.placed_image.specs.Placing.{CanBePlaced, IsPlacedImage}
use Rattle.placed_image.specs.Shares.{cuts_of}
use Rattle.placed_image.proofs.Results.{each_cut}
use Rattle.planned_image.specs.Audits.{TellsOfAudit}
use Rattle.planned_image.proofs.Placed.{valid_flows, extra_fits, each_named, can_be_placed, image_of_results, moved, moved_back, refused_told, placing_told}
use Rattle.planned_image.proofs.auditing.audited_image.Goals as goal

pub pass-requires-clause-cuts : goal.pass-requires-clause-cuts
pass-requires-clause-cuts c =
    let plan = c.args.plan in
    let each = each_cut c.requires.plan.builder plan.flows.items (map (λ v. v.items) plan.cuts.items) c.requires.plan.is.cut in
    ap length c.as_slice-cuts.ensures.value ∙ sym (length-map plan.cuts.items (λ v. v.items)) ∙ each ∙ sym (ap length c.as_slice-flows.ensures.value)

pub placed_image-requires-clause-results : goal.placed_image-requires-clause-results
placed_image-requires-clause-results c =
    let plan = c.args.plan in
    let is = c.requires.plan.is in
    let k = c.args.regs in
    let outs = c.args.outs.items in
    let gs = c.as_slice-flows.result.now in
    let ws = c.as_slice-cuts.result.now in
    let ef = c.as_slice-flows.ensures.value in
    let ec = c.as_slice-cuts.ensures.value in
    let valid = subst (All IsValidFlow) (sym ef) (valid_flows plan.flows.items is.placeable) in
    let there = subst (λ (os : List TraceOut). AreWalked k 0 gs (map (λ v. v.items) ws) os) c.as_slice.ensures.value (c.in_ok-pass.ensures.walked valid) in
    let walked = moved_back plan.flows.items gs plan.cuts.items ws ef ec (λ xs ys. AreWalked k 0 xs (map (λ v. v.items) ys) outs) there in
    moved plan.flows.items gs plan.cuts.items ws ef ec (λ xs ys. CanBePlaced xs (map (λ v. v.items) ys) outs)
    (can_be_placed c.requires.plan.builder c.requires.plan.program plan is c.requires.plan.well_formed k outs walked c.requires.enough c.requires.few)

pub placed_image-requires-clause-extra : goal.placed_image-requires-clause-extra
placed_image-requires-clause-extra c = extra_fits c.requires.plan.builder c.requires.plan.program c.args.plan c.requires.plan.is

pub placed_image-requires-clause-names : goal.placed_image-requires-clause-names
placed_image-requires-clause-names c = each_named c.requires.plan.builder c.requires.plan.program c.args.plan c.requires.plan.is ∙ sym (ap length c.as_slice-flows.ensures.value)

pub returns-clause-image : goal.returns-clause-image
returns-clause-image c builder program fine is =
    let plan = c.args.plan in
    let k = c.args.regs in
    let outs = c.args.outs.items in
    let gs = c.as_slice-flows.result.now in
    let ws = c.as_slice-cuts.result.now in
    let ef = c.as_slice-flows.ensures.value in
    let ec = c.as_slice-cuts.ensures.value in
    let valid = subst (All IsValidFlow) (sym ef) (valid_flows plan.flows.items is.placeable) in
    let there = subst (λ (os : List TraceOut). AreWalked k 0 gs (map (λ v. v.items) ws) os) c.as_slice.ensures.value (c.in_ok-pass.ensures.walked valid) in
    let walked = moved_back plan.flows.items gs plan.cuts.items ws ef ec (λ xs ys. AreWalked k 0 xs (map (λ v. v.items) ys) outs) there in
    let placed = moved_back plan.flows.items gs plan.cuts.items ws ef ec (λ xs ys. IsPlacedImage (cuts_of xs (map (λ v. v.items) ys) outs) plan.extra c.in_ok-image.image) c.in_ok-image.ensures.image in
    image_of_results builder program plan is fine k outs walked c.in_ok-image.image placed c.in_ok-image.ensures.form

pub returns-in_err-image-clause-refused : goal.returns-in_err-image-clause-refused
returns-in_err-image-clause-refused c =
    let plan = c.args.plan in
    let k = c.args.regs in
    let outs = c.args.outs.items in
    let gs = c.as_slice-flows.result.now in
    let ws = c.as_slice-cuts.result.now in
    let ef = c.as_slice-flows.ensures.value in
    let ec = c.as_slice-cuts.ensures.value in
    errs_with _ _ c.from_residual-in_err-image.result c.from_residual-in_err-image.ensures.1
    (λ fault same lives live.
    let there = subst (λ (fs : List Flow). AreLive fs lives) (sym ef) live in
    let on_slices = subst (λ (os : List TraceOut). verdict_of k gs lives (map (λ v. v.items) ws) os ≡ Sound) c.as_slice.ensures.value (c.in_ok-pass.ensures.sound lives there) in
    let sound = moved_back plan.flows.items gs plan.cuts.items ws ef ec (λ xs ys. verdict_of k xs lives (map (λ v. v.items) ys) outs ≡ Sound) on_slices in
    subst (TellsOfAudit k plan lives outs) (sym same)
    (placing_told k plan lives outs c.in_err-image.field-0.0 sound
    (λ e. moved_back plan.flows.items gs plan.cuts.items ws ef ec (λ xs ys. 2 ^ 18 < code_length (cuts_of xs (map (λ v. v.items) ys) outs)) (c.in_err-image.ensures.code e))))
