use Rattle.std.proofs.Common.{◌≡◌, ◌≤◌, List, map, sym, subst}
use Rattle.alloc_audit.specs.declared.verdict.Verdict.TheVariants.{Sound}
use Rattle.lir_core.specs.declared.places.TraceOut.{TraceOut}
use Rattle.module_object.specs.words.back_end.Images.{code_length}
use Rattle.module_object.specs.placed_image.Shares.{cuts_of}
use Rattle.module_object.specs.planned_image.Audits.{IsImageOfResults, verdict_on}
use Rattle.object_laws.proofs.Linked.{they_pass, their_image, their_code}
use Rattle.object_laws.proofs.laws.objects_link_as_built.Goals as goal

pub returns-clause-pass : goal.returns-clause-pass
returns-clause-pass c a b texts objects made plan lives policy builder regs h x y live =
    let same = c.objects_have_whole_results.ensures a b texts objects x.program x.cuts policy builder regs h x.of_texts x.well_formed x.is.are in
    subst (λ (os : List TraceOut). verdict_on b.regs plan lives os ≡ Sound) (sym same)
    (they_pass c.texts_have_one_lowering.ensures c.lowerings_have_one_image.ensures b texts made x plan y lives live)

pub returns-clause-image : goal.returns-clause-image
returns-clause-image c a b texts objects made p image policy builder regs h x of_texts well linked =
    let same = c.objects_have_whole_results.ensures a b texts objects x.program x.cuts policy builder regs h x.of_texts x.well_formed x.is.are in
    their_image c.texts_have_one_lowering.ensures c.lowerings_have_one_image.ensures b texts made x p of_texts well image
    (subst (λ (os : List TraceOut). IsImageOfResults b.builder b.regs p os image) same linked)

pub returns-clause-code : goal.returns-clause-code
returns-clause-code c a b texts objects made plan policy builder regs h x y =
    let same = c.objects_have_whole_results.ensures a b texts objects x.program x.cuts policy builder regs h x.of_texts x.well_formed x.is.are in
    subst (λ (os : List TraceOut). code_length (cuts_of plan.flows.items (map (λ v. v.items) plan.cuts.items) os) ≤ 262144) (sym same)
    (their_code c.texts_have_one_lowering.ensures c.lowerings_have_one_image.ensures b texts made x plan y)
