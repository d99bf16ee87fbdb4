use Rattle.std.proofs.Common.{◌≡◌, ◌≤◌, List, map, refl, sym, subst}
use Rattle.alloc_audit.specs.declared.verdict.Verdict.TheVariants.{Sound}
use Rattle.lir_core.specs.declared.places.TraceOut.{TraceOut}
use Rattle.noted_image.specs.audited_allocations.Joined.{joined}
use Rattle.noted_image.specs.words.back_end.Images.{AreCutsOf, code_length}
use Rattle.noted_image.specs.placed_image.Shares.{cuts_of}
use Rattle.linked_flows.specs.Allocations.{Cut}
use Rattle.ssa_core.specs.declared.procedure.Proc.{Proc}
use Rattle.noted_image.specs.planned_image.Audits.{IsImageOfResults, verdict_on}
use Rattle.noted_image.proofs.planned_image.Own.{own_pass, own_image}
use Rattle.note_laws.proofs.Own.{one_reading}
use Rattle.note_laws.proofs.Plans.{own_code}
use Rattle.note_laws.proofs.laws.notes_of_texts_pass.Goals as goal

pub returns-clause-pass : goal.returns-clause-pass
returns-clause-pass c choice texts made plan outs lives x y fits bytes live =
    let own = joined (map (λ (d : Cut). d.outs) x.is.cuts) in
    let one = c.texts_have_one_lowering.ensures texts x.program y.program x.of_texts y.of_texts x.well_formed y.well_formed in
    let same : own ≡ outs = one_reading made.notes.items own outs x.is.are_notes fits x.is.notes bytes in
    let are = subst (λ (ps : List Proc). AreCutsOf choice ps x.is.cuts) one.procedures x.is.is.are in
    subst (λ (os : List TraceOut). verdict_on choice.regs plan lives os ≡ Sound) same (own_pass choice y.program x.is.cuts are plan lives y.is live)

pub returns-clause-image : goal.returns-clause-image
returns-clause-image c choice texts made program outs image x of_texts fine fits bytes linked =
    let own = joined (map (λ (d : Cut). d.outs) x.is.cuts) in
    let one = c.texts_have_one_lowering.ensures texts program x.program of_texts x.of_texts fine x.well_formed in
    let same : own ≡ outs = one_reading made.notes.items own outs x.is.are_notes fits x.is.notes bytes in
    let are = subst (λ (ps : List Proc). AreCutsOf choice ps x.is.cuts) (sym one.procedures) x.is.is.are in
    let there = own_image choice program x.is.cuts are x.is.is.few image (subst (λ (os : List TraceOut). IsImageOfResults choice.builder choice.regs program os image) (sym same) linked) in
    (c.lowerings_have_one_image.ensures choice choice program x.program x.is.cuts x.is.cuts image made.image refl refl refl one there x.is.is).1

pub returns-clause-code : goal.returns-clause-code
returns-clause-code c choice texts made plan outs x y fits bytes =
    let own = joined (map (λ (d : Cut). d.outs) x.is.cuts) in
    let one = c.texts_have_one_lowering.ensures texts x.program y.program x.of_texts y.of_texts x.well_formed y.well_formed in
    let same : own ≡ outs = one_reading made.notes.items own outs x.is.are_notes fits x.is.notes bytes in
    let are = subst (λ (ps : List Proc). AreCutsOf choice ps x.is.cuts) one.procedures x.is.is.are in
    subst (λ (os : List TraceOut). code_length (cuts_of plan.flows.items (map (λ v. v.items) plan.cuts.items) os) ≤ 262144) same (own_code choice x.program made x.is y.program are plan y.is)
