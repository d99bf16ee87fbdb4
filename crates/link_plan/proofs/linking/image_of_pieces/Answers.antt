use Rattle.std.proofs.Common.{map, sym, ap, ◌∙◌}
use Rattle.placed_code.specs.Claims.{places_of, version_of}
use Rattle.procedure_pieces.specs.Linked.{begins}
use Rattle.procedure_code.specs.Parts.{entry_at}
use Rattle.procedure_code.specs.Views.{piece_in}
use Rattle.procedure_code.proofs.Rows.{errs_with}
use Rattle.link_plan.proofs.Running.{over_is, image_is, image_runs}
use Rattle.link_plan.proofs.Forms.{form_is, placed_at}
use Rattle.link_plan.proofs.linking.image_of_pieces.Goals as goal

pub returns-in_err-words-clause-limit : goal.returns-in_err-words-clause-limit
returns-in_err-words-clause-limit c =
    errs_with _ _ c.from_residual.result c.from_residual.ensures.1
    (λ fault same limit k cuts are. over_is k _ cuts are (c.in_err-words.ensures.limit (sym same ∙ limit)))

pub returns-clause-image : goal.returns-clause-image
returns-clause-image c k cuts are =
    let qs = map piece_in c.args.pieces.now in
    image_is k qs cuts are c.args.extra c.version_of.result c.new.result c.greatest_frame-frame.result c.new-2.result
    (c.new.ensures ∙ c.in_ok-words.ensures.code)
    c.in_ok-words.ensures.fits
    c.greatest_frame-frame.ensures.greatest
    (c.version_of.ensures ∙ ap version_of c.as_slice-names.ensures)
    (c.new-2.ensures ∙ c.in_ok-places.ensures
    ∙ placed_at qs c.as_slice.result.now c.as_slice-names.result.now (λ p. ap (λ es. entry_at es p) c.as_slice.ensures.value ∙ c.in_ok-words.ensures.entries p) ∙ ap (places_of (begins qs) 0) c.as_slice-names.ensures)

pub returns-clause-form : goal.returns-clause-form
returns-clause-form c =
    let qs = map piece_in c.args.pieces.now in
    form_is c.args.pieces.now c.args.extra c.version_of.result c.new.result c.greatest_frame-frame.result c.new-2.result
    (c.new.ensures ∙ c.in_ok-words.ensures.code)
    c.requires.extra
    c.requires.names
    c.in_ok-words.ensures.fits
    (λ none. c.is_past.ensures.within c.if-is_past.false (c.as_slice-names.ensures ∙ none))
    c.greatest_frame-frame.ensures.most
    c.greatest_frame-frame.ensures.whole
    (c.version_of.ensures ∙ ap version_of c.as_slice-names.ensures)
    (c.new-2.ensures ∙ c.in_ok-places.ensures
    ∙ placed_at qs c.as_slice.result.now c.as_slice-names.result.now (λ p. ap (λ es. entry_at es p) c.as_slice.ensures.value ∙ c.in_ok-words.ensures.entries p) ∙ ap (places_of (begins qs) 0) c.as_slice-names.ensures)

pub returns-clause-runs : goal.returns-clause-runs
returns-clause-runs c k cuts input are bytes low =
    image_runs k (map piece_in c.args.pieces.now) cuts are _ c.args.extra input (returns-clause-image c k cuts are) (returns-clause-form c) c.greatest_frame-frame.ensures.most bytes low
